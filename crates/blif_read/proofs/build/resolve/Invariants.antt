use Rattle.std.proofs.Common.{◌≡◌, ◌++◌, map, length}
use Rattle.std.specs.List.{flat_map}
use Rattle.blif_read.specs.Statements.{outputs_in}
use Rattle.blif_read.specs.Parts.{definitions, number}
use Rattle.blif_read.specs.Faults.{undefined_fault}
use Rattle.blif_read.proofs.build.resolve.Given as goal

abbrev pub invariant-lines : goal.invariant-lines
invariant-lines l = record {
  sound : undefined_fault l.names.keys l.rest ≡ undefined_fault l.names.keys l.lines;
  defs : l.defs ++ definitions l.names.keys l.rest ≡ definitions l.names.keys l.lines;
  outputs : l.outputs ++ map (number l.names.keys) (flat_map outputs_in l.rest) ≡ map (number l.names.keys)
      (flat_map outputs_in l.lines);
}

abbrev pub decreases-lines : goal.decreases-lines
decreases-lines l = length l.rest
