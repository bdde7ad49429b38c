use Rattle.std.proofs.Common.{◌≡◌, [], length}
use Rattle.std.specs.List.{flat_map}
use Rattle.std.specs.Str.{bytes_eq}
use Rattle.indexmap.specs.IndexSet.{insert_all}
use Rattle.blif_read.specs.Statements.{inputs_in, defined_in}
use Rattle.blif_read.specs.Parts.{signals}
use Rattle.blif_read.proofs.signals.signals.Given as goal

abbrev pub invariant-inputs : goal.invariant-inputs
invariant-inputs l = insert_all bytes_eq l.names.keys (flat_map inputs_in l.rest) ≡ insert_all bytes_eq []
    (flat_map inputs_in l.lines)

abbrev pub decreases-inputs : goal.decreases-inputs
decreases-inputs l = length l.rest

abbrev pub invariant-defined : goal.invariant-defined
invariant-defined l = insert_all bytes_eq l.names.keys
    (flat_map defined_in l.rest) ≡ insert_all bytes_eq [] (signals l.lines)

abbrev pub decreases-defined : goal.decreases-defined
decreases-defined l = length l.rest
