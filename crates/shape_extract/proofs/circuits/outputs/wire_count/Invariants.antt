use Rattle.std.proofs.Common.{◌≡◌, take}
use Rattle.std.specs.Prelude.{count_by}
use Rattle.shape_extract.specs.Extraction.{is_wired}
use Rattle.shape_extract.proofs.circuits.outputs.wire_count.Given as goal

abbrev pub invariant-loop-p : goal.invariant-loop-p
invariant-loop-p l = l.wires ≡ count_by (is_wired l.fn.flat) (take l.p l.fn.flat.shapes)
