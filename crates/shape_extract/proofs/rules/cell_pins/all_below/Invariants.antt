use Rattle.std.proofs.Common.{◌≡◌, ◌<◌, ℕ, Some}
use Rattle.std.specs.Prelude.{slice_get, slice_index}
use Rattle.geom.specs.declared.shapes.Shape.{Shape}
use Rattle.shape_extract.proofs.rules.cell_pins.all_below.Given as goal

abbrev pub invariant-loop-number : goal.invariant-loop-number
invariant-loop-number l = (p : ℕ) (s : Shape) → p < l.number-index
    → slice_get l.shapes (slice_index l.numbers p) ≡ Some s → s.layer ≡ l.layer → s.datatype < l.n
