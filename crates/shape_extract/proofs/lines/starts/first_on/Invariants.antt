use Rattle.std.proofs.Common.{◌≡◌, ◌<◌, ℕ, Some}
use Rattle.std.specs.Prelude.{slice_get}
use Rattle.geom.specs.declared.shapes.Shape.{Shape}
use Rattle.shape_extract.proofs.lines.starts.first_on.Given as goal

abbrev pub invariant-loop-n : goal.invariant-loop-n
invariant-loop-n l = (k : ℕ) (s : Shape) → k < l.n → slice_get l.shapes k ≡ Some s → s.layer ≡ l.layer → ⊥
