use Rattle.std.proofs.Common.{◌≡◌, ◌<◌, ℕ, Some, false}
use Rattle.std.specs.Prelude.{slice_get}
use Rattle.geom.specs.declared.shapes.Shape.{Shape}
use Rattle.layout_rules.specs.Layers.{is_frame}
use Rattle.shape_extract.proofs.rules.cell_rule.has_frame.Given as goal

abbrev pub invariant-loop-shape : goal.invariant-loop-shape
invariant-loop-shape l = (k : ℕ) (s : Shape) → k < l.shape-index → slice_get l.shapes k ≡ Some s → is_frame s ≡ false
