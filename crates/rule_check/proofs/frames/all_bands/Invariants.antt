use Rattle.std.proofs.Common.{◌≡◌, ℕ, ◌<◌, ◌≤◌, length, true, Some}
use Rattle.std.specs.Prelude.{slice_get, Contains}
use Rattle.geom.specs.declared.shapes.Shape.{Shape}
use Rattle.layout_rules.specs.Layers.{is_frame}
use Rattle.rule_check.specs.Code.Bands.{band_of}
use Rattle.rule_check.proofs.frames.all_bands.Given as goal

abbrev pub invariant-loop-shape : goal.invariant-loop-shape
invariant-loop-shape l = record {
  are : (n : ℕ) (s : Shape) → n < l.shape-index → slice_get l.shapes n ≡ Some s → is_frame s ≡ true
      → Contains l.bands.items (band_of s);
  few : length l.bands.items ≤ l.shape-index;
}
