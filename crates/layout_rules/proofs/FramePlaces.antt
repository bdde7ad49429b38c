-- A cell that is excited by the rule has one place along its line.
use Rattle.std.proofs.Common.{◌≡◌, ℕ, suc, ◌+◌, true, List, take, refl, sym, ap, subst, ◌∙◌, slice_get}
use Rattle.std.specs.Prelude.{sum_by}
use Rattle.std.proofs.lemmas.Option.{same_Some}
use Rattle.geom.specs.declared.shapes.Shape.{Shape}
use Rattle.geom.specs.Rectangle.{width, overlap}
use Rattle.layout_rules.specs.ExcitationLines.{BarHasPhase}
use Rattle.layout_rules.specs.ExcitationRule.{IsExcited, IsCutOff, AreLaidOut}
use Rattle.layout_rules.specs.Reports.{ReportsNone, Alone}
use Rattle.layout_rules.specs.LinePlaces.{way_at, way_into, ComesTo, IsPlaced}
use Rattle.layout_rules.proofs.WaysAdd.{one_way}

-- where a bar of some phase lies over a frame, the line comes to the frame somewhere
pub placed : (shapes : List Shape) (frame : Shape) (bar phase : ℕ) (has : BarHasPhase shapes bar phase)
    → overlap has.is_bar.shape.rect frame.rect ≡ true → (near : ℕ) × (far : ℕ) × IsPlaced shapes frame near far
placed shapes frame bar phase has over =
    from (sum_by (way_at shapes) (take (suc has.is_before.place) has.is_before.path)) refl
  where
    from : (d : ℕ) → d ≡ sum_by (way_at shapes) (take (suc has.is_before.place) has.is_before.path)
        → (near : ℕ) × (far : ℕ) × IsPlaced shapes frame near far
    from d d_is = (
      d + way_into has.before_shape has.is_bar.shape frame,
      d + way_into has.before_shape has.is_bar.shape frame + width frame.rect,
      record {
        bar = bar;
        is_bar = has.is_bar;
        over = over;
        before = has.before;
        before_shape = has.before_shape;
        before_shape_is = has.before_shape_is;
        distance = d;
        comes = record {
          layer = has.is_before.layer;
          path = has.is_before.path;
          line = has.is_before.line;
          place = has.is_before.place;
          within = has.is_before.within;
          first_is = has.is_before.first_is;
          second_is = has.is_before.second_is;
          distance_is = d_is;
        };
        near_is = refl;
        far_is = refl;
      },
    )

module _ (shapes : List Shape) where
  module _ (lines : AreLaidOut shapes) (cut : ReportsNone (Alone (IsCutOff shapes))) where
    pub one_place : (frame : Shape) → IsExcited shapes frame → (near far other_near other_far : ℕ)
        → IsPlaced shapes frame near far → IsPlaced shapes frame other_near other_far
        → (near ≡ other_near) × (far ≡ other_far)
    one_place frame is near far other_near other_far p q =
        (nears, p.far_is ∙ ap (λ (n : ℕ). n + width frame.rect) nears ∙ sym q.far_is)
      where
        bars : p.bar ≡ q.bar
        bars = is.only p.bar p.is_bar.shape p.is_bar.shape_is p.is_bar.line_so p.over
            ∙ sym (is.only q.bar q.is_bar.shape q.is_bar.shape_is q.is_bar.line_so q.over)

        ways : (p.before ≡ q.before) × (p.distance ≡ q.distance)
        ways = one_way shapes lines cut p.before q.before p.bar p.distance q.distance p.comes
            (subst (λ (b : ℕ). ComesTo shapes q.before b q.distance) (sym bars) q.comes)

        bar_shapes : p.is_bar.shape ≡ q.is_bar.shape
        bar_shapes = same_Some p.is_bar.shape q.is_bar.shape
            (sym p.is_bar.shape_is ∙ ap (λ (n : ℕ). slice_get shapes n) bars ∙ q.is_bar.shape_is)

        before_shapes : p.before_shape ≡ q.before_shape
        before_shapes = same_Some p.before_shape q.before_shape
            (sym p.before_shape_is ∙ ap (λ (n : ℕ). slice_get shapes n) ways.0 ∙ q.before_shape_is)

        nears : near ≡ other_near
        nears = p.near_is
            ∙ ap (λ (d : ℕ). d + way_into p.before_shape p.is_bar.shape frame) ways.1
            ∙ ap (λ (s : Shape). q.distance + way_into s p.is_bar.shape frame) before_shapes
            ∙ ap (λ (s : Shape). q.distance + way_into q.before_shape s frame) bar_shapes
            ∙ sym q.near_is
