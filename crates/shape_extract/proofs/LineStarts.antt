-- The least shape of a layer, and the starts of a layer, counted.
use Rattle.std.proofs.Common.{◌≡◌, ◌≢◌, ℕ, ◌+◌, ◌<◌, ◌≤◌, inl, inr, true, ◌&&◌, List, length, Some, refl, sym, ap, ◌∙◌}
use Rattle.std.proofs.Common.{arith, eq-eqb}
use Rattle.std.specs.Prelude.{slice_get, count_by, ◌==◌}
use Rattle.std.proofs.lemmas.Bool.{cases_eq, cases_lt, and_parts, and_from, eqb-true}
use Rattle.std.proofs.lemmas.Option.{same_Some, slice_get_within}
use Rattle.geom.specs.declared.shapes.Shape.{Shape}
use Rattle.layout_rules.specs.declared.layers.TheConstants.{START}
use Rattle.layout_rules.specs.Layers.{is_line}
use Rattle.layout_rules.proofs.PlaceLaws.{count_by-once, count_by-one}
use Rattle.layout_rules.specs.Reports.{ReportsNone, Alone, IsFirstReport}
use Rattle.layout_rules.specs.ExcitationRule.{IsStartOn, HasOneStart, LacksOneStart}
use Rattle.shape_extract.specs.Code.LineParts.{is_start_on, IsLeastOn}
use Rattle.shape_extract.proofs.Marked.{place_of_count}

-- ---- the least shape of a layer

pub none_on_next : (shapes : List Shape) (layer n : ℕ) (here : Shape)
    → ((k : ℕ) (s : Shape) → k < n → slice_get shapes k ≡ Some s → s.layer ≡ layer → ⊥)
    → slice_get shapes n ≡ Some here → here.layer ≢ layer
    → (k : ℕ) (s : Shape) → k < n + 1 → slice_get shapes k ≡ Some s → s.layer ≡ layer → ⊥
none_on_next shapes layer n here before got ne k s lt at on = elim (cases_eq k n) [
  | inl e ↦ ne (ap (λ (x : Shape). x.layer) (same_Some here s (sym got ∙ (ap (slice_get shapes) (sym e) ∙ at))) ∙ on)
  | inr other ↦ before k s (omega arith) at on
]

pub least_on : (shapes : List Shape) (layer n : ℕ) (here : Shape)
    → ((k : ℕ) (s : Shape) → k < n → slice_get shapes k ≡ Some s → s.layer ≡ layer → ⊥) → slice_get shapes n ≡ Some here
    → here.layer ≡ layer → IsLeastOn shapes layer n
least_on shapes layer n here before got on = record {
  shape = here;
  shape_is = got;
  of_layer = on;
  least = λ c s at of. elim (cases_lt c n) [ inl lt ↦ absurd (before c s lt at of) | inr ge ↦ ge ];
}

pub none_on : (shapes : List Shape) (layer n : ℕ) → length shapes ≤ n
    → ((k : ℕ) (s : Shape) → k < n → slice_get shapes k ≡ Some s → s.layer ≡ layer → ⊥) → (k : ℕ) (s : Shape)
    → slice_get shapes k ≡ Some s → s.layer ≡ layer → ⊥
none_on shapes layer n all before k s at on = let lt : k < length shapes =
    slice_get_within shapes k s at in before k s (omega arith) at on

-- ---- starts

module _ (shapes : List Shape) (layer : ℕ) where
  start_at : (i : ℕ) (s : Shape) → slice_get shapes i ≡ Some s → is_start_on layer s ≡ true → IsStartOn shapes layer i
  start_at i s at e =
      let both = and_parts (is_line s && s.datatype == START) (s.layer == layer) e in
      let part = and_parts (is_line s) (s.datatype == START) both.0 in
      record {
        start = record {
          shape = s;
          shape_is = at;
          line_so = part.0;
          datatype_is = eqb-true s.datatype START part.1;
        };
        of_layer = eqb-true s.layer layer both.1;
      }

  start_passes : (i : ℕ) (is : IsStartOn shapes layer i) → is_start_on layer is.start.shape ≡ true
  start_passes i is = and_from (is_line is.start.shape && is.start.shape.datatype == START)
      (is.start.shape.layer == layer)
      (and_from (is_line is.start.shape) (is.start.shape.datatype == START) is.start.line_so
      (eq-eqb is.start.shape.datatype START is.start.datatype_is))
      (eq-eqb is.start.shape.layer layer is.of_layer)

  pub one_counted : count_by (is_start_on layer) shapes ≡ 1 → HasOneStart shapes layer
  one_counted count =
      let at = place_of_count (is_start_on layer) shapes 0 count in
      record {
        number = at.place;
        start = start_at at.place at.item at.item_is at.passes_so;
        only = λ i is. count_by-one (is_start_on layer) shapes i at.place is.start.shape at.item count is.start.shape_is
            (start_passes i is) at.item_is at.passes_so;
      }

  pub counted_one : HasOneStart shapes layer → count_by (is_start_on layer) shapes ≡ 1
  counted_one one = count_by-once (is_start_on layer) shapes one.number one.start.start.shape one.start.start.shape_is
      (start_passes one.number one.start)
      (λ n y at e. one.only n (start_at n y at e))

  -- ---- the report

  pub has_start : (count : ℕ) → count ≡ count_by (is_start_on layer) shapes → count ≡ 1
      → ReportsNone (Alone (LacksOneStart shapes layer))
  has_start count counted one a b report = report.0.not_one (one_counted (sym counted ∙ one))

  pub lacks_start : (count a : ℕ) → IsLeastOn shapes layer a → count ≡ count_by (is_start_on layer) shapes → count ≢ 1
      → IsFirstReport (Alone (LacksOneStart shapes layer)) a a
  lacks_start count a first counted ne = record {
    reported = (
      record {
        shape = first.shape;
        shape_is = first.shape_is;
        of_layer = first.of_layer;
        least = first.least;
        not_one = λ one. ne (counted ∙ counted_one one);
      },
      refl,
    );
    least = λ c d report. (
        let up : a ≤ c = first.least c report.0.shape report.0.shape_is report.0.of_layer in
        let down : c ≤ a = report.0.least a first.shape first.shape_is first.of_layer in
        let same : d ≡ c = report.1 in
        inr (omega arith, omega arith)
        );
  }
