-- Where the rule of cells is kept, a pin lies in a frame.
use Rattle.std.proofs.Common.{◌≡◌, ℕ, ◌<◌, true, ◌&&◌, ℤ, List, length, Some, inl, inr, sym, ap, ◌∙◌, arith}
use Rattle.std.specs.Prelude.{slice_index, slice_get}
use Rattle.std.proofs.lemmas.Bool.{cases_lt, and_parts}
use Rattle.std.proofs.lemmas.Option.{same_Some}
use Rattle.std.specs.Prelude.{◌⊎◌}
use Rattle.geom.specs.Rectangle.{within}
use Rattle.geom.specs.declared.shapes.Shape.{Shape}
use Rattle.layout_rules.specs.Layers.{is_pin, is_frame}
use Rattle.layout_rules.specs.Rows.{row_of, AreRows}
use Rattle.layout_rules.proofs.RowLaws.{row_of-certified}
use Rattle.layout_rules.specs.Pins.{lies_in, LiesIn}
use Rattle.layout_rules.specs.Reports.{ReportsNone, Passes, PassTogether}
use Rattle.layout_rules.specs.CircuitRules.{IsNoCell, IsStrayPin, CellsBroken}
use Rattle.layout_rules.proofs.ReportLaws.{second_kept, alone_kept}
use Rattle.shape_extract.specs.Searches.{AreThose}
use Rattle.shape_extract.specs.Code.Edges.{IsAmong}
use Rattle.shape_extract.specs.Code.PinRows.{IsRowOf}

module _ (shapes : List Shape) (p : ℕ) (kept : ReportsNone (CellsBroken shapes)) (pin : Passes is_pin shapes p)
    (frames : List ℕ) (are : AreThose (PassTogether lies_in shapes p) frames) where
  pub some_frame : 0 < length frames
  some_frame = elim (cases_lt 0 (length frames)) [
    | inl some ↦ some
    | inr none ↦ absurd (alone_kept (λ n. IsNoCell shapes n ⊎ IsStrayPin shapes n)
        (second_kept _ _ kept) p (inr (record {
          pin = pin;
          not_so = λ one. (
              let k = are.complete one.frame
              (record {
                first = one.lies.pin;
                second = one.lies.frame;
                first_is = one.lies.pin_is;
                second_is = one.lies.frame_is;
                passes_so = one.lies.lies_so;
              }) in
              omega (arith, k.1.0)
              );
        })))
  ]

  pub first_lies : LiesIn shapes p (slice_index frames 0)
  first_lies = let both : PassTogether lies_in shapes p (slice_index frames 0) =
      are.each 0 some_frame in record {
        pin = both.first;
        frame = both.second;
        pin_is = both.first_is;
        frame_is = both.second_is;
        lies_so = both.passes_so;
      }

-- ---- the row of a pin

module _ (shapes : List Shape) (edges : List ℤ) (rows : AreRows shapes edges) (p f : ℕ) (lies : LiesIn shapes p f) where
  pub frame_edge : (s : Shape) → slice_get shapes f ≡ Some s → IsAmong edges s.rect.y0
  frame_edge s got =
      let frame_so : is_frame lies.frame ≡ true =
      (and_parts (is_pin lies.pin) (is_frame lies.frame)
      (and_parts (is_pin lies.pin && is_frame lies.frame)
      (within lies.pin.rect lies.frame.rect) lies.lies_so).0).1 in
      let same : lies.frame ≡ s = same_Some lies.frame s (sym lies.frame_is ∙ got) in
      rows.each f s got (ap is_frame (sym same) ∙ frame_so)

  pub row_from : (s : Shape) (r : ℕ) → slice_get shapes f ≡ Some s
      → slice_get edges r ≡ Some s.rect.y0 → IsRowOf shapes p r
  row_from s r got at =
      let same : lies.frame ≡ s = same_Some lies.frame s (sym lies.frame_is ∙ got) in
      record {
        frame = f;
        lies = lies;
        row_is = ap (λ (x : Shape). row_of shapes x.rect.y0) same ∙ row_of-certified shapes edges rows r s.rect.y0 at;
      }
