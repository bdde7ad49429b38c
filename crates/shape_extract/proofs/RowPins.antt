-- The rows of all pins, and what the rule of rows reports of an input pin.
use Rattle.std.proofs.Common.{◌≡◌, ◌≢◌, ℕ, suc, ◌+◌, ◌<◌, ◌≤◌, true, false, List, [], ◌∷◌, ◌++◌, length, Option, Some}
use Rattle.std.proofs.Common.{None, refl, sym, ap, subst, ◌∙◌, arith, inl, inr}
use Rattle.std.specs.Prelude.{slice_get, slice_index}
use Rattle.std.proofs.Math.ListN.{get_or-append, length-append}
use Rattle.std.proofs.Math.Seq.{get_or-append_seam}
use Rattle.std.proofs.lemmas.Option.{same_Some, slice_get_within}
use Rattle.std.proofs.lemmas.Bool.{cases_eq, cases_lt, both_ways}
use Rattle.std.specs.Prelude.{◌⊎◌}
use Rattle.geom.specs.declared.shapes.Shape.{Shape}
use Rattle.geom.specs.declared.shapes.Flat.{Flat}
use Rattle.layout_rules.specs.declared.layers.TheConstants.{INPUT_PIN, OUTPUT_PIN}
use Rattle.layout_rules.specs.Layers.{is_pin}
use Rattle.layout_rules.specs.Labels.{is_labelled}
use Rattle.layout_rules.specs.Pins.{LiesIn}
use Rattle.layout_rules.specs.Rows.{row_of}
use Rattle.layout_rules.specs.Reports.{ReportsNone, Passes}
use Rattle.layout_rules.specs.CircuitRules.{IsNoCell, IsStrayPin, CellsBroken, RowsBroken}
use Rattle.layout_rules.proofs.ReportLaws.{second_kept, alone_kept}
use Rattle.layout_rules.proofs.Deciding.{settled}
use Rattle.shape_extract.proofs.Searching.{not_falling}
use Rattle.shape_extract.specs.Searches.{FindsAt, AreThose}
use Rattle.shape_extract.specs.Code.NetPins.{IsPinIn}
use Rattle.shape_extract.specs.Code.PinRows.{IsRowOf}
use Rattle.shape_extract.specs.Code.RowFaults.{ArePinRows, AreRowed, FindsAstray}

-- ---- the rows of the first pins

pub record RowsBelow (n : ℕ) (shapes : List Shape) (rows : List ℕ) : Type 0 where
  pub long : length rows ≡ n
  pub each : (p : ℕ) → p < n → Passes is_pin shapes p → IsRowOf shapes p (slice_index rows p)

pub rows_more : (n : ℕ) (shapes : List Shape) (rows : List ℕ) (row : ℕ) → RowsBelow n shapes rows
    → (Passes is_pin shapes n → IsRowOf shapes n row) → RowsBelow (n + 1) shapes (rows ++ row ∷ [])
rows_more n shapes rows row are here =
    let last : slice_index (rows ++ row ∷ []) (length rows) ≡ row = get_or-append_seam rows row [] 0 in
    record {
      long = omega (arith, length-append rows (row ∷ []), are.long);
      each = λ p lt pin. elim (cases_eq p n) [
        | inl e ↦
            let is : slice_index (rows ++ row ∷ []) p ≡ row = ap (slice_index (rows ++ row ∷ []))
            (e ∙ sym are.long) ∙ last in
            subst (IsRowOf shapes p) (sym is)
            (rw e (here (subst (Passes is_pin shapes) e pin)))
        | inr ne ↦
            let old : slice_index (rows ++ row ∷ []) p ≡ slice_index rows p = get_or-append rows (row ∷ []) 0 p
            (omega (arith, are.long)) in
            subst (IsRowOf shapes p) (sym old) (are.each p (omega arith) pin)
      ];
    }

pub rows_all : (n : ℕ) (shapes : List Shape) (rows : List ℕ) → length shapes ≤ n → n ≤ length shapes
    → RowsBelow n shapes rows → ArePinRows shapes rows
rows_all n shapes rows all most are = record {
  long = omega (arith, are.long);
  each = λ p pin. (let lt : p < length shapes =
      slice_get_within shapes p pin.shape pin.shape_is in are.each p (omega arith) pin);
}

-- ---- a pin has one row

module _ (shapes : List Shape) (kept : ReportsNone (CellsBroken shapes)) (rows : List ℕ)
    (are : ArePinRows shapes rows) where
  pub row_is : (p f : ℕ) → Passes is_pin shapes p → (lies : LiesIn shapes p f)
      → row_of shapes lies.frame.rect.y0 ≡ slice_index rows p
  row_is p f pin lies =
      let known : IsRowOf shapes p (slice_index rows p) = are.each p pin in
      let same : f ≡ known.frame = settled f known.frame
      (λ ne. alone_kept (λ n. IsNoCell shapes n ⊎ IsStrayPin shapes n) (second_kept _ _ kept) p (inr (record {
        pin = pin;
        not_so = λ one. ne (one.only f lies ∙ sym (one.only known.frame known.lies));
      }))) in
      let shape : lies.frame ≡ known.lies.frame = same_Some lies.frame known.lies.frame (sym lies.frame_is
      ∙ (ap (slice_get shapes) same ∙ known.lies.frame_is)) in
      ap (λ (s : Shape). row_of shapes s.rect.y0) shape ∙ known.row_is

pub input_pin : (s : Shape) → s.layer ≡ INPUT_PIN → is_pin s ≡ true
input_pin s e = rw e refl

pub output_pin : (s : Shape) → s.layer ≡ OUTPUT_PIN → is_pin s ≡ true
output_pin s e = rw e refl

-- ---- sources that are not just below

module _ (flat : Flat) (kept : ReportsNone (CellsBroken flat.shapes)) (rows : List ℕ)
    (are_rows : ArePinRows flat.shapes rows)
    (a : ℕ) (here : Shape) (got : slice_get flat.shapes a ≡ Some here) (layer_so : here.layer ≡ INPUT_PIN)
    (found : List ℕ) (are : AreThose (IsPinIn flat.shapes OUTPUT_PIN a) found) where
  pin_here : Passes is_pin flat.shapes a
  pin_here = record { shape = here; shape_is = got; passes_so = input_pin here layer_so }

  pin_there : (b : ℕ) → IsPinIn flat.shapes OUTPUT_PIN a b → Passes is_pin flat.shapes b
  pin_there b pin = record { shape = pin.pin; shape_is = pin.pin_is; passes_so = output_pin pin.pin pin.of_layer }

  pub are_rowed : AreRowed rows found
  are_rowed p lt =
      let pin = are.each p lt in
      let within : slice_index found p < length flat.shapes = slice_get_within flat.shapes
      (slice_index found p) pin.pin pin.pin_is in
      omega (arith, are_rows.long)

  broken_place : (b : ℕ) → RowsBroken flat a b → (k : ℕ) × ((k < length found) × (slice_index found k ≡ b))
  broken_place b broken = are.complete b
      (record {
        pin = broken.source.pin;
        pin_is = broken.source.pin_is;
        of_layer = broken.source.of_layer;
        joined = broken.source.joined;
      })

  broken_row : (b : ℕ) → RowsBroken flat a b → slice_index rows a ≡ suc (slice_index rows b) → ⊥
  broken_row b broken e =
      let there : Passes is_pin flat.shapes b =
      record {
        shape = broken.source.pin;
        shape_is = broken.source.pin_is;
        passes_so = output_pin broken.source.pin broken.source.of_layer;
      } in
      let up : row_of flat.shapes broken.in_upper.frame.rect.y0 ≡ slice_index rows a =
      row_is flat.shapes kept rows are_rows a broken.upper pin_here broken.in_upper in
      let low : row_of flat.shapes broken.in_lower.frame.rect.y0 ≡ slice_index rows b =
      row_is flat.shapes kept rows are_rows b broken.lower there broken.in_lower in
      broken.not_above (up ∙ (e ∙ ap suc (sym low)))

  broken_at : (b : ℕ) → is_labelled flat here ≡ false → slice_index rows a ≢ suc (slice_index rows b)
      → IsPinIn flat.shapes OUTPUT_PIN a b → RowsBroken flat a b
  broken_at b unmarked ne pin =
      let up : IsRowOf flat.shapes a (slice_index rows a) = are_rows.each a pin_here in
      let low : IsRowOf flat.shapes b (slice_index rows b) = are_rows.each b (pin_there b pin) in
      record {
        input = record { pin = here; pin_is = got; of_layer = layer_so; labelled_so = unmarked };
        source = record { pin = pin.pin; pin_is = pin.pin_is; of_layer = pin.of_layer; joined = pin.joined };
        upper = up.frame;
        lower = low.frame;
        in_upper = up.lies;
        in_lower = low.lies;
        not_above = λ e. ne (sym up.row_is ∙ (e ∙ ap suc low.row_is));
      }

  pub astray_said : (r : Option ℕ) → is_labelled flat here ≡ false → FindsAstray rows found (slice_index rows a) r
      → FindsAt (RowsBroken flat) a r
  astray_said None unmarked all = λ b broken. (
      let k = broken_place b broken in
      broken_row b broken (all k.0 k.1.0 ∙ ap (λ (n : ℕ). suc (slice_index rows n)) k.1.1)
      )
  astray_said (Some b) unmarked first = record {
    reported = broken_at b unmarked first.astray
        (subst (IsPinIn flat.shapes OUTPUT_PIN a) first.number_is (are.each first.place first.within));
    least = λ d broken. (
        let k = broken_place d broken in
        let e : slice_index found k.0 ≡ d = k.1.1 in
        let is : slice_index found first.place ≡ b = first.number_is in
        elim (cases_lt k.0 first.place) [
          | inl less ↦ absurd (broken_row d broken (first.before k.0 less ∙ ap (λ (n : ℕ). suc (slice_index rows n)) e))
          | inr more ↦ omega (arith, not_falling found are.rising first.place k.0 more k.1.0)
        ]
        );
  }

-- other shapes, and labelled pins, are not reported
pub not_astray : (flat : Flat) (a : ℕ) (here : Shape) → slice_get flat.shapes a ≡ Some here
    → (here.layer ≡ INPUT_PIN → is_labelled flat here ≡ true) → FindsAt (RowsBroken flat) a None
not_astray flat a here got marked b broken =
    let same : here ≡ broken.input.pin = same_Some here broken.input.pin (sym got ∙ broken.input.pin_is) in
    let layer : here.layer ≡ INPUT_PIN = ap (λ (s : Shape). s.layer) same ∙ broken.input.of_layer in
    both_ways (is_labelled flat here) (ap (is_labelled flat) same ∙ broken.input.labelled_so) (marked layer)
