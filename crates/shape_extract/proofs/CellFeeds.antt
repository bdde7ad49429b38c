-- The feeds of cells, read from tables.
use Rattle.std.proofs.Common.{◌≡◌, ℕ, ◌+◌, ◌<◌, ◌≤◌, inl, inr, Bool, true, false, ◌&&◌, List, length, Some, refl, sym}
use Rattle.std.proofs.Common.{ap, ◌∙◌, arith, eq-eqb}
use Rattle.std.specs.Prelude.{slice_get, slice_index, ◌==◌}
use Rattle.std.proofs.lemmas.Bool.{cases_eq, and_parts, and_from, both_ways, eqb-true, or_right}
use Rattle.std.proofs.lemmas.Option.{same_Some, slice_get_within, get_or_from_slice_get}
use Rattle.geom.specs.declared.shapes.Shape.{Shape}
use Rattle.geom.specs.declared.shapes.Flat.{Flat}
use Rattle.circuit.specs.declared.cell_kind.CellKind.{CellKind}
use Rattle.circuit.specs.CellKinds.{inputs_of}
use Rattle.layout_rules.specs.declared.layers.TheConstants.{INPUT_PIN, OUTPUT_PIN}
use Rattle.layout_rules.specs.Layers.{is_frame, is_pin}
use Rattle.layout_rules.specs.Reports.{Passes, PassTogether}
use Rattle.layout_rules.proofs.PlaceLaws.{list_any-place}
use Rattle.layout_rules.specs.Pins.{LiesIn, IsPinOf}
use Rattle.layout_rules.specs.Labels.{marks, Marks, is_labelled}
use Rattle.layout_rules.specs.CircuitRules.{IsInput}
use Rattle.rowed.specs.declared.source.Source.{Source}
use Rattle.circuit_extracted.specs.declared.cells.Feed.{Feed}
use Rattle.circuit_extracted.specs.declared.cells.Feed.TheVariants.{Nothing, Pin}
use Rattle.shape_extract.specs.Code.Cells.{holds_pin, is_marked}
use Rattle.shape_extract.specs.Code.Drivers.{IsOnlySource}
use Rattle.shape_extract.specs.Extraction.{IsOutputPin, FeedsPin}
use Rattle.shape_extract.specs.Code.PinNames.{IsOn}
use Rattle.shape_extract.specs.Searches.{AreThose}
use Rattle.shape_extract.specs.Code.Tables.{AreTables, IsFrameOf, IsFeedOfInput}
use Rattle.shape_extract.proofs.KeptPins.{some_input}

pub on_within : (flat : Flat) (layer p : ℕ) → IsOn flat layer p → p < length flat.shapes
on_within flat layer p on = slice_get_within flat.shapes p on.shape on.shape_is

pub output_passes : (flat : Flat) (p : ℕ) → IsOn flat OUTPUT_PIN p → Passes is_pin flat.shapes p
output_passes flat p on =
    record {
      shape = on.shape;
      shape_is = on.shape_is;
      passes_so = or_right (on.shape.layer == INPUT_PIN)
          (on.shape.layer == OUTPUT_PIN) (eq-eqb on.shape.layer OUTPUT_PIN on.of_layer);
    }

pub frame_lies : (shapes : List Shape) (p f : ℕ) (lies : LiesIn shapes p f) → Passes is_frame shapes f
frame_lies shapes p f lies = record {
  shape = lies.frame;
  shape_is = lies.frame_is;
  passes_so =
      (and_parts (is_pin lies.pin) (is_frame lies.frame)
      (and_parts (is_pin lies.pin && is_frame lies.frame) _ lies.lies_so).0).1;
}

-- no label marks the pin
pub plain_input : (flat : Flat) (p : ℕ) → IsOn flat INPUT_PIN p → ((l : ℕ) → Marks flat l p → ⊥) → IsInput flat false p
plain_input flat p on none = record {
  pin = on.shape;
  pin_is = on.shape_is;
  of_layer = on.of_layer;
  labelled_so = by_test (is_labelled flat on.shape) refl;
}
  where
    by_test : (b : Bool) → is_labelled flat on.shape ≡ b → is_labelled flat on.shape ≡ false
    by_test true e = absurd (
        let at = list_any-place (λ label. marks label on.shape) flat.labels e in
        none at.place (record {
          label = at.item;
          pin = on.shape;
          label_is = at.item_is;
          pin_is = on.shape_is;
          marks_so = at.passes_so;
        })
        )
    by_test false e = e

module _ (flat : Flat) (nets frames places drivers : List ℕ) (t : AreTables flat nets frames places drivers) where
  pub place_there : (p f : ℕ) → LiesIn flat.shapes p f → f < length places
  place_there p f lies =
      let k = t.frames_are.each f (frame_lies flat.shapes p f lies) in
      slice_get_within places f k.place (t.places_are k.place f k.there)

  pub source_from : (q f : ℕ) (pin : Shape) → slice_get flat.shapes q ≡ Some pin → IsOn flat OUTPUT_PIN q
      → LiesIn flat.shapes q f → IsOutputPin flat frames
      (record { cell = slice_index places f; output = pin.datatype }) q
  source_from q f pin is on lies =
      let k = t.frames_are.each f (frame_lies flat.shapes q f lies) in
      let e : slice_index places f ≡ k.place = get_or_from_slice_get places f k.place 0
      (t.places_are k.place f k.there) in
      record {
        frame = f;
        frame_is = ap (slice_get frames) e ∙ k.there;
        pin = record {
          pin = lies.pin;
          frame = lies.frame;
          pin_is = lies.pin_is;
          frame_is = lies.frame_is;
          lies_so = lies.lies_so;
          of_layer = ap (λ (s : Shape). s.layer) (same_Some lies.pin on.shape (sym lies.pin_is ∙ on.shape_is))
              ∙ on.of_layer;
          of_number = ap (λ (s : Shape). s.datatype) (same_Some lies.pin pin (sym lies.pin_is ∙ is));
        };
      }

  pub driven_from : (p d : ℕ) (source : Source) → IsInput flat false p → IsOnlySource flat.shapes p d
      → IsOutputPin flat frames source d → FeedsPin flat frames p (Pin source.cell source.output)
  driven_from p d source input only output =
      record { input = input; driver = d; driver_is = only.source; only = only.only; output = output }

-- ---- the pin of a number among the pins of a frame

-- none of the first pins is on the layer and has this number
abbrev pub NoneIs : List Shape → List ℕ → ℕ → ℕ → ℕ → Type 0
NoneIs shapes pins layer number n = (k : ℕ) (s : Shape) → k < n → slice_get shapes (slice_index pins k) ≡ Some s
    → s.layer ≡ layer → s.datatype ≡ number → ⊥

pub none_is_more : (shapes : List Shape) (pins : List ℕ) (layer number n : ℕ) (here : Shape)
    → NoneIs shapes pins layer number n → slice_get shapes (slice_index pins n) ≡ Some here
    → (here.layer ≡ layer → here.datatype ≡ number → ⊥) → NoneIs shapes pins layer number (n + 1)
none_is_more shapes pins layer number n here none got other k s lt is on numbered = elim (cases_eq k n) [
  | inl e ↦ (let same : here ≡ s = same_Some here s
      (sym got ∙ (ap (λ (m : ℕ). slice_get shapes (slice_index pins m)) (sym e) ∙ is)) in other
      (ap (λ (x : Shape). x.layer) same ∙ on) (ap (λ (x : Shape). x.datatype) same ∙ numbered))
  | inr ne ↦ none k s (omega arith) is on numbered
]

marked_not : (layer number : ℕ) (s : Shape) → is_marked layer number s ≡ false → s.layer ≡ layer
    → s.datatype ≡ number → ⊥
marked_not layer number s e on numbered = both_ways (is_marked layer number s) e
    (and_from (s.layer == layer) (s.datatype == number) (eq-eqb s.layer layer on) (eq-eqb s.datatype number numbered))

pub none_is_next : (shapes : List Shape) (pins : List ℕ) (layer number n : ℕ) (here : Shape)
    → NoneIs shapes pins layer number n → slice_get shapes (slice_index pins n) ≡ Some here
    → is_marked layer number here ≡ false → NoneIs shapes pins layer number (n + 1)
none_is_next shapes pins layer number n here none got e = none_is_more shapes pins layer number n here none got
    (marked_not layer number here e)

pub held_within : (shapes : List Shape) (f : ℕ) (pins : List ℕ) → AreThose (PassTogether holds_pin shapes f) pins
    → (k : ℕ) → k < length pins → slice_index pins k < length shapes
held_within shapes f pins are k lt =
    (let both = are.each k lt in slice_get_within shapes (slice_index pins k) both.second both.second_is)

pub pin_found : (shapes : List Shape) (f layer number : ℕ) (pins : List ℕ)
    → AreThose (PassTogether holds_pin shapes f) pins → (k : ℕ) (s : Shape) → k < length pins
    → slice_get shapes (slice_index pins k) ≡ Some s → is_marked layer number s ≡ true
    → IsPinOf shapes f layer number (slice_index pins k)
pin_found shapes f layer number pins are k s lt is marked =
    let both = are.each k lt in
    let two = and_parts (s.layer == layer) (s.datatype == number) marked in
    let same : both.second ≡ s = same_Some both.second s (sym both.second_is ∙ is) in
    record {
      pin = both.second;
      frame = both.first;
      pin_is = both.second_is;
      frame_is = both.first_is;
      lies_so = both.passes_so;
      of_layer = ap (λ (x : Shape). x.layer) same ∙ eqb-true s.layer layer two.0;
      of_number = ap (λ (x : Shape). x.datatype) same ∙ eqb-true s.datatype number two.1;
    }

pub pin_missed : (flat : Flat) (nets frames places drivers : List ℕ) (t : AreTables flat nets frames places drivers)
    (kind : CellKind) (f number : ℕ) (pins : List ℕ) (n : ℕ)
    → IsFrameOf flat.shapes kind f → AreThose (PassTogether holds_pin flat.shapes f) pins → number < inputs_of kind
    → length pins ≤ n → NoneIs flat.shapes pins INPUT_PIN number n → ⊥
pin_missed flat nets frames places drivers t kind f number pins n of are lt all none =
    let p = some_input flat t.five.cells f of.frame kind of.frame_is of.frame_so of.kind_is number lt in
    let k = are.complete p.0 (record {
      first = p.1.frame;
      second = p.1.pin;
      first_is = p.1.frame_is;
      second_is = p.1.pin_is;
      passes_so = p.1.lies_so;
    }) in
    let within : k.0 < length pins = k.1.0 in
    none k.0 p.1.pin (omega arith) (ap (slice_get flat.shapes) k.1.1 ∙ p.1.pin_is) p.1.of_layer p.1.of_number

-- ---- the feed of an input

pub fed_within : (flat : Flat) (frames : List ℕ) (kind : CellKind) (f i p : ℕ) (feed : Feed) → i < inputs_of kind
    → IsPinOf flat.shapes f INPUT_PIN i p → FeedsPin flat frames p feed → IsFeedOfInput flat frames kind f i feed
fed_within flat frames kind f i p feed lt pin feeds =
    record { within = λ h. record { number = p; pin = pin; feeds = feeds }; past = λ ge. absurd (omega arith) }

pub fed_past : (flat : Flat) (frames : List ℕ) (kind : CellKind) (f i : ℕ) → inputs_of kind ≤ i
    → IsFeedOfInput flat frames kind f i Nothing
fed_past flat frames kind f i ge = record { within = λ lt. absurd (omega arith); past = λ h. refl }
