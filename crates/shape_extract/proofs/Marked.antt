-- Counts of shapes on a layer with a datatype, and the pins of a frame.
use Rattle.std.proofs.Common.{◌≡◌, ℕ, suc, ◌+◌, ◌<◌, ◌≤◌, Bool, true, false, cond, List, [], ◌∷◌, length, get_or, take}
use Rattle.std.proofs.Common.{Option, Some, None, refl, sym, ap, subst, ◌∙◌, arith, inl, inr, eq-eqb}
use Rattle.std.specs.Prelude.{slice_get, slice_index, slice_index_or, count_by, not, ◌==◌, ◌⊎◌}
use Rattle.std.proofs.lemmas.Option.{same_Some, slice_get_within, slice_get-get_or, get_or_from_slice_get}
use Rattle.std.proofs.lemmas.List.Sums.{count_by_more_yes, count_by_more_no, sum_by-cons}
use Rattle.std.proofs.lemmas.Bool.{cases_eq, cases_order, and_parts, and_from, eqb-true, ne_eqb, or_cases, both_ways}
use Rattle.geom.specs.declared.shapes.Shape.{Shape}
use Rattle.circuit.specs.declared.cell_kind.CellKind.{CellKind}
use Rattle.circuit.specs.declared.cell_kind.CellKind.TheVariants.{Buffer, Inverter, Zero, One, Split2, Split3, Majority}
use Rattle.circuit.specs.CellKinds.{number_of, inputs_of, outputs_of}
use Rattle.layout_rules.specs.declared.layers.TheConstants.{INPUT_PIN, OUTPUT_PIN}
use Rattle.layout_rules.specs.Layers.{is_frame, is_pin}
use Rattle.layout_rules.specs.Pins.{lies_in, LiesIn, IsPinOf}
use Rattle.layout_rules.proofs.PlaceLaws.{PassesAt, count_by-once, count_by-one}
use Rattle.layout_rules.specs.Reports.{ReportsNone, IsFirstReport, Passes, PassTogether}
use Rattle.layout_rules.specs.CircuitRules.{HasPins, IsCell, LiesInOneFrame, IsNoCell, IsStrayPin, HasNoFrame}
use Rattle.shape_extract.specs.Searches.{SaysWhether, AreThose}
use Rattle.shape_extract.specs.Code.Cells.{holds_pin, is_marked, is_marked_in, is_marked_at, AreNumbered}

pub marked_at : (shapes : List Shape) (layer datatype n : ℕ) (s : Shape) → n < length shapes → s ≡ get_or shapes n s
    → is_marked_at shapes layer datatype n ≡ is_marked layer datatype s
marked_at shapes layer datatype n s lt is = ap (is_marked_in layer datatype)
    (slice_get-get_or shapes n s lt ∙ sym (ap Some is))

module _ (shapes : List Shape) (layer datatype : ℕ) (numbers : List ℕ) (i : ℕ) (s : Shape) (count : ℕ)
    (lt : i < length numbers) (within : slice_index numbers i < length shapes)
    (is : s ≡ get_or shapes (slice_index numbers i) s)
    (counted : count ≡ count_by (is_marked_at shapes layer datatype) (take i numbers)) where
  pub counted_yes : is_marked layer datatype s ≡ true
      → count + 1 ≡ count_by (is_marked_at shapes layer datatype) (take (i + 1) numbers)
  counted_yes e = ap (λ (x : ℕ). x + 1) counted
      ∙ sym (count_by_more_yes (is_marked_at shapes layer datatype) numbers i 0 lt
      (marked_at shapes layer datatype (slice_index numbers i) s within is ∙ e))

  pub counted_no : is_marked layer datatype s ≡ false
      → count ≡ count_by (is_marked_at shapes layer datatype) (take (i + 1) numbers)
  counted_no e = counted ∙ sym
      (count_by_more_no (is_marked_at shapes layer datatype) numbers i 0 lt
      (marked_at shapes layer datatype (slice_index numbers i) s within is ∙ e))

-- ---- the numbers that pass a test

pub place_of_count : {X : Type 0} (test : X → Bool) (xs : List X) (n : ℕ) → count_by test xs ≡ suc n → PassesAt test xs
place_of_count test [] n e = absurd cc
place_of_count test (x ∷ xs) n e = by_test (λ less. place_of_count test xs n less) (test x) refl
  where
    by_test : (count_by test xs ≡ suc n → PassesAt test xs) → (b : Bool) → test x ≡ b → PassesAt test (x ∷ xs)
    by_test later true h = record { place = 0; item = x; item_is = refl; passes_so = h }
    by_test later false h =
        let whole : count_by test (x ∷ xs) ≡ cond (test x) 1 0 + count_by test xs = sum_by-cons
        (λ y. cond (test y) 1 0) x xs in
        let none : cond {A = ℕ} (test x) 1 0 ≡ 0 = ap (λ (v : Bool). cond {A = ℕ} v 1 0) h in
        let rest : PassesAt test xs = later (omega arith) in
        record { place = suc rest.place; item = rest.item; item_is = rest.item_is; passes_so = rest.passes_so }

marked_shape : (layer datatype : ℕ) (o : Option Shape) → is_marked_in layer datatype o ≡ true → (s : Shape)
    × (o ≡ Some s) × (is_marked layer datatype s ≡ true)
marked_shape layer datatype None e = absurd cc
marked_shape layer datatype (Some s) e = (s, refl, e)

-- rising numbers have one place each
pub one_place_in : (holds : ℕ → Type 0) (numbers : List ℕ) → AreThose holds numbers → (p q : ℕ) → p < length numbers
    → q < length numbers → slice_index numbers p ≡ slice_index numbers q → p ≡ q
one_place_in holds numbers are p q lp lq e = elim (cases_order p q) [
  | inl same ↦ same
  | inr ne ↦ elim ne [
    | inl less ↦ absurd (let r : slice_index numbers p < slice_index numbers q = are.rising p q less lq in omega arith)
    | inr more ↦ absurd (let r : slice_index numbers q < slice_index numbers p = are.rising q p more lp in omega arith)
  ]
]

-- ---- the pins of a frame

module _ (shapes : List Shape) (f layer n : ℕ) (pins : List ℕ)
    (are : AreThose (PassTogether holds_pin shapes f) pins) where
  at_place : (p number : ℕ) → p < length pins → slice_index pins p ≡ number → slice_get pins p ≡ Some number
  at_place p number lp e = slice_get-get_or pins p 0 lp ∙ ap Some e

  -- a pin of the frame has a place
  place_of : (number p : ℕ) → IsPinOf shapes f layer number p → (k : ℕ) × ((k < length pins) × (slice_index pins k ≡ p))
  place_of number p pin = are.complete p
      (record {
        first = pin.frame;
        second = pin.pin;
        first_is = pin.frame_is;
        second_is = pin.pin_is;
        passes_so = pin.lies_so;
      })

  passes : (number p : ℕ) → IsPinOf shapes f layer number p → is_marked_at shapes layer number p ≡ true
  passes number p pin = ap (is_marked_in layer number) pin.pin_is
      ∙ and_from (pin.pin.layer == layer) (pin.pin.datatype == number) (eq-eqb pin.pin.layer layer pin.of_layer)
      (eq-eqb pin.pin.datatype number pin.of_number)

  pin_at : (number k p : ℕ) → slice_get pins k ≡ Some p → is_marked_at shapes layer number p ≡ true
      → IsPinOf shapes f layer number p
  pin_at number k p at e =
      let lt : k < length pins = slice_get_within pins k p at in
      let is : slice_index pins k ≡ p = get_or_from_slice_get pins k p 0 at in
      let both : PassTogether holds_pin shapes f p = subst (PassTogether holds_pin shapes f) is (are.each k lt) in
      let s = marked_shape layer number (slice_get shapes p) e in
      let same : both.second ≡ s.0 = same_Some both.second s.0 (sym both.second_is ∙ s.1) in
      let marks : ((s.0.layer == layer) ≡ true) × ((s.0.datatype == number) ≡ true) = and_parts (s.0.layer == layer)
      (s.0.datatype == number) s.2 in
      record {
        pin = both.second;
        frame = both.first;
        pin_is = both.second_is;
        frame_is = both.first_is;
        lies_so = both.passes_so;
        of_layer = ap (λ (x : Shape). x.layer) same ∙ eqb-true s.0.layer layer marks.0;
        of_number = ap (λ (x : Shape). x.datatype) same ∙ eqb-true s.0.datatype number marks.1;
      }

  pub has_pins : AreNumbered shapes pins layer n → HasPins shapes f layer n
  has_pins numbered = record {
    each = λ i lt. (let at = place_of_count (is_marked_at shapes layer i) pins 0 (numbered.one_of_each i lt) in
        (at.item, pin_at i at.place at.item at.item_is at.passes_so));
    one = λ i p q a b. (
        let k = place_of i p a in
        let l = place_of i q b in
        let same : k.0 ≡ l.0 = count_by-one (is_marked_at shapes layer i) pins k.0 l.0 p q
        (numbered.one_of_each i (below i p a)) (at_place k.0 p k.1.0 k.1.1) (passes i p a)
        (at_place l.0 q l.1.0 l.1.1) (passes i q b) in
        sym k.1.1 ∙ (ap (slice_index pins) same ∙ l.1.1)
        );
    no_other = below;
  }
    where
      below : (i p : ℕ) → IsPinOf shapes f layer i p → i < n
      below i p a =
          let k = place_of i p a in
          rw a.of_number at (numbered.below k.0 a.pin k.1.0 (ap (slice_get shapes) k.1.1 ∙ a.pin_is) a.of_layer)

  pub from_pins : HasPins shapes f layer n → AreNumbered shapes pins layer n
  from_pins has = record {
    below = λ k s lt at of. (
        let both : PassTogether holds_pin shapes f (slice_index pins k) = are.each k lt in
        let same : both.second ≡ s = same_Some both.second s (sym both.second_is ∙ at) in
        has.no_other s.datatype (slice_index pins k) (record {
          pin = both.second;
          frame = both.first;
          pin_is = both.second_is;
          frame_is = both.first_is;
          lies_so = both.passes_so;
          of_layer = ap (λ (x : Shape). x.layer) same ∙ of;
          of_number = ap (λ (x : Shape). x.datatype) same;
        })
        );
    one_of_each = λ i lt. (
        let some = has.each i lt in
        let k = place_of i some.0 some.1 in
        count_by-once (is_marked_at shapes layer i) pins k.0 some.0
        (at_place k.0 some.0 k.1.0 k.1.1) (passes i some.0 some.1)
        (λ m y at e.
        let same : y ≡ some.0 = has.one i y some.0 (pin_at i m y at e) some.1 in
        one_place_in (PassTogether holds_pin shapes f) pins are m k.0 (slice_get_within pins m y at) k.1.0
        (get_or_from_slice_get pins m y 0 at ∙ (same ∙ sym k.1.1)))
        );
  }

-- ---- datatypes below a number

abbrev BelowSoFar : List Shape → List ℕ → ℕ → ℕ → ℕ → Type 0
BelowSoFar shapes numbers layer n i = (p : ℕ) (s : Shape) → p < i → slice_get shapes (slice_index numbers p) ≡ Some s
    → s.layer ≡ layer → s.datatype < n

pub below_next : (shapes : List Shape) (numbers : List ℕ) (layer n i : ℕ) (here : Shape)
    → BelowSoFar shapes numbers layer n i → here ≡ get_or shapes (slice_index numbers i) here
    → (here.layer ≡ layer → here.datatype < n) → BelowSoFar shapes numbers layer n (i + 1)
below_next shapes numbers layer n i here so_far is holds p s lt at of = elim (cases_eq p i) [
  | inl e ↦
      let same : here ≡ s = is ∙ (ap (λ (x : ℕ). get_or shapes (slice_index numbers x) here) (sym e)
      ∙ get_or_from_slice_get shapes (slice_index numbers p) s here at) in
      rw same at (holds (ap (λ (x : Shape). x.layer) same ∙ of))
  | inr ne ↦ so_far p s (omega arith) at of
]

-- ---- cells and pins

kind_of : ℕ → CellKind
kind_of n = slice_index_or (Buffer ∷ Buffer ∷ Inverter ∷ Zero ∷ One ∷ Split2 ∷ Split3 ∷ Majority ∷ []) n Buffer

kind_back : (kind : CellKind) → kind_of (number_of kind) ≡ kind
unfolding kind_of
kind_back Buffer = refl
kind_back k = refl

pub one_kind : (k l : CellKind) → number_of k ≡ number_of l → k ≡ l
one_kind k l e = sym (kind_back k) ∙ ap kind_of e ∙ kind_back l

-- the shape that an index gives
pub got_at : (shapes : List Shape) (n : ℕ) (here : Shape) → n < length shapes → here ≡ get_or shapes n here
    → slice_get shapes n ≡ Some here
got_at shapes n here lt is = slice_get-get_or shapes n here lt ∙ sym (ap Some is)

module _ (shapes : List Shape) (f : ℕ) (here : Shape) (got : slice_get shapes f ≡ Some here) (kind : CellKind)
    (named : here.datatype ≡ number_of kind) (pins : List ℕ)
    (are : AreThose (PassTogether holds_pin shapes f) pins) where
  at : (frame : Shape) → slice_get shapes f ≡ Some frame → here ≡ frame
  at frame e = same_Some here frame (sym got ∙ e)

  cell_kind : (frame : Shape) → slice_get shapes f ≡ Some frame → (cell : IsCell shapes f frame) → cell.kind ≡ kind
  cell_kind frame e cell = one_kind cell.kind kind (sym cell.kind_is
      ∙ (ap (λ (x : Shape). x.datatype) (sym (at frame e)) ∙ named))

  -- what is left to decide where the input pins are those of the kind
  pub cell_by_outputs : AreNumbered shapes pins INPUT_PIN (inputs_of kind) → (answer : Bool)
      → SaysWhether answer (AreNumbered shapes pins OUTPUT_PIN (outputs_of kind)) → (frame : Shape)
      → slice_get shapes f ≡ Some frame → SaysWhether answer (IsCell shapes f frame)
  cell_by_outputs ins true outs frame e = record {
    kind = kind;
    kind_is = ap (λ (x : Shape). x.datatype) (sym (at frame e)) ∙ named;
    inputs = has_pins shapes f INPUT_PIN (inputs_of kind) pins are ins;
    outputs = has_pins shapes f OUTPUT_PIN (outputs_of kind) pins are outs;
  }
  cell_by_outputs ins false outs frame e =
      λ cell. outs (from_pins shapes f OUTPUT_PIN (outputs_of kind) pins are
      (rw (cell_kind frame e cell) at cell.outputs))

  pub no_cell : (AreNumbered shapes pins INPUT_PIN (inputs_of kind) → ⊥) → (frame : Shape)
      → slice_get shapes f ≡ Some frame → IsCell shapes f frame → ⊥
  no_cell not_so frame e cell =
      not_so (from_pins shapes f INPUT_PIN (inputs_of kind) pins are
      (rw (cell_kind frame e cell) at cell.inputs))

pub no_kind : (shapes : List Shape) (f : ℕ) (here : Shape) → slice_get shapes f ≡ Some here
    → ((kind : CellKind) → here.datatype ≡ number_of kind → ⊥) → (frame : Shape) → slice_get shapes f ≡ Some frame
    → IsCell shapes f frame → ⊥
no_kind shapes f here got none frame e cell = none cell.kind
    (ap (λ (x : Shape). x.datatype) (same_Some here frame (sym got ∙ e)) ∙ cell.kind_is)

pub one_frame_said : (shapes : List Shape) (p n : ℕ) (frames : List ℕ) → AreThose (PassTogether lies_in shapes p) frames
    → n ≡ length frames → SaysWhether (n == 1) (LiesInOneFrame shapes p)
one_frame_said shapes p n frames are long = elim (cases_eq n 1) [
  | inl one ↦
      let lt : 0 < length frames = omega arith in
      let both : PassTogether lies_in shapes p (slice_index frames 0) = are.each 0 lt in
      rw (eq-eqb n 1 one) (record {
        frame = slice_index frames 0;
        lies = record {
          pin = both.first;
          frame = both.second;
          pin_is = both.first_is;
          frame_is = both.second_is;
          lies_so = both.passes_so;
        };
        only = λ f lies. (let k = place lies in let zero_k : k.0 ≡ 0 = omega (arith, k.1.0) in sym k.1.1
            ∙ ap (slice_index frames) zero_k);
      })
  | inr more ↦ rw (ne_eqb n 1 more) (λ one.
      let k = place one.lies in
      let some : 1 < length frames = omega (arith, k.1.0) in
      let a : slice_index frames 0 ≡ one.frame = one.only (slice_index frames 0) (lies_at 0 (omega arith)) in
      let b : slice_index frames 1 ≡ one.frame = one.only (slice_index frames 1) (lies_at 1 some) in
      let less : slice_index frames 0 < slice_index frames 1 = are.rising 0 1 (omega arith) some in
      omega arith)
]
  where
    place : {f : ℕ} → LiesIn shapes p f → (k : ℕ) × ((k < length frames) × (slice_index frames k ≡ f))
    place {f} lies = are.complete f
        (record {
          first = lies.pin;
          second = lies.frame;
          first_is = lies.pin_is;
          second_is = lies.frame_is;
          passes_so = lies.lies_so;
        })

    lies_at : (k : ℕ) → k < length frames → LiesIn shapes p (slice_index frames k)
    lies_at k lt = let both : PassTogether lies_in shapes p (slice_index frames k) =
        are.each k lt in record {
          pin = both.first;
          frame = both.second;
          pin_is = both.first_is;
          frame_is = both.second_is;
          lies_so = both.passes_so;
        }

-- ---- the fault of one shape

abbrev Fault : List Shape → ℕ → Type 0
Fault shapes n = IsNoCell shapes n ⊎ IsStrayPin shapes n

apart : (s : Shape) → is_frame s ≡ true → is_pin s ≡ true → ⊥
apart s frame pin =
    let layer : s.layer ≡ 20 = eqb-true s.layer 20 frame in
    elim (or_cases (s.layer == 21) (s.layer == 22) pin) [
      | inl e ↦ absurd (let k : s.layer ≡ 21 = eqb-true s.layer 21 e in omega arith)
      | inr e ↦ absurd (let k : s.layer ≡ 22 = eqb-true s.layer 22 e in omega arith)
    ]

module _ (shapes : List Shape) (n : ℕ) (here : Shape) (got : slice_get shapes n ≡ Some here) where
  same : (s : Shape) → slice_get shapes n ≡ Some s → here ≡ s
  same s e = same_Some here s (sym got ∙ e)

  pub frame_fault : is_frame here ≡ true → (cell : Bool)
      → ((frame : Shape) → slice_get shapes n ≡ Some frame → SaysWhether cell (IsCell shapes n frame))
      → SaysWhether (not cell) (Fault shapes n)
  frame_fault frame true says = λ fault. elim fault [
    | inl bad ↦ bad.not_so (says bad.frame.shape bad.frame.shape_is)
    | inr stray ↦ apart here frame (ap is_pin (same stray.pin.shape stray.pin.shape_is) ∙ stray.pin.passes_so)
  ]
  frame_fault frame false says =
      inl (record { frame = record { shape = here; shape_is = got; passes_so = frame }; not_so = says here got })

  pub pin_fault : is_pin here ≡ true → (one : Bool) → SaysWhether one (LiesInOneFrame shapes n)
      → SaysWhether (not one) (Fault shapes n)
  pin_fault pin true says = λ fault. elim fault [
    | inl bad ↦ apart here (ap is_frame (same bad.frame.shape bad.frame.shape_is) ∙ bad.frame.passes_so) pin
    | inr stray ↦ stray.not_so says
  ]
  pin_fault pin false says =
      inr (record { pin = record { shape = here; shape_is = got; passes_so = pin }; not_so = says })

  pub no_fault : is_frame here ≡ false → is_pin here ≡ false → Fault shapes n → ⊥
  no_fault frame pin fault = elim fault [
    | inl bad ↦ both_ways (is_frame here) frame
        (ap is_frame (same bad.frame.shape bad.frame.shape_is) ∙ bad.frame.passes_so)
    | inr stray ↦ both_ways (is_pin here) pin
        (ap is_pin (same stray.pin.shape stray.pin.shape_is) ∙ stray.pin.passes_so)
  ]

-- ---- no frame among the first shapes

pub no_frame_next : (shapes : List Shape) (n : ℕ) (here : Shape)
    → ((k : ℕ) (s : Shape) → k < n → slice_get shapes k ≡ Some s → is_frame s ≡ false)
    → slice_get shapes n ≡ Some here → is_frame here ≡ false
    → (k : ℕ) (s : Shape) → k < n + 1 → slice_get shapes k ≡ Some s → is_frame s ≡ false
no_frame_next shapes n here before got not_so k s lt at = elim (cases_eq k n) [
  | inl e ↦ ap is_frame (sym (same_Some here s (sym got ∙ (ap (slice_get shapes) (sym e) ∙ at)))) ∙ not_so
  | inr ne ↦ before k s (omega arith) at
]

pub no_frame_all : (shapes : List Shape) (n : ℕ) → length shapes ≤ n
    → ((k : ℕ) (s : Shape) → k < n → slice_get shapes k ≡ Some s → is_frame s ≡ false) → (f : ℕ)
    × Passes is_frame shapes f → ⊥
no_frame_all shapes n all none frame =
    let lt : frame.0 < length shapes = slice_get_within shapes frame.0 frame.1.shape frame.1.shape_is in
    both_ways (is_frame frame.1.shape) (none frame.0 frame.1.shape (omega arith) frame.1.shape_is) frame.1.passes_so

pub frame_there : (shapes : List Shape) → (f : ℕ) × Passes is_frame shapes f → ReportsNone (HasNoFrame shapes)
frame_there shapes frame a b absent = absent.none frame.0 frame.1

pub frame_absent : (shapes : List Shape) → ((f : ℕ) × Passes is_frame shapes f → ⊥)
    → IsFirstReport (HasNoFrame shapes) 0 0
frame_absent shapes absent = record {
  reported = record { none = λ f passes. absent (f, passes); first_is = refl; second_is = refl };
  least = λ c d h. inr (sym h.first_is, omega arith);
}
