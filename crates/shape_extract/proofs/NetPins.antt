-- Pins in the net of a shape, and what the rule of nets reports.
use Rattle.std.proofs.Common.{◌≡◌, ◌≢◌, ℕ, ◌<◌, Bool, true, false, List, length, Option, Some, None, sym, ap, subst}
use Rattle.std.proofs.Common.{◌∙◌, arith, inl, inr}
use Rattle.std.specs.Prelude.{slice_get, slice_index}
use Rattle.std.proofs.lemmas.Option.{same_Some}
use Rattle.std.proofs.lemmas.Bool.{cases_lt, both_ways}
use Rattle.geom.specs.declared.shapes.Shape.{Shape}
use Rattle.geom.specs.declared.shapes.Flat.{Flat}
use Rattle.layout_rules.specs.declared.layers.TheConstants.{INPUT_PIN, OUTPUT_PIN}
use Rattle.layout_rules.specs.Layers.{is_pin}
use Rattle.layout_rules.specs.Nets.{AreNets}
use Rattle.layout_rules.proofs.NetLaws.{one_number, one_net}
use Rattle.layout_rules.specs.Labels.{is_labelled}
use Rattle.layout_rules.specs.Reports.{Alone, Otherwise}
use Rattle.layout_rules.proofs.ReportLaws.{Alone-first, Alone-none, Otherwise-first, Otherwise-second, Otherwise-none}
use Rattle.layout_rules.specs.CircuitRules.{HasRival, IsInput, IsSource, IsUndriven, IsDriven}
use Rattle.shape_extract.proofs.Searching.{not_falling}
use Rattle.shape_extract.specs.Searches.{FindsAt, AreThose}
use Rattle.shape_extract.specs.Code.NetPins.{IsPinIn, FindsOther, FindsFirst, lone_number}

pub pin_in_yes : (shapes : List Shape) (nets : List ℕ) (layer a b : ℕ) (s : Shape) → AreNets shapes nets
    → a < length shapes → b < length shapes → slice_get shapes b ≡ Some s → s.layer ≡ layer
    → slice_index nets a ≡ slice_index nets b → IsPinIn shapes layer a b
pin_in_yes shapes nets layer a b s are la lb got of e =
    record { pin = s; pin_is = got; of_layer = of; joined = one_net shapes nets are a b la lb e }

pub pin_in_net : (shapes : List Shape) (nets : List ℕ) (layer a b : ℕ) → AreNets shapes nets → a < length shapes
    → IsPinIn shapes layer a b → slice_index nets a ≡ slice_index nets b
pin_in_net shapes nets layer a b are la pin = one_number shapes nets are a b la pin.joined

pub pin_in_layer : (shapes : List Shape) (layer a b : ℕ) (s : Shape) → slice_get shapes b ≡ Some s
    → IsPinIn shapes layer a b → s.layer ≡ layer
pin_in_layer shapes layer a b s got pin = ap (λ (x : Shape). x.layer) (same_Some s pin.pin (sym got ∙ pin.pin_is))
    ∙ pin.of_layer

-- ---- rivals

module _ (shapes : List Shape) (a : ℕ) (here : Shape) (got : slice_get shapes a ≡ Some here)
    (pin_so : is_pin here ≡ true) (found : List ℕ) (are : AreThose (IsPinIn shapes here.layer a) found) where
  rival_place : (b : ℕ) → HasRival shapes a b → (k : ℕ) × ((k < length found) × (slice_index found k ≡ b))
  rival_place b rival =
      let same : rival.pin.shape ≡ here = same_Some rival.pin.shape here (sym rival.pin.shape_is ∙ got) in
      are.complete b (record {
        pin = rival.other;
        pin_is = rival.other_is;
        of_layer = sym rival.one_layer ∙ ap (λ (x : Shape). x.layer) same;
        joined = rival.joined;
      })

  rival_at : (b : ℕ) → b ≢ a → IsPinIn shapes here.layer a b → HasRival shapes a b
  rival_at b ne pin = record {
    pin = record { shape = here; shape_is = got; passes_so = pin_so };
    other = pin.pin;
    other_is = pin.pin_is;
    one_layer = sym pin.of_layer;
    apart = λ e. ne (sym e);
    joined = pin.joined;
  }

  pub rivals : (r : Option ℕ) → FindsOther found a r → FindsAt (HasRival shapes) a r
  rivals None none = λ b rival. (let k = rival_place b rival in rival.apart (sym (sym k.1.1 ∙ none k.0 k.1.0)))
  rivals (Some b) first = record {
    reported = rival_at b first.apart
        (subst (IsPinIn shapes here.layer a) first.number_is (are.each first.place first.within));
    least = λ d rival. (
        let k = rival_place d rival in
        let e : slice_index found k.0 ≡ d = k.1.1 in
        let is : slice_index found first.place ≡ b = first.number_is in
        elim (cases_lt k.0 first.place) [
          | inl less ↦ absurd (rival.apart (sym (sym e ∙ first.before k.0 less)))
          | inr more ↦ omega (arith, not_falling found are.rising first.place k.0 more k.1.0)
        ]
        );
  }

-- ---- sources

module _ (flat : Flat) (a : ℕ) (here : Shape) (got : slice_get flat.shapes a ≡ Some here)
    (layer_so : here.layer ≡ INPUT_PIN) (found : List ℕ) (are : AreThose (IsPinIn flat.shapes OUTPUT_PIN a) found) where
  source_place : (b : ℕ) → IsSource flat.shapes a b → (k : ℕ) × ((k < length found) × (slice_index found k ≡ b))
  source_place b source = are.complete b
      (record { pin = source.pin; pin_is = source.pin_is; of_layer = source.of_layer; joined = source.joined })

  source_at : (b : ℕ) → IsPinIn flat.shapes OUTPUT_PIN a b → IsSource flat.shapes a b
  source_at b pin = record { pin = pin.pin; pin_is = pin.pin_is; of_layer = pin.of_layer; joined = pin.joined }

  input : (labelled : Bool) → is_labelled flat here ≡ labelled → IsInput flat labelled a
  input labelled e = record { pin = here; pin_is = got; of_layer = layer_so; labelled_so = e }

  labelled_is : (labelled : Bool) → IsInput flat labelled a → is_labelled flat here ≡ labelled
  labelled_is labelled is = ap (is_labelled flat) (same_Some here is.pin (sym got ∙ is.pin_is)) ∙ is.labelled_so

  -- without a label, a source is needed
  pub without_label : is_labelled flat here ≡ false → FindsFirst found None
      → FindsAt (Otherwise (Alone (IsUndriven flat)) (IsDriven flat)) a (Some a)
  without_label unmarked none = Otherwise-first (Alone (IsUndriven flat)) (IsDriven flat) a a
      (Alone-first (IsUndriven flat) a (record {
        input = input false unmarked;
        none = λ b source. (let k = source_place b source in omega (arith, k.1.0));
      }))

  -- with a label, there is to be none
  pub with_label : (b : ℕ) → is_labelled flat here ≡ true → FindsFirst found (Some b)
      → FindsAt (Otherwise (Alone (IsUndriven flat)) (IsDriven flat)) a (Some b)
  with_label b marked first = Otherwise-second (Alone (IsUndriven flat)) (IsDriven flat) a b
      (Alone-none (IsUndriven flat) a
      (λ undriven. both_ways (is_labelled flat here) (labelled_is false undriven.input) marked))
      (record {
        reported = record {
          input = input true marked;
          source = source_at b (subst (IsPinIn flat.shapes OUTPUT_PIN a) first.1 (are.each 0 first.0));
        };
        least = λ d driven. (
            let k = source_place d driven.source in
            let e : slice_index found k.0 ≡ d = k.1.1 in
            let is : slice_index found 0 ≡ b = first.1 in
            omega (arith, not_falling found are.rising 0 k.0 (omega arith) k.1.0)
            );
      })

  pub driven_well : (b : ℕ) → is_labelled flat here ≡ false → FindsFirst found (Some b)
      → FindsAt (Otherwise (Alone (IsUndriven flat)) (IsDriven flat)) a None
  driven_well b unmarked first = Otherwise-none (Alone (IsUndriven flat)) (IsDriven flat) a
      (Alone-none (IsUndriven flat) a
      (λ undriven. undriven.none b
      (source_at b (subst (IsPinIn flat.shapes OUTPUT_PIN a) first.1 (are.each 0 first.0)))))
      (λ d driven. both_ways (is_labelled flat here) unmarked (labelled_is true driven.input))

  pub fed_by_label : is_labelled flat here ≡ true → FindsFirst found None
      → FindsAt (Otherwise (Alone (IsUndriven flat)) (IsDriven flat)) a None
  fed_by_label marked none = Otherwise-none (Alone (IsUndriven flat)) (IsDriven flat) a
      (Alone-none (IsUndriven flat) a
      (λ undriven. both_ways (is_labelled flat here) (labelled_is false undriven.input) marked))
      (λ d driven. (let k = source_place d driven.source in omega (arith, k.1.0)))

-- other shapes are not reported
pub no_input : (flat : Flat) (a : ℕ) (here : Shape) → slice_get flat.shapes a ≡ Some here → here.layer ≢ INPUT_PIN
    → FindsAt (Otherwise (Alone (IsUndriven flat)) (IsDriven flat)) a None
no_input flat a here got ne =
    let layer : (s : Shape) → slice_get flat.shapes a ≡ Some s → s.layer ≡ INPUT_PIN
    → ⊥ = λ s e of. ne (ap (λ (x : Shape). x.layer) (same_Some here s (sym got ∙ e)) ∙ of) in
    Otherwise-none (Alone (IsUndriven flat)) (IsDriven flat) a
    (Alone-none (IsUndriven flat) a
    (λ undriven. layer undriven.input.pin undriven.input.pin_is undriven.input.of_layer))
    (λ d driven. layer driven.input.pin driven.input.pin_is driven.input.of_layer)

pub no_pin : (shapes : List Shape) (a : ℕ) (here : Shape) → slice_get shapes a ≡ Some here → is_pin here ≡ false
    → FindsAt (HasRival shapes) a None
no_pin shapes a here got no_so b rival = both_ways (is_pin here) no_so
    (ap is_pin (same_Some here rival.pin.shape (sym got ∙ rival.pin.shape_is)) ∙ rival.pin.passes_so)

-- the second is tried where the first finds nothing
pub otherwise_some : (first second : ℕ → ℕ → Type 0) (a b : ℕ) → FindsAt first a (Some b)
    → FindsAt (Otherwise first second) a (Some b)
otherwise_some first second a b finds = Otherwise-first first second a b finds

pub otherwise_next : (first second : ℕ → ℕ → Type 0) (a : ℕ) (r : Option ℕ) → FindsAt first a None → FindsAt second a r
    → FindsAt (Otherwise first second) a r
otherwise_next first second a None none finds = Otherwise-none first second a none finds
otherwise_next first second a (Some b) none finds = Otherwise-second first second a b none finds

-- ---- what a search in a net answers

pub labelled_source : (flat : Flat) (a : ℕ) (here : Shape) (found : List ℕ) (r : Option ℕ)
    → slice_get flat.shapes a ≡ Some here → here.layer ≡ INPUT_PIN → AreThose (IsPinIn flat.shapes OUTPUT_PIN a) found
    → is_labelled flat here ≡ true → FindsFirst found r
    → FindsAt (Otherwise (Alone (IsUndriven flat)) (IsDriven flat)) a r
labelled_source flat a here found None got layer are marked none =
    fed_by_label flat a here got layer found are marked none
labelled_source flat a here found (Some b) got layer are marked first =
    with_label flat a here got layer found are b marked first

pub plain_source : (flat : Flat) (a : ℕ) (here : Shape) (found : List ℕ) (r : Option ℕ)
    → slice_get flat.shapes a ≡ Some here → here.layer ≡ INPUT_PIN → AreThose (IsPinIn flat.shapes OUTPUT_PIN a) found
    → is_labelled flat here ≡ false → FindsFirst found r
    → FindsAt (Otherwise (Alone (IsUndriven flat)) (IsDriven flat)) a (lone_number r a)
plain_source flat a here found None got layer are unmarked none =
    without_label flat a here got layer found are unmarked none
plain_source flat a here found (Some b) got layer are unmarked first =
    driven_well flat a here got layer found are b unmarked first
