-- The outputs of a circuit, written pin by pin.
use Rattle.std.proofs.Common.{◌≡◌, ◌≢◌, ℕ, ◌+◌, ◌<◌, ◌≤◌, inl, inr, List, length, Option, Some, None, sym, ap, subst}
use Rattle.std.proofs.Common.{◌∙◌, arith}
use Rattle.std.specs.Prelude.{slice_get, slice_set}
use Rattle.std.proofs.Math.ListN.{length-set}
use Rattle.std.proofs.lemmas.Bool.{cases_eq}
use Rattle.std.proofs.lemmas.Option.{same_Some, slice_get_within}
use Rattle.geom.specs.declared.shapes.Shape.{Shape}
use Rattle.geom.specs.declared.shapes.Flat.{Flat}
use Rattle.layout_rules.specs.declared.layers.TheConstants.{OUTPUT_PIN}
use Rattle.layout_rules.specs.Labels.{letter_o, Marks}
use Rattle.layout_rules.specs.Pins.{exit_count}
use Rattle.layout_rules.specs.Reports.{ReportsNone}
use Rattle.layout_rules.specs.CircuitRules.{LabelsBroken}
use Rattle.rowed.specs.declared.source.Source.{Source}
use Rattle.shape_extract.specs.Extraction.{IsNamed, IsOutputPin}
use Rattle.shape_extract.specs.Code.OutputPins.{ShowsOutput, AreOutputs}
use Rattle.shape_extract.specs.Code.PinNames.{IsOn, Names}
use Rattle.shape_extract.proofs.Entries.{named_exit}
use Rattle.shape_extract.proofs.FramePlaces.{read_same, read_other}
use Rattle.shape_extract.proofs.Kept.{one_named, one_number_of}
use Rattle.shape_extract.proofs.KeptPins.{named_output, exit_number}

pub record Written (flat : Flat) (frames : List ℕ) (outputs : List Source) (q n : ℕ) : Type 0 where
  pub source : Source
  pub there : slice_get outputs n ≡ Some source
  pub output : IsOutputPin flat frames source q

-- the outputs that the first shapes show are written
pub record OutputsBelow (k : ℕ) (flat : Flat) (frames : List ℕ) (outputs : List Source) : Type 0 where
  pub long : length outputs ≡ exit_count flat.shapes
  pub each : (q n : ℕ) → q < k → IsNamed flat letter_o n q → Written flat frames outputs q n

pub outputs_none : (flat : Flat) (frames : List ℕ) (outputs : List Source) → length outputs ≡ exit_count flat.shapes
    → OutputsBelow 0 flat frames outputs
outputs_none flat frames outputs long = record { long = long; each = λ q n lt. absurd (omega arith) }

-- a pin that shows an output is an output pin
pub named_on : (flat : Flat) → ReportsNone (LabelsBroken flat) → (q n : ℕ)
    → IsNamed flat letter_o n q → IsOn flat OUTPUT_PIN q
named_on flat kept q n named =
    record { shape = named.mark.pin; shape_is = named.mark.pin_is; of_layer = named_output flat kept n q named }

pub off_layer : (flat : Flat) → ReportsNone (LabelsBroken flat) → (q : ℕ) (s : Shape) → slice_get flat.shapes q ≡ Some s
    → s.layer ≢ OUTPUT_PIN → (n : ℕ) → IsNamed flat letter_o n q → ⊥
off_layer flat kept q s is off n named =
    off (ap (λ (x : Shape). x.layer) (same_Some s named.mark.pin (sym is ∙ named.mark.pin_is))
    ∙ named_output flat kept n q named)

pub none_named : (flat : Flat) (q : ℕ) → ((l : ℕ) → Marks flat l q → ⊥) → (n : ℕ) → IsNamed flat letter_o n q → ⊥
none_named flat q none n named = none named.place named.mark

pub shows_from : (flat : Flat) (q : ℕ) (found : Option ℕ) → IsOn flat OUTPUT_PIN q → Names flat q found
    → ShowsOutput flat q found
shows_from flat q None on names = none_named flat q names
shows_from flat q (Some n) on names = names.output on

module _ (flat : Flat) (frames : List ℕ) (kept : ReportsNone (LabelsBroken flat)) (k : ℕ) (outputs : List Source)
    (below : OutputsBelow k flat frames outputs) where
  pub outputs_more : (m : ℕ) (source : Source) → IsNamed flat letter_o m k → IsOutputPin flat frames source k
      → OutputsBelow (k + 1) flat frames (slice_set outputs m source)
  outputs_more m source here output =
      let within : m < length outputs =
      (let lt : m < exit_count flat.shapes = exit_number flat kept m k here in omega (arith, below.long)) in
      record {
        long = length-set outputs m source ∙ below.long;
        each = λ q n lt named. elim (cases_eq q k) [
          | inl e ↦
              let mine : IsNamed flat letter_o n k = subst (IsNamed flat letter_o n) e named in
              let same : n ≡ m = one_number_of flat kept letter_o n m k mine here in
              record {
                source = source;
                there = read_same outputs m n source within same;
                output = subst (IsOutputPin flat frames source) (sym e) output;
              }
          | inr ne ↦
              let old = below.each q n (omega arith) named in
              record {
                source = old.source;
                there = read_other outputs m n source old.source
                    (λ e. ne (one_named flat kept letter_o m q k
                    (rw e at named) here)) old.there;
                output = old.output;
              }
        ];
      }

  pub outputs_same : ((n : ℕ) → IsNamed flat letter_o n k → ⊥) → OutputsBelow (k + 1) flat frames outputs
  outputs_same none = record {
    long = below.long;
    each = λ q n lt named. elim (cases_eq q k) [
      | inl e ↦ absurd (none n (subst (IsNamed flat letter_o n) e named))
      | inr ne ↦ below.each q n (omega arith) named
    ];
  }

  pub outputs_all : length flat.shapes ≤ k → AreOutputs flat frames outputs
  outputs_all all = record {
    long = below.long;
    each = λ n source at. (
        let lt : n < exit_count flat.shapes =
        (let h : n < length outputs = slice_get_within outputs n source at in omega (arith, below.long)) in
        let named = named_exit flat kept n lt in
        let within : named.0 < length flat.shapes =
        slice_get_within flat.shapes named.0 named.1.mark.pin named.1.mark.pin_is in
        let written = below.each named.0 n (omega arith) named.1 in
        let same : written.source ≡ source = same_Some written.source source (sym written.there ∙ at) in
        record {
          number = named.0;
          named = named.1;
          output = rw same at written.output;
        });
  }
