-- The driver of each net, written pin by pin.
use Rattle.std.proofs.Common.{◌≡◌, ◌≢◌, ℕ, ◌+◌, ◌<◌, ◌≤◌, inl, inr, false, List, length, Some, refl, sym, ap, subst}
use Rattle.std.proofs.Common.{◌∙◌, arith, eq-eqb}
use Rattle.std.specs.Prelude.{slice_get, slice_index, slice_set, ◌==◌}
use Rattle.std.proofs.Math.ListN.{length-set}
use Rattle.std.proofs.lemmas.Bool.{cases_eq, cases_lt, or_right}
use Rattle.std.proofs.lemmas.Option.{same_Some, slice_get_within, get_or_from_slice_get}
use Rattle.geom.specs.declared.shapes.Shape.{Shape}
use Rattle.geom.specs.declared.shapes.Flat.{Flat}
use Rattle.layout_rules.specs.declared.layers.TheConstants.{INPUT_PIN, OUTPUT_PIN}
use Rattle.layout_rules.specs.Nets.{AreNets}
use Rattle.layout_rules.proofs.NetLaws.{Joined-within, one_number, one_net}
use Rattle.layout_rules.specs.Reports.{ReportsNone}
use Rattle.layout_rules.specs.CircuitRules.{IsInput, IsSource, NetsBroken}
use Rattle.layout_rules.proofs.Deciding.{settled}
use Rattle.shape_extract.specs.Code.Drivers.{AreDrivers, IsOnlySource}
use Rattle.shape_extract.proofs.Each.{item_at}
use Rattle.shape_extract.proofs.FramePlaces.{read_same, read_other}

-- the drivers among the first shapes are written
pub record DriversBelow (n : ℕ) (shapes : List Shape) (nets drivers : List ℕ) : Type 0 where
  pub long : length drivers ≡ length shapes
  pub each : (q : ℕ) (pin : Shape) → q < n → slice_get shapes q ≡ Some pin → pin.layer ≡ OUTPUT_PIN
      → slice_get drivers (slice_index nets q) ≡ Some q

pub net_below : (shapes : List Shape) (nets : List ℕ) → AreNets shapes nets → (q : ℕ) → q < length shapes
    → slice_index nets q < length shapes
net_below shapes nets are q lt = Joined-within shapes q (slice_index nets q) lt (are.joined q lt)

module _ (flat : Flat) (nets : List ℕ) (are : AreNets flat.shapes nets) (kept : ReportsNone (NetsBroken flat)) where
  -- output pins in one net are one
  one_output : (p q : ℕ) (pin other : Shape) → slice_get flat.shapes p ≡ Some pin → slice_get flat.shapes q ≡ Some other
      → pin.layer ≡ OUTPUT_PIN → other.layer ≡ OUTPUT_PIN → slice_index nets p ≡ slice_index nets q → p ≡ q
  one_output p q pin other p_is q_is on also same = settled p q (λ ne. kept p q (inl (record {
    pin = record {
      shape = pin;
      shape_is = p_is;
      passes_so = or_right (pin.layer == INPUT_PIN) (pin.layer == OUTPUT_PIN) (eq-eqb pin.layer OUTPUT_PIN on);
    };
    other = other;
    other_is = q_is;
    one_layer = on ∙ sym also;
    apart = ne;
    joined = one_net flat.shapes nets are p q (slice_get_within flat.shapes p pin p_is)
        (slice_get_within flat.shapes q other q_is) same;
  })))

  module _ (n : ℕ) (drivers : List ℕ) (here : Shape) (below : DriversBelow n flat.shapes nets drivers)
      (got : slice_get flat.shapes n ≡ Some here) where
    pub drivers_more : here.layer ≡ OUTPUT_PIN
        → DriversBelow (n + 1) flat.shapes nets (slice_set drivers (slice_index nets n) n)
    drivers_more on =
        let lt : n < length flat.shapes = slice_get_within flat.shapes n here got in
        let within : slice_index nets n < length drivers =
        omega (arith, net_below flat.shapes nets are n lt, below.long) in
        record {
          long = length-set drivers (slice_index nets n) n ∙ below.long;
          each = λ q pin q_lt is also. elim (cases_eq q n) [
            | inl e ↦ read_same drivers (slice_index nets n) (slice_index nets q) n within
                (ap (slice_index nets) e) ∙ ap Some (sym e)
            | inr ne ↦ read_other drivers (slice_index nets n) (slice_index nets q) n q
                (λ same. ne (one_output q n pin here is got also on same)) (below.each q pin (omega arith) is also)
          ];
        }

    pub drivers_same : here.layer ≢ OUTPUT_PIN → DriversBelow (n + 1) flat.shapes nets drivers
    drivers_same off = record {
      long = below.long;
      each = λ q pin q_lt is on. elim (cases_eq q n) [
        | inl e ↦ absurd (off (ap (λ (s : Shape). s.layer)
            (same_Some here pin (sym got ∙ (ap (slice_get flat.shapes) (sym e) ∙ is))) ∙ on))
        | inr ne ↦ below.each q pin (omega arith) is on
      ];
    }

  pub drivers_all : (n : ℕ) (drivers : List ℕ) → length flat.shapes ≤ n → DriversBelow n flat.shapes nets drivers
      → AreDrivers flat.shapes nets drivers
  drivers_all n drivers all below = record {
    long = below.long;
    each = λ q pin is on. (let lt : q < length flat.shapes =
        slice_get_within flat.shapes q pin is in below.each q pin (omega arith) is on);
  }

  -- what the table names is the driver
  module _ (drivers : List ℕ) (table : AreDrivers flat.shapes nets drivers) (p : ℕ) (input : IsInput flat false p) where
    p_within : p < length flat.shapes
    p_within = slice_get_within flat.shapes p input.pin input.pin_is

    pub hits : (b : ℕ) → IsSource flat.shapes p b → b ≡ slice_index drivers (slice_index nets p)
    hits b source =
        let same : slice_index nets p ≡ slice_index nets b =
        one_number flat.shapes nets are p b p_within source.joined in
        sym (get_or_from_slice_get drivers (slice_index nets p) b 0 (ap (slice_get drivers) same
        ∙ table.each b source.pin source.pin_is source.of_layer))

    not_undriven : ((b : ℕ) → IsSource flat.shapes p b → ⊥) → ⊥
    not_undriven none = kept p p
        (inr (λ b rival. kept p b (inl rival), inl (record { input = input; none = none }, refl)))

    not_none : (IsSource flat.shapes p (slice_index drivers (slice_index nets p)) → ⊥) → ⊥
    not_none never = not_undriven (λ b source. never (subst (IsSource flat.shapes p) (hits b source) source))

    pub only_source : IsOnlySource flat.shapes p (slice_index drivers (slice_index nets p))
    only_source =
        let lt : slice_index drivers (slice_index nets p) < length flat.shapes =
        elim (cases_lt (slice_index drivers (slice_index nets p)) (length flat.shapes)) [
          | inl lt ↦ lt
          | inr ge ↦ absurd (not_none
              (λ source. (let lt : slice_index drivers (slice_index nets p) < length flat.shapes =
              slice_get_within flat.shapes
              (slice_index drivers (slice_index nets p)) source.pin source.pin_is in omega arith)))
        ] in
        let pin = item_at flat.shapes (slice_index drivers (slice_index nets p)) lt in
        let layer : pin.0.layer ≡ OUTPUT_PIN = settled pin.0.layer OUTPUT_PIN
        (λ ne. not_none (λ source. ne
        (ap (λ (s : Shape). s.layer) (same_Some pin.0 source.pin (sym pin.1 ∙ source.pin_is))
        ∙ source.of_layer))) in
        let same : slice_index nets p ≡ slice_index nets (slice_index drivers (slice_index nets p)) = settled
        (slice_index nets p) (slice_index nets (slice_index drivers (slice_index nets p)))
        (λ ne. not_none (λ source. ne
        (one_number flat.shapes nets are p (slice_index drivers (slice_index nets p)) p_within source.joined))) in
        record {
          source = record {
            pin = pin.0;
            pin_is = pin.1;
            of_layer = layer;
            joined = one_net flat.shapes nets are p (slice_index drivers (slice_index nets p)) p_within lt same;
          };
          only = hits;
        }
