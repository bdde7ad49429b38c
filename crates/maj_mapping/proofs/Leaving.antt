-- A signal gets the gate of its definition.
use Rattle.std.specs.Prelude.{◌≡◌, ℕ, ◌-◌, ◌<◌, ◌≤◌, List, [], ◌∷◌, map, length, slice_get, slice_set, Option, Some}
use Rattle.std.specs.Prelude.{None, unwrap_or}
use Rattle.std.proofs.Common.{refl, sym, ap, ◌∙◌, subst, arith, inl, inr}
use Rattle.std.proofs.lemmas.Bool.{cases_eq}
use Rattle.std.proofs.lemmas.Option.{same_Some}
use Rattle.std.proofs.lemmas.List.{length-set, get_or-set_same, get_or-set_other}
use Rattle.circuit.specs.PlainNets.{AreGates}
use Rattle.blif_read.specs.declared.netlist.Def.{Def}
use Rattle.blif_read.specs.Parts.{NetView}
use Rattle.maj_mapping.specs.Values.{HasPlanes}
use Rattle.maj_mapping.specs.Counts.{AllBelow}
use Rattle.maj_mapping.specs.Operations.{Made}
use Rattle.maj_mapping.specs.Covers.{define}
use Rattle.maj_mapping.specs.Code.MakerView.{MakerView, with_gates}
use Rattle.maj_mapping.specs.Plan.{Mapping, gate_at, gate_or, leave, leave_by, signals}
use Rattle.maj_mapping.proofs.Ordered.{IsOrdered}
use Rattle.maj_mapping.proofs.Right.{past_constants}
use Rattle.maj_mapping.proofs.DefineRight.{define_is_right}
use Rattle.maj_mapping.proofs.SoundWalks.{def_of_is}
use Rattle.maj_mapping.specs.Code.Walks.{mapping, IsStanding}

-- the gates of signals exist
pub operands_below : (net : NetView) (maker : MakerView) (gate_of : List (Option ℕ)) → IsStanding net maker gate_of
    → (ss : List ℕ) → AllBelow (length maker.gates) (map (gate_or gate_of) ss)
operands_below net maker gate_of h [] = tt
operands_below net maker gate_of h (s ∷ ss) = (below (gate_at gate_of s) refl, operands_below net maker gate_of h ss)
  where
    below : (o : Option ℕ) → gate_at gate_of s ≡ o → unwrap_or o 0 < length maker.gates
    below (Some g) e = h.inside s g e
    below None e = let k = past_constants net.inputs maker.gates h.good in omega arith

-- the definition of a signal, as the code reads it
pub found_at : (net : NetView) (defs : List Def) (n signal : ℕ) (d : Def) → defs ≡ net.defs → n ≡ net.inputs
    → slice_get defs (signal - n) ≡ Some d → slice_get net.defs (signal - net.inputs) ≡ Some d
found_at net defs n signal d ds ns is = ap (λ ds. slice_get ds (signal - net.inputs)) (sym ds)
    ∙ ap (λ k. slice_get defs (signal - k)) (sym ns) ∙ is

pub planes_of : (net : NetView) → IsOrdered net → (signal : ℕ) (d : Def)
    → slice_get net.defs (signal - net.inputs) ≡ Some d → HasPlanes d.cubes
planes_of net ok signal d is = ok.planes (signal - net.inputs) d is

-- the gates of the inputs, as the code has them
pub operands_are : (gate_of given : List (Option ℕ)) (signals operands read : List ℕ) (d : Def) → given ≡ gate_of
    → signals ≡ d.inputs → operands ≡ map (gate_or given) signals → read ≡ operands
    → read ≡ map (gate_or gate_of) d.inputs
operands_are gate_of given signals operands read d g s o r = r ∙ o ∙ rw (g, s) refl

pub record Left (net : NetView) (maker after : MakerView) (gate_of next : List (Option ℕ)) (signal : ℕ) : Type 0 where
  pub left : mapping after next ≡ leave net (mapping maker gate_of) signal
  pub standing : IsStanding net after next

pub leaves : (net : NetView) → IsOrdered net
    → (maker after : MakerView) (gate_of next : List (Option ℕ)) (read : List ℕ) (signal gate : ℕ) (d : Def)
    → net.inputs ≤ signal → signal < signals net → IsStanding net maker gate_of
    → slice_get net.defs (signal - net.inputs) ≡ Some d
    → read ≡ map (gate_or gate_of) d.inputs → after ≡ with_gates maker (define maker.inputs maker.gates read d).gates
    → gate ≡ (define maker.inputs maker.gates read d).at
    → next ≡ slice_set gate_of signal (Some gate) → Left net maker after gate_of next signal
unfolding leave_by
leaves net ok maker after gate_of next read signal gate d above lt h found r is at set =
    let xs = map (gate_or gate_of) d.inputs in
    let made = define net.inputs maker.gates xs d in
    let same_made : define maker.inputs maker.gates read d ≡ made = rw (r, h.same) refl in
    let gates : after.gates ≡ made.gates = ap (λ (t : MakerView). t.gates) is ∙ ap (λ (t : Made). t.gates) same_made in
    let gate_is : gate ≡ made.at = at ∙ ap (λ (t : Made). t.at) same_made in
    let next_is : next ≡ slice_set gate_of signal (Some made.at) = set
    ∙ ap (λ g. slice_set gate_of signal (Some g)) gate_is in
    let right = define_is_right net.inputs maker.gates h.good xs d (ok.planes (signal - net.inputs) d found)
    (operands_below net maker gate_of h d.inputs) in
    let inside : signal < length gate_of = omega (arith, h.sized) in
    let here : gate_at (slice_set gate_of signal (Some made.at)) signal ≡ Some made.at = get_or-set_same gate_of signal
    (Some made.at) None inside in
    record {
      left = ap (λ gs. record { gates = gs; gate_of = next }) gates
          ∙ ap (λ ns. record { gates = made.gates; gate_of = ns }) next_is
          ∙ sym (ap (leave_by net (mapping maker gate_of) signal) (def_of_is net signal above ∙ found));
      standing = record {
        same = ap (λ (t : MakerView). t.inputs) is ∙ h.same;
        good = subst (AreGates net.inputs) (sym gates) right.good;
        sized = ap length next_is ∙ length-set gate_of signal (Some made.at) ∙ h.sized;
        inputs_mapped = λ s low free. h.inputs_mapped s low
            (sym (get_or-set_other gate_of signal s (Some made.at) None (λ e. omega arith))
            ∙ ap (λ ns. gate_at ns s) (sym next_is) ∙ free);
        inside = λ s g e.
            let e2 : gate_at (slice_set gate_of signal (Some made.at)) s ≡ Some g =
            ap (λ ns. gate_at ns s) (sym next_is) ∙ e in
            subst (λ gs. g < length gs) (sym gates) (elim (cases_eq s signal) [
              | inl same ↦ subst (λ k. k < length made.gates)
                  (same_Some made.at g (sym here
                  ∙ ap (gate_at (slice_set gate_of signal (Some made.at))) (sym same) ∙ e2)) right.inside
              | inr other ↦ (let below : g < length maker.gates = h.inside s g
                  (sym (get_or-set_other gate_of signal s (Some made.at) None other)
                  ∙ e2) in omega (arith, right.grown))
            ]);
      };
    }

-- a definition has at most the gates that are there when its signal is left
pub define_room : (net : NetView) (maker : MakerView) (gate_of : List (Option ℕ)) (read : List ℕ) (signal most : ℕ)
    (d : Def) → net.inputs ≤ signal → IsStanding net maker gate_of
    → slice_get net.defs (signal - net.inputs) ≡ Some d → read ≡ map (gate_or gate_of) d.inputs
    → length (leave net (mapping maker gate_of) signal).gates < most
    → length (define maker.inputs maker.gates read d).gates < most
unfolding leave_by
define_room net maker gate_of read signal most d above h found r few =
    let left = ap (leave_by net (mapping maker gate_of) signal) (def_of_is net signal above ∙ found) in
    let sizes : length (leave net (mapping maker gate_of) signal).gates ≡ length
    (define net.inputs maker.gates (map (gate_or gate_of) d.inputs) d).gates =
    ap (λ (t : Mapping). length t.gates) left in
    let same_made : define maker.inputs maker.gates read d ≡ define net.inputs maker.gates
    (map (gate_or gate_of) d.inputs) d = rw (r, h.same) refl in
    let size = ap (λ (t : Made). length t.gates) same_made in
    omega (arith, sizes, size, few)
