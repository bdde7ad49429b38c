-- The walks from the outputs, one after the other: what is left makes the whole.
use Rattle.std.specs.Prelude.{◌≡◌, ℕ, ◌+◌, ◌<◌, ◌≤◌, ◌^◌, List, ◌∷◌, map, length, drop, Option, Some, None}
use Rattle.std.specs.List.{fold}
use Rattle.std.proofs.Common.{refl, sym, ap, ◌∙◌, subst, arith, get_or, drop-cons, add-one}
use Rattle.std.proofs.lemmas.List.{drop_all}
use Rattle.blif_read.specs.Parts.{NetView}
use Rattle.blif_read.specs.Netlist.{IsNetlist}
use Rattle.circuit.specs.PlainNets.{PlainView, IsPlainNet}
use Rattle.maj_mapping.specs.Code.MakerView.{MakerView}
use Rattle.maj_mapping.specs.Plan.{Mapping, visit, start, first_gates, first_map, mapped, map_net, gate_or, signals}
use Rattle.maj_mapping.proofs.Ordered.{IsOrdered}
use Rattle.maj_mapping.proofs.SoundWalks.{start_right}
use Rattle.maj_mapping.proofs.MappedNets.{is_plain}
use Rattle.maj_mapping.proofs.FewGates.{few_gates}
use Rattle.maj_mapping.proofs.Growing.{visit_grows, walks_grow}
use Rattle.maj_mapping.specs.Code.Walks.{deep, walk, mapping, IsStanding}

pub record Mapped (net : NetView) (outputs : List ℕ) (maker : MakerView)
    (gate_of : List (Option ℕ)) (k : ℕ) : Type 0 where
  pub left : fold (visit net (deep net)) (mapping maker gate_of) (drop k outputs) ≡ mapped net
  pub standing : IsStanding net maker gate_of

pub begins : (net : NetView) → IsOrdered net
    → (outputs : List ℕ) (n defs : ℕ) (maker : MakerView) (gate_of : List (Option ℕ)) → outputs ≡ net.outputs
    → n ≡ net.inputs → defs ≡ length net.defs
    → maker ≡ record { inputs = n; gates = first_gates n } → gate_of ≡ first_map n defs
    → Mapped net outputs maker gate_of 0
unfolding mapped start
begins net ok outputs n defs maker gate_of o e d m g =
    let s = start_right net in
    let maker_is : maker ≡ record { inputs = net.inputs; gates = first_gates net.inputs } = m
    ∙ ap (λ i. record { inputs = i; gates = first_gates i }) e in
    let map_is : gate_of ≡ first_map net.inputs (length net.defs) = g ∙ rw (e, d) refl in
    let first : MakerView = record { inputs = net.inputs; gates = first_gates net.inputs } in
    let standing : IsStanding net first (first_map net.inputs (length net.defs)) = record {
      same = refl;
      good = s.good;
      sized = s.size;
      inputs_mapped = λ i lt free. no_gate _ _ (s.inputs_mapped i lt).1 free;
      inside = s.inside;
    } in
    record {
      left = rw (o, maker_is, map_is) refl;
      standing = subst (λ t. IsStanding net t gate_of) (sym maker_is)
          (subst (IsStanding net first) (sym map_is) standing);
    }
  where
    no_gate : (o : Option ℕ) (g : ℕ) → o ≡ Some g → o ≡ None → ⊥
    no_gate None g e h = absurd (let z : None ≡ Some g = e in cc)
    no_gate (Some k) g e h = absurd (let z : Some k ≡ None = h in cc)

pub all_outputs : (net : NetView) (outputs : List ℕ) (maker : MakerView) (gate_of given : List (Option ℕ)) (k n : ℕ)
    (shown signals : List ℕ) (gates : List _) → Mapped net outputs maker gate_of k → length outputs ≤ k
    → n ≡ net.inputs → given ≡ gate_of → signals ≡ net.outputs
    → shown ≡ map (gate_or given) signals → gates ≡ maker.gates
    → record { inputs = n; gates = gates; outputs = shown } ≡ map_net net
unfolding map_net
all_outputs net outputs maker gate_of given k n shown signals gates m past e g o s h =
    let done : mapping maker gate_of ≡ mapped net = ap (fold (visit net (deep net)) (mapping maker gate_of))
    (sym (drop_all k outputs past)) ∙ m.left in
    rw (e, h, s, g, o, ← done) refl

pub made_plain : (net : NetView) (made : PlainView) → IsNetlist net → made ≡ map_net net
    → length made.gates < 2 ^ 32 → IsPlainNet made
made_plain net made ok is few = subst IsPlainNet (sym is)
    (is_plain net ok (subst (λ (o : PlainView). length o.gates < 2 ^ 32) is few))

-- each walk has at most the gates of the whole net, which 32 bits number
pub output_room : (net : NetView) (outputs : List ℕ) (maker : MakerView) (gate_of : List (Option ℕ)) (k : ℕ)
    → IsNetlist net → k < length outputs → Mapped net outputs maker gate_of k
    → length (walk net (mapping maker gate_of) (get_or outputs k 0)).gates < 2 ^ 32
unfolding map_net
output_room net outputs maker gate_of k ok lt m =
    let next = walk net (mapping maker gate_of) (get_or outputs k 0) in
    let rest : drop k outputs ≡ get_or outputs k 0 ∷ drop (k + 1) outputs = drop-cons outputs k 0 lt
    ∙ ap (λ j. get_or outputs k 0 ∷ drop j outputs) (sym (add-one k)) in
    let all : fold (visit net (deep net)) next (drop (k + 1) outputs) ≡ mapped net =
    ap (fold (visit net (deep net)) (mapping maker gate_of)) (sym rest) ∙ m.left in
    let sizes = ap (λ (t : Mapping). length t.gates) all in
    let few : length (mapped net).gates < 2 ^ 32 = few_gates net ok in
    omega (
      arith,
      sizes,
      walks_grow (visit net (deep net)) (visit_grows net (deep net)) next
          (drop (k + 1) outputs),
      few,
    )
