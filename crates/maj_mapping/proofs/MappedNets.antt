-- The mapped net is a net, with the counts of the netlist and its answer to every word.
use Rattle.std.specs.Prelude.{◌≡◌, ◌<◌, ◌^◌, length}
use Rattle.std.proofs.Common.{refl, sym, ◌∙◌, subst, arith}
use Rattle.std.proofs.lemmas.List.{length-map}
use Rattle.blif_read.specs.Parts.{NetView}
use Rattle.blif_read.specs.Netlist.{IsNetlist}
use Rattle.blif_read.specs.Equations as equations
use Rattle.blif_read.proofs.OneAnswer.{some_valuation}
use Rattle.circuit.specs.PlainNets.{PlainView, AreGates, IsPlainNet, IsAnswer}
use Rattle.circuit.specs.CellNets.{value}
use Rattle.circuit.proofs.CellAnswers.{gates_read, value_fits}
use Rattle.circuit.specs.SameAnswers.{SameAnswers}
use Rattle.maj_mapping.specs.Plan.{map_net}
use Rattle.maj_mapping.proofs.Ordered.{ordered}
use Rattle.maj_mapping.proofs.SoundWalks.{same_outputs, mapped_gates}

pub same_inputs : (net : NetView) → (map_net net).inputs ≡ net.inputs
unfolding map_net
same_inputs net = refl

pub same_count : (net : NetView) → length (map_net net).outputs ≡ length net.outputs
unfolding map_net
same_count net = length-map net.outputs _

-- the mapped net keeps what nets keep, where 32 bits number its gates
pub is_plain : (net : NetView) → IsNetlist net → length (map_net net).gates < 2 ^ 32 → IsPlainNet (map_net net)
is_plain net ok few =
    let gates = mapped_gates net (ordered net ok) in
    let some = ok.some_output in
    let count = same_count net in
    let small = ok.small in
    record {
      gates_stand = subst (λ n. AreGates n (map_net net).gates) (sym (same_inputs net)) gates.0;
      some_output = omega arith;
      each_output = gates.1;
      few_gates = few;
      few_outputs = omega arith;
    }

pub keeps_map : (net : NetView) → IsNetlist net
    → SameAnswers net.inputs (map_net net).inputs (length net.outputs) (length (map_net net).outputs)
    (equations.IsAnswer net) (IsAnswer (map_net net))
keeps_map net ok = record {
  same_inputs = same_inputs net;
  same_outputs = same_count net;
  there = λ x y long answer.
      let gates = (map_net net).gates in
      let fit = value_fits net.inputs gates (gates_read net.inputs gates (mapped_gates net (ordered net ok)).0) x in
      record {
        values = value gates x;
        fit = fit;
        shown = answer.shown ∙ sym (same_outputs net (ordered net ok) x answer.values (value gates x) answer.fit fit);
      };
  back = λ x y long answer.
      let some = some_valuation net x ok in
      record {
        values = some.0;
        fit = some.1;
        shown = answer.shown ∙ same_outputs net (ordered net ok) x some.0 answer.values some.1 answer.fit;
      };
}

-- the law of the mapping
pub keeps : (net : NetView) (out : PlainView) → IsNetlist net → out ≡ map_net net
    → SameAnswers net.inputs out.inputs (length net.outputs) (length out.outputs)
    (equations.IsAnswer net) (IsAnswer out)
keeps net out ok is =
    subst (λ (o : PlainView). SameAnswers net.inputs o.inputs (length net.outputs) (length o.outputs)
    (equations.IsAnswer net) (IsAnswer o)) (sym is) (keeps_map net ok)
