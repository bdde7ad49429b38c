use Rattle.std.proofs.Common.{◌≡◌, ◌∙◌, sym, ap, subst}
use Rattle.circuit_extracted.specs.Circuits.{CircuitView}
use Rattle.circuit_extracted.specs.Code.Evaluation.{AreFedBefore}
use Rattle.text_answers.proofs.InLanes.{fed_before}
use Rattle.text_answers.proofs.lanes.answer_lanes.Goals as goal

pub put_values-requires : goal.put_values-requires
put_values-requires c =
    let cells : c.as_slice.result.now ≡ c.args.circuit.now.cells = c.as_slice.ensures
    ∙ ap (λ (v : CircuitView). v.cells) c.circuit.view_is in
    subst AreFedBefore (sym cells) (fed_before c.args.circuit.now c.known.ensures)
