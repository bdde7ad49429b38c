use Rattle.std.proofs.Common.{◌≡◌, ◌∙◌, sym, ap, subst, List, Bool}
use Rattle.std.proofs.lemmas.Result.{IfOk-weaker}
use Rattle.rowed.specs.declared.source.Source.{Source}
use Rattle.circuit_extracted.specs.declared.cells.ExCell.{ExCell}
use Rattle.circuit_extracted.specs.Circuits.{CircuitView, KeepsFacts}
use Rattle.circuit_extracted.specs.Answers.{values_at, IsAnswer}
use Rattle.circuit.specs.Gates.{valuation}
use Rattle.circuit_extracted.specs.Code.Evaluation.{AreFedBefore, AreValues}
use Rattle.circuit_extracted.proofs.Evaluated.{fed_before, evaluated}
use Rattle.circuit_extracted.proofs.answers.ExtractedAnswers.answer.Goals as goal

pub values-requires : goal.values-requires
values-requires c =
    let cells : c.as_slice.result.now ≡ c.args.self.now.cells = c.as_slice.ensures
    ∙ ap (λ (v : CircuitView). v.cells) c.self.view_is in
    subst AreFedBefore (sym cells) (fed_before c.args.self.now (subst KeepsFacts c.self.view_is c.self.invariant))

pub returns : goal.returns
returns c =
    let cells : c.as_slice.result.now ≡ c.args.self.now.cells = c.as_slice.ensures
    ∙ ap (λ (v : CircuitView). v.cells) c.self.view_is in
    let outputs : c.as_slice-3.result.now ≡ c.args.self.now.outputs = c.as_slice-3.ensures
    ∙ ap (λ (v : CircuitView). v.outputs) c.self.view_is in
    let of_word : AreValues c.as_slice.result.now c.args.word.now c.in_ok-values.values.items =
    rw c.as_slice-2.ensures at c.in_ok-values.ensures in
    let are : AreValues c.args.self.now.cells c.args.word.now c.in_ok-values.values.items =
    subst (λ (l : List ExCell). AreValues l c.args.word.now c.in_ok-values.values.items) cells of_word in
    IfOk-weaker c.shown.result (λ answer. answer ≡ values_at c.as_slice-3.result.now (valuation c.deref.result.now))
    (IsAnswer c.args.self.now c.args.word.now)
    (λ answer is. evaluated c.args.self.now c.args.word.now c.in_ok-values.values.items answer are
    (is ∙ (ap (λ (l : List Source). values_at l (valuation c.deref.result.now)) outputs
    ∙ ap (λ (l : List Bool). values_at c.args.self.now.outputs (valuation l)) c.deref.ensures.value)))
    c.shown.ensures
