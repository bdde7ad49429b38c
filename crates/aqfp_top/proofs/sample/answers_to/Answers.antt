use Rattle.std.proofs.Common.{◌≡◌, ◌<◌, ◌+◌, length, get_or, take, rules, subst, sym}
use Rattle.std.specs.List.{AllZip}
use Rattle.blif_read.specs.Equations.{IsAnswer}
use Rattle.aqfp_top.proofs.Sampling.{next_answer}
use Rattle.aqfp_top.proofs.sample.answers_to.Goals as goal

pub loop-word-preserved : goal.loop-word-preserved
loop-word-preserved c =
    let within : c.loop-word.word-index < length c.as_slice-word-items.result.now = search rules in
    let at : c.word-item.result ≡ get_or c.as_slice-word-items.result.now c.loop-word.word-index
    c.word-item.result = search rules in
    let next = next_answer c.args.net.now c.as_slice-word-items.result.now c.loop-word.answers c.loop-word.word-index
    c.word-item.result c.in_ok-answer_word.field-0 within at c.loop-word.invariant c.in_ok-answer_word.ensures in
    subst (λ answers. AllZip (IsAnswer c.args.net.now)
    (take (c.loop-word.word-index + 1) c.as_slice-word-items.result.now) answers) (sym c.in_ok-push.ensures.ok) next
