use Rattle.std.proofs.Common.{◌≡◌, ◌≤◌, ◌+◌, ◌*◌, Bool, List, All, rules, arith, refl, ap, sym, subst, ◌∙◌, length}
use Rattle.std.proofs.lemmas.Result.{err_from_is_err_and}
use Rattle.text_answers.specs.Counts.{delay_of}
use Rattle.text_answers.specs.Printing.{PrintsWithin, IsPrinted}
use Rattle.text_answers.specs.WordLines.{values_at}
use Rattle.text_answers.proofs.Answering.{begins_with_counts, prefix_of_answers, all_answered, answers_refused}
use Rattle.text_answers.proofs.InBlocks.{block_text}
use Rattle.text_answers.proofs.Pages.{within_none}
use Rattle.text_answers.proofs.NextWords.{left_wide, left_after, block_due}
use Rattle.text_answers.proofs.answers.print_answers.Goals as goal

pub loop-done-init : goal.loop-done-init
loop-done-init g c = record {
  printed = begins_with_counts _ _ c.args.circuit.now c.args.words.now c.in-Ok.ensures.page;
  to_come = refl;
  long = c.in-Ok.ensures.long;
  within = omega arith;
}

pub enter_block-rest-requires-clause-wide : goal.enter_block-rest-requires-clause-wide
enter_block-rest-requires-clause-wide g c =
    left_wide c.text-rest.result.now c.loop-done.rest.now c.loop-done.done c.args.circuit.now.inputs _
    c.loop-done.invariant.to_come
    (subst (λ (ws : List (List Bool)). All (λ w. length w ≡ c.args.circuit.now.inputs) ws)
    (sym c.text-rest.ensures) c.requires) c.loop-done.invariant.long

pub returns-in_err-print_block-clause-part : goal.returns-in_err-print_block-clause-part
returns-in_err-print_block-clause-part g c =
    let p = err_from_is_err_and c.from_residual.result c.from_residual.ensures.1 in
    let more : c.loop-done.done + c.block_of-count.result ≤ length c.args.words.now =
    omega (arith, c.block_of-count.ensures.there, c.count-in-loop-done.ensures.count) in
    let due = block_due c.args.circuit.now c.text-rest.result.now c.loop-done.rest.now c.args.words.now
    c.enter_block-rest.new.lanes.words.items c.loop-done.done c.block_of-count.result
    (c.answers_are_shown.ensures.answers c.args.circuit.now c.args.words.now c.known.ensures c.requires)
    c.loop-done.invariant.to_come c.text-rest.ensures more c.enter_block-rest.ensures.words in
    rw (p.1, p.2) (prefix_of_answers c.args.circuit.now c.args.words.now (c.loop-done.done + c.block_of-count.result)
    (length c.args.words.now) _ _ _ more
    (subst (λ t. PrintsWithin (g.O.Sink.output c.args.out.now)
    (g.O.Sink.output c.print_block.new.out) t c.in_err-print_block.field-0.0)
    (block_text c.args.circuit.now c.args.words.now c.loop-done.done c.block_of-count.result)
    (c.in_err-print_block.ensures.refused
    (λ l. values_at c.args.circuit.now c.args.words.now (4 * (c.loop-done.done + l) + delay_of c.args.circuit.now))
    due _ _ c.loop-done.invariant.printed)))

pub loop-done-preserved : goal.loop-done-preserved
loop-done-preserved g c =
    let more : c.loop-done.done + c.block_of-count.result ≤ length c.args.words.now =
    omega (arith, c.block_of-count.ensures.there, c.count-in-loop-done.ensures.count) in
    let due = block_due c.args.circuit.now c.text-rest.result.now c.loop-done.rest.now c.args.words.now
    c.enter_block-rest.new.lanes.words.items c.loop-done.done c.block_of-count.result
    (c.answers_are_shown.ensures.answers c.args.circuit.now c.args.words.now c.known.ensures c.requires)
    c.loop-done.invariant.to_come c.text-rest.ensures more c.enter_block-rest.ensures.words in
    rw c.from-done.ensures (record {
      printed = subst (IsPrinted (g.O.Sink.output c.args.out.now)
          (g.O.Sink.output c.print_block.new.out) c.print_block.new.page.items)
          (block_text c.args.circuit.now c.args.words.now c.loop-done.done c.block_of-count.result)
          (c.in_ok-print_block.ensures.put
          (λ l. values_at c.args.circuit.now c.args.words.now
          (4 * (c.loop-done.done + l) + delay_of c.args.circuit.now)) due _ _ c.loop-done.invariant.printed);
      to_come = left_after c.text-rest.result.now c.loop-done.rest.now c.enter_block-rest.result.now c.loop-done.done
          c.block_of-count.result c.loop-done.invariant.to_come c.enter_block-rest.ensures.left;
      long = ap length c.print_block.ensures.words ∙ (c.enter_block-rest.ensures.long ∙ c.loop-done.invariant.long);
      within = more;
    })

pub returns-clause-added : goal.returns-clause-added
returns-clause-added g c = all_answered _ _ _ _ _ _ _ c.loop-done.done c.put_page.result
    (search (rules, arith)) c.loop-done.invariant.printed c.put_page.ensures.put c.put_page.ensures.empty

pub returns-clause-part : goal.returns-clause-part
returns-clause-part g c = answers_refused _ _ _ _ _ _ c.loop-done.done c.put_page.result
    (search (rules, arith)) c.loop-done.invariant.printed c.put_page.ensures.refused

pub returns-in_default-clause-part : goal.returns-in_default-clause-part
returns-in_default-clause-part g c = within_none _ _
