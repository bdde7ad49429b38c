use Rattle.std.proofs.Common.{true, false, rules, arith, subst}
use Rattle.text_answers.specs.RowStarts.{StandsIn}
use Rattle.text_answers.proofs.Tracing.{row_done, next_row, sign_more, in_row_more}
use Rattle.text_answers.proofs.fluxes.add_signs.Goals as goal

pub loop-page-preserved : goal.loop-page-preserved
loop-page-preserved c =
    let here : StandsIn c.args.cells.now c.loop-page.next c.args.row true =
    subst (StandsIn c.args.cells.now c.loop-page.next c.args.row) c.loop-page-test.true c.stands_in.ensures in
    record {
      later = search (rules, arith, c.loop-page.invariant.later);
      within = (let long = here.0 in omega (arith, long));
      in_row = in_row_more _ _ _ _ c.loop-page.invariant.in_row here;
      signs = sign_more c.args.row c.args.cells.now _ _ _ _ _ _ _ _ c.loop-page.invariant.later c.flux.ensures
          c.sign_of.ensures c.loop-page.invariant.signs (search rules);
    }

pub returns-clause-signs : goal.returns-clause-signs
returns-clause-signs c =
    let ends : StandsIn c.args.cells.now c.loop-page.next c.args.row false =
    subst (StandsIn c.args.cells.now c.loop-page.next c.args.row) c.loop-page-test.false c.stands_in.ensures in
    row_done _ _ _ _ _ _ _ c.requires.rising c.requires.first c.loop-page.invariant.later c.loop-page.invariant.within
    c.loop-page.invariant.in_row ends c.loop-page.invariant.signs

pub returns-clause-next : goal.returns-clause-next
returns-clause-next c =
    let ends : StandsIn c.args.cells.now c.loop-page.next c.args.row false =
    subst (StandsIn c.args.cells.now c.loop-page.next c.args.row) c.loop-page-test.false c.stands_in.ensures in
    next_row _ _ _ _ c.requires.rising c.requires.first c.loop-page.invariant.later c.loop-page.invariant.within
    c.loop-page.invariant.in_row ends
