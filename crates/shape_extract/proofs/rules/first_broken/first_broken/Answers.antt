use Rattle.std.proofs.Common.{arith}
use Rattle.layout_rules.specs.declared.rule.Rule.TheVariants.{E2, E3, E4, E6}
use Rattle.shape_extract.proofs.FiveRules.{breaks, found_none, excites_none, cells_below, lines_below, nets_below}
use Rattle.shape_extract.proofs.FiveRules.{rows_below}
use Rattle.shape_extract.proofs.rules.first_broken.first_broken.Goals as goal

pub returns-in-Some : goal.returns-in-Some
returns-in-Some c =
    breaks c.args.flat.now E2 _ c.in-Some.report c.broken.result (omega arith)
    (λ limits. rw c.as_slice.ensures at c.in_ok-report.ensures.finds) c.in-Some.is c.broken.ensures
    (λ limits. cells_below c.args.flat.now limits c.requires.kept)

pub returns-in-Some-2 : goal.returns-in-Some-2
returns-in-Some-2 c =
    breaks c.args.flat.now E3 _ c.in-Some-2.report c.broken-in-Some-2.result (omega arith)
    (λ limits. c.in_ok-report-2.ensures) c.in-Some-2.is c.broken-in-Some-2.ensures
    (λ limits. lines_below c.args.flat.now limits c.requires.kept
    (found_none _ _ (rw c.as_slice.ensures at c.in_ok-report.ensures.finds) c.in_default.not-Some))

pub returns-in-Some-3 : goal.returns-in-Some-3
returns-in-Some-3 c =
    breaks c.args.flat.now E4 _ c.in-Some-3.report c.broken-in-Some-3.result (omega arith)
    (λ limits. c.in_ok-report-3.ensures) c.in-Some-3.is c.broken-in-Some-3.ensures
    (λ limits. nets_below c.args.flat.now limits c.requires.kept
    (found_none _ _ (rw c.as_slice.ensures at c.in_ok-report.ensures.finds) c.in_default.not-Some)
    (found_none _ _ c.in_ok-report-2.ensures c.in_default-2.not-Some))

pub returns-in-Some-4 : goal.returns-in-Some-4
returns-in-Some-4 c =
    breaks c.args.flat.now E6 _ c.in-Some-4.report c.broken-in-Some-4.result (omega arith)
    (λ limits. c.in_ok-report-4.ensures) c.in-Some-4.is c.broken-in-Some-4.ensures
    (λ limits. rows_below c.args.flat.now limits c.requires.kept
    (found_none _ _ (rw c.as_slice.ensures at c.in_ok-report.ensures.finds) c.in_default.not-Some)
    (found_none _ _ c.in_ok-report-2.ensures c.in_default-2.not-Some)
    (found_none _ _ c.in_ok-report-3.ensures c.in_default-3.not-Some))

pub returns : goal.returns
returns c = record {
  cells = c.requires.kept;
  lines = found_none _ _ (rw c.as_slice.ensures at c.in_ok-report.ensures.finds) c.in_default.not-Some;
  nets = found_none _ _ c.in_ok-report-2.ensures c.in_default-2.not-Some;
  rows = found_none _ _ c.in_ok-report-3.ensures c.in_default-3.not-Some;
  labels = found_none _ _ c.in_ok-report-4.ensures c.in_default-4.not-Some;
  excited = excites_none _ _ (rw c.as_slice.ensures at c.in_ok-report.ensures.excited) c.in_default.not-Some;
}
