use Rattle.std.proofs.Common.{arith}
use Rattle.layout_rules.proofs.RuleLaws.{KeepsBelow-none}
use Rattle.layout_rules.specs.declared.rule.Rule.TheVariants.{E1}
use Rattle.shape_extract.proofs.FiveRules.{breaks, found_none}
use Rattle.shape_extract.proofs.extracting.extract_filed.Goals as goal

pub returns-in-Some-clause-broken : goal.returns-in-Some-clause-broken
returns-in-Some-clause-broken c =
    rw c.refusal.ensures (breaks c.args.flat.now E1 _ c.in-Some.report c.broken.result (omega arith)
    (λ limits. rw c.as_slice-shapes.ensures at c.in_ok-report.ensures) c.in-Some.is c.broken.ensures
    (λ limits. KeepsBelow-none c.args.flat.now limits))

pub extract_cells-requires-clause-kept : goal.extract_cells-requires-clause-kept
extract_cells-requires-clause-kept c = found_none _ _
    (rw c.as_slice-shapes.ensures at c.in_ok-report.ensures) c.in_default.not-Some
