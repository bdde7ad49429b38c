use Rattle.aqfp_top.proofs.Judging.{rule_broken}
use Rattle.aqfp_top.proofs.judge.extracted.Goals as goal

pub returns-in-Err-Broken-clause-bad : goal.returns-in-Err-Broken-clause-bad
returns-in-Err-Broken-clause-bad c =
    rule_broken c.args.flat.now _ _ _ _ c.in-Err-Broken.field-0-is c.in-Err-Broken.ensures.broken
