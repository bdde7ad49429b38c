use Rattle.std.proofs.Common.{ap}
use Rattle.std.specs.Option.{option_copied}
use Rattle.blif_read.proofs.Passing.{passing_none, passed_all}
use Rattle.blif_read.proofs.lines.pass_line.Goals as goal

pub returns-in-None-clause-passed : goal.returns-in-None-clause-passed
returns-in-None-clause-passed c = passed_all _ _ _ _ _
    (passing_none c.args.number c.args.text.now) _ _ _ _ c.uncommented_line.ensures.first
    c.content_of-goes_on.ensures.content c.content_of-goes_on.ensures.goes_on _ c.behind.ensures
    _ c.any_token-any.ensures
    (ap option_copied c.in-None.is)
