use Rattle.std.proofs.Common.{◌∙◌, sym, ap, []}
use Rattle.std.specs.Option.{option_copied}
use Rattle.blif_read.specs.Code.Reading.{left}
use Rattle.blif_read.proofs.Joining.{left_from, left_at_end}
use Rattle.blif_read.proofs.lines.whole_line.Goals as goal

pub returns-in-Some-clause-rest : goal.returns-in-Some-clause-rest
returns-in-Some-clause-rest c = sym (ap (λ o. left c.args.next [] c.args.next (option_copied o)) c.in-Some.is
    ∙ left_from c.args.next c.in-Some.rest.now)

pub returns-in-None-clause-rest : goal.returns-in-None-clause-rest
returns-in-None-clause-rest c = sym (ap (λ o. left c.args.next [] c.args.next (option_copied o)) c.in-None.is
    ∙ left_at_end c.args.next c.args.next [])
