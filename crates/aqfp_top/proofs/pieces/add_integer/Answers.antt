use Rattle.std.proofs.Common.{◌≡◌, ◌∷◌, ◌++◌, IfErr, rules, subst}
use Rattle.std.specs.Fmt.{decimal}
use Rattle.std.proofs.lemmas.Result.{IfErr-weaker}
use Rattle.aq_base.specs.Output.{PrintsPart}
use Rattle.aqfp_top.specs.Lines.{integer_text}
use Rattle.aqfp_top.proofs.Pending.{part_after_byte}
use Rattle.aqfp_top.proofs.pieces.add_integer.Goals as goal

pub returns-clause-part : goal.returns-clause-part
returns-clause-part g c =
    let d = c.add_decimal-2 in
    let same : 45 ∷ decimal c.unsigned_abs.result ≡ integer_text c.args.n = search rules in
    subst (λ t. IfErr d.result
    (PrintsPart (g.S.Sink.output c.args.sink.now) (g.S.Sink.output d.new.sink) (c.args.page.now ++ t))) same
    (IfErr-weaker d.result _ _
    (λ why part. part_after_byte c.args.page.now 45
    (decimal c.unsigned_abs.result) c.in_ok-add_byte.ensures.pends part) d.ensures.part)
