use Rattle.std.proofs.Common.{◌<◌, length, get_or, rules}
use Rattle.std.proofs.lemmas.Result.{err_from_is_err_and}
use Rattle.aqfp_top.proofs.Pending.{pends_byte, part_byte}
use Rattle.aqfp_top.proofs.page.add_text.Goals as goal

pub returns-in_err-add_byte-clause-part : goal.returns-in_err-add_byte-clause-part
returns-in_err-add_byte-clause-part g c =
    let p = err_from_is_err_and c.from_residual.result c.from_residual.ensures.1 in
    let text = c.args.text.now in
    let i = c.loop-byte.byte-index in
    let within : i < length text = search rules in
    rw (p.1, p.2) (part_byte c.args.page.now text i (get_or text i 0) within
    (search rules) c.loop-byte.invariant (search rules))

pub loop-byte-preserved : goal.loop-byte-preserved
loop-byte-preserved g c =
    let text = c.args.text.now in
    let i = c.loop-byte.byte-index in
    let within : i < length text = search rules in
    pends_byte c.args.page.now text i (get_or text i 0) within (search rules) c.loop-byte.invariant (search rules)
