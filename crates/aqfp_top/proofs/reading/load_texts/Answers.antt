use Rattle.std.proofs.lemmas.Result.{err_from_is_err_and}
use Rattle.aqfp_top.specs.Words.{spelled}
use Rattle.aqfp_top.proofs.LoadedTexts.{third_refused}
use Rattle.aqfp_top.proofs.reading.load_texts.Goals as goal

pub returns-in_err-third-clause-refused : goal.returns-in_err-third-clause-refused
returns-in_err-third-clause-refused g c =
    let two = c.in_ok-two.two in
    let bad = third_refused (spelled c.args.words.now) _ _ _ two.first.items two.lib.items c.in_err-third.field-0.0
    c.in_ok-two.ensures.first_fits c.in_ok-two.ensures.lib_fits c.in_ok-two.ensures.history
    c.in_err-third.ensures.refused in
    let p = err_from_is_err_and c.from_residual-in_err-third.result c.from_residual-in_err-third.ensures.1 in
    rw (p.1, p.2) bad
