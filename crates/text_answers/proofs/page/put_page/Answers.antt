use Rattle.std.proofs.lemmas.Result.{err_from_is_err_and}
use Rattle.text_answers.proofs.Pages.{page_put, page_refused}
use Rattle.text_answers.proofs.page.put_page.Goals as goal

pub returns-in_err-put-clause-refused : goal.returns-in_err-put-clause-refused
returns-in_err-put-clause-refused g c =
    let p = err_from_is_err_and c.from_residual.result c.from_residual.ensures.1 in
    rw (p.1, p.2) (λ before text is. page_refused before _ _ _ _ text _ is c.as_slice.ensures.value
    c.in_err-put.ensures.part)

pub returns-clause-put : goal.returns-clause-put
returns-clause-put g c = rw c.clear.ensures.items
    (λ before text is. page_put before _ _ _ _ text is c.as_slice.ensures.value c.in_ok-put.ensures.added)
