use Rattle.gds_records.proofs.Flowing.{on_same, as_told}
use Rattle.aq_base.proofs.Growing.{part_stops}
use Rattle.blif_flat.proofs.Sending.{page_taken, page_stops}
use Rattle.blif_flat.proofs.writing.writer.put_page.Goals as goal

pub returns-in_err-append-clause-err : goal.returns-in_err-append-clause-err
returns-in_err-append-clause-err g c =
    let e = c.in_err-append.ensures in
    on_same _ c.from_residual.result c.from_residual.ensures.1
    (as_told _ (page_stops c.as_slice.ensures.value (part_stops _ e.part)))

pub returns-clause-ok : goal.returns-clause-ok
returns-clause-ok g c =
    let e = c.in_ok-append.ensures in
    page_taken _ _ c.as_slice.ensures.value e.added
