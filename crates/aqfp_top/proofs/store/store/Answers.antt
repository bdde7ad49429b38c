use Rattle.std.proofs.lemmas.Result.{err_from_is_err_and}
use Rattle.gds_records.specs.Writing.{bytes_of}
use Rattle.aqfp_top.proofs.Storing.{unmade_stores, written_stores}
use Rattle.aqfp_top.proofs.store.store.Goals as goal

pub returns-in_err-create_file : goal.returns-in_err-create_file
returns-in_err-create_file g c =
    let p = err_from_is_err_and c.from_residual.result c.from_residual.ensures.1 in
    rw (p.1, p.2) (unmade_stores _ (bytes_of c.args.layout.now) _ _ _ c.in_err-create_file.ensures.unmade)

pub returns : goal.returns
returns g c =
    written_stores _ (bytes_of c.args.layout.now) _ _ _ _ c.append_stream-written.result c.close_file.result
    c.in_ok-create_file.ensures.made c.append_stream-written.ensures c.close_file.ensures
