use Rattle.std.proofs.lemmas.Result.{err_from_is_err_and}
use Rattle.blif_flat.specs.BlifText.{blif_text}
use Rattle.aqfp_top.proofs.Storing.{unmade_stores, written_stores}
use Rattle.aqfp_top.proofs.write.store_netlist.Goals as goal

pub returns-in_err-create_file : goal.returns-in_err-create_file
returns-in_err-create_file g c =
    let p = err_from_is_err_and c.from_residual.result c.from_residual.ensures.1 in
    rw (p.1, p.2) (unmade_stores _ (blif_text c.args.circuit.now) _ _ _ c.in_err-create_file.ensures.unmade)

pub returns : goal.returns
returns g c =
    written_stores _ (blif_text c.args.circuit.now) _ _ _ _ c.append_netlist-written.result c.close_file.result
    c.in_ok-create_file.ensures.made c.append_netlist-written.ensures c.close_file.ensures
