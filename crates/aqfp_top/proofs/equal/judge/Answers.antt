use Rattle.std.proofs.lemmas.Result.{err_from_is_err_and}
use Rattle.aqfp_top.proofs.FewCells.{few}
use Rattle.aqfp_top.proofs.Comparing.{circuit_answers, makes_both, both_well}
use Rattle.aqfp_top.proofs.equal.judge.Goals as goal

pub returns-in_err-circuit-clause-bad : goal.returns-in_err-circuit-clause-bad
returns-in_err-circuit-clause-bad c =
    let bad = circuit_answers c.args.gds.items c.args.lib.now c.args.text.now c.in_err-circuit.field-0.0
    c.in_err-circuit.ensures.bad in
    let p = err_from_is_err_and c.from_residual.result c.from_residual.ensures.1 in
    rw (p.1, p.2) bad

pub verdict_of-requires : goal.verdict_of-requires
verdict_of-requires c = few c.args.gds.items c.args.lib.now c.in_ok-circuit.circuit c.in_ok-circuit.ensures.ok

pub returns-clause-found : goal.returns-clause-found
returns-clause-found c =
    c.verdict_of.ensures.found c.args.gds.items c.args.lib.now c.args.text.now
    (makes_both c.args.gds.items c.args.lib.now c.args.text.now _ _ c.in_ok-circuit.ensures.ok c.in_ok-net.ensures.ok)

pub returns-clause-well : goal.returns-clause-well
returns-clause-well c =
    c.verdict_of.ensures.well c.args.gds.items c.args.lib.now c.args.text.now
    (makes_both c.args.gds.items c.args.lib.now c.args.text.now _ _ c.in_ok-circuit.ensures.ok c.in_ok-net.ensures.ok)
    (both_well c.args.gds.items c.args.lib.now c.args.text.now _ c.in_ok-circuit.ensures.well c.in_ok-net.ensures.ok)

pub returns-clause-bad : goal.returns-clause-bad
returns-clause-bad c =
    c.verdict_of.ensures.bad c.args.gds.items c.args.lib.now c.args.text.now
    (makes_both c.args.gds.items c.args.lib.now c.args.text.now _ _ c.in_ok-circuit.ensures.ok c.in_ok-net.ensures.ok)
    (both_well c.args.gds.items c.args.lib.now c.args.text.now _ c.in_ok-circuit.ensures.well c.in_ok-net.ensures.ok)
