use Rattle.std.proofs.lemmas.Result.{err_from_is_err_and}
use Rattle.text_answers.specs.Counts.{counts_text}
use Rattle.aqfp_top.specs.Words.{spelled}
use Rattle.aqfp_top.specs.declared.words.Form.TheVariants.{Write}
use Rattle.aqfp_top.proofs.WriteSteps.{write_only, same_counts}
use Rattle.aqfp_top.proofs.Storing.{stores_shut}
use Rattle.aqfp_top.proofs.Running.{store_runs, stored_runs}
use Rattle.aqfp_top.proofs.write.write_netlist.Goals as goal

pub returns-in_err-store_netlist-clause-shut : goal.returns-in_err-store_netlist-clause-shut
returns-in_err-store_netlist-clause-shut g c = stores_shut _ _ _ _ _ c.in_err-store_netlist.ensures

pub returns-clause-only : goal.returns-clause-only
returns-clause-only g c =
    let counts = c.circuit_counts.result in
    write_only (counts_text counts.rows counts.cells counts.wires) (g.O.Sink.output c.args.out.now)
    (g.O.Sink.output c.put_counts.new.out) c.put_counts.result c.put_counts.ensures

pub returns-clause-shut : goal.returns-clause-shut
returns-clause-shut g c = stores_shut _ _ _ _ _ c.in_ok-store_netlist.ensures

pub returns-in_err-circuit-clause-runs : goal.returns-in_err-circuit-clause-runs
returns-in_err-circuit-clause-runs g c =
    let runs = c.in_err-circuit.ensures.refuses (g.O.Sink.output c.args.out.now) in
    let p = err_from_is_err_and c.from_residual.result c.from_residual.ensures.1 in
    rw (p.1, p.2) runs

pub returns-in_err-store_netlist-clause-runs : goal.returns-in_err-store_netlist-clause-runs
returns-in_err-store_netlist-clause-runs g c =
    let runs = store_runs Write (g.F.Files.outside c.args.files.now).history
    (g.F.Files.outside c.read_chip.new.files) (g.F.Files.outside c.store_netlist.new.files) (spelled c.args.words.now)
    _ _ _ (g.O.Sink.output c.args.out.now) c.in_err-store_netlist.field-0.0
    c.in_ok-circuit.ensures.due c.word.ensures c.in_err-store_netlist.ensures in
    let p = err_from_is_err_and c.from_residual-in_err-store_netlist.result
    c.from_residual-in_err-store_netlist.ensures.1 in
    rw (p.1, p.2) runs

pub returns-clause-runs : goal.returns-clause-runs
returns-clause-runs g c =
    stored_runs Write _ (g.F.Files.outside c.read_chip.new.files) _ (spelled c.args.words.now) _ _ _ _ _ _ _
    c.put_counts.result c.in_ok-circuit.ensures.due c.word.ensures c.in_ok-store_netlist.ensures
    (same_counts c.in_ok-circuit.circuit c.circuit_counts.result c.circuit_counts.ensures) c.put_counts.ensures
