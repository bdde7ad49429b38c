use Rattle.std.proofs.Common.{length, get_or, List, ℕ, ap, arith}
use Rattle.cell_rows.proofs.Used.{used_first, used_more, used_all, used_fits}
use Rattle.cell_rows.proofs.net.use_each.Goals as goal

pub loop-signal-init : goal.loop-signal-init
loop-signal-init c = used_first _ c.args.def.now.inputs _ _ c.requires.used

pub bump-requires : goal.bump-requires
bump-requires c =
    used_fits c.args.cells.now.net.now c.args._j c.loop-signal.signal-index _ c.args.def.now c.loop-signal.used
    c.known.ensures c.requires.here c.loop-signal.invariant
    (rw c.as_slice-signal-items.ensures at c.loop-signal-test.true)

pub loop-signal-preserved : goal.loop-signal-preserved
loop-signal-preserved c =
    used_more _ c.args.def.now.inputs _ _ _ _ _ c.loop-signal.invariant c.bump.ensures
    (ap (λ (xs : List ℕ). get_or xs c.loop-signal.signal-index 0) c.as_slice-signal-items.ensures)
    (rw c.as_slice-signal-items.ensures at c.loop-signal-test.true)

pub returns : goal.returns
returns c =
    let long = ap length c.as_slice-signal-items.ensures in
    let most = c.loop-signal.auto.signal-index-end in
    let least = c.loop-signal-test.false in
    used_all c.args.cells.now.net.now.defs c.args._j c.loop-signal.signal-index c.args.def.now _ _ c.requires.here
    (omega (arith, long, most, least)) c.loop-signal.invariant
