use Rattle.std.proofs.Common.{refl, arith}
use Rattle.gds_records.proofs.Flowing.{on_same}
use Rattle.blif_flat.proofs.Sending.{sends_nothing, stopped, item_sends, item_ends, items_sent}
use Rattle.blif_flat.proofs.writing.writer.write_each.Goals as goal

pub loop-number-init : goal.loop-number-init
loop-number-init g c = record { sends = sends_nothing _ _ refl }

pub loop-number-preserved : goal.loop-number-preserved
loop-number-preserved g c = record {
  sends = item_sends g.T.Written.lines _ _ c.loop-number.invariant.sends _ c.loop-number-test.true
      c.index-items-number.is c.in_ok-add.ensures c.in_ok-put_full_page.ensures.ok;
}

pub returns-in_err-add-clause-err : goal.returns-in_err-add-clause-err
returns-in_err-add-clause-err g c = on_same _ c.from_residual.result c.from_residual.ensures.1
    (stopped c.loop-number.invariant.sends)

pub returns-in_err-put_full_page-clause-err : goal.returns-in_err-put_full_page-clause-err
returns-in_err-put_full_page-clause-err g c =
    on_same _ c.from_residual-in_err-put_full_page.result c.from_residual-in_err-put_full_page.ensures.1
    (item_ends g.T.Written.lines _ _ c.loop-number.invariant.sends _ c.loop-number-test.true
    c.index-items-number.is c.in_ok-add.ensures c.in_err-put_full_page.ensures.err)

pub returns-clause-ok : goal.returns-clause-ok
returns-clause-ok g c = items_sent g.T.Written.lines c.args.items.now c.loop-number.number
    c.loop-number.invariant.sends (omega (arith, c.loop-number-test.false))
