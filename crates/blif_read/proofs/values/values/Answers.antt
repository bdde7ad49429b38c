use Rattle.std.proofs.Common.{◌∙◌, arith, length-set}
use Rattle.blif_read.proofs.Evaluated.{turn, one_more_value}
use Rattle.blif_read.proofs.values.values.Goals as goal

pub overflow_sub-def : goal.overflow_sub-def
overflow_sub-def c = (turn _ _ c.args.order.now c.loop-signal.signal-index c.requires.order
    c.loop-signal-test.true).defined

pub bounds-defs-signal : goal.bounds-defs-signal
bounds-defs-signal c =
    let t = turn _ _ c.args.order.now c.loop-signal.signal-index c.requires.order c.loop-signal-test.true in
    let defined = t.defined in
    let within = t.within in
    omega arith

pub index_mut-requires-in-loop-signal : goal.index_mut-requires-in-loop-signal
index_mut-requires-in-loop-signal c =
    let within = (turn _ _ c.args.order.now c.loop-signal.signal-index c.requires.order
    c.loop-signal-test.true).within in
    omega (arith, c.loop-signal.invariant.size)

pub loop-signal-preserved : goal.loop-signal-preserved
loop-signal-preserved c = record {
  size = length-set _ _ _ ∙ c.loop-signal.invariant.size;
  agrees = one_more_value _ _ c.args.word.now c.args.order.now c.loop-signal.signal-index _ _ _ _ c.requires.order
      c.loop-signal-test.true c.loop-signal.invariant.size c.index-defs-signal.is c.deref.ensures.value
      c.cover_value.ensures c.loop-signal.invariant.agrees;
}
