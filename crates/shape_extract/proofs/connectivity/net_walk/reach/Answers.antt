use Rattle.std.proofs.Common.{◌∙◌, length, sym, ap, arith}
use Rattle.shape_extract.specs.Code.Walk.{AreTouching, IsSpreadTo, IsTold}
use Rattle.shape_extract.proofs.MarkTable.{put_back}
use Rattle.shape_extract.proofs.NetWalk.{reached_now, told_now}
use Rattle.shape_extract.proofs.connectivity.net_walk.reach.Goals as goal

pub returns-clause-reached : goal.returns-clause-reached
returns-clause-reached c =
    let are : AreTouching c.args.kinds.now c.args.from c.as_slice-numbers.result.now =
    rw c.as_slice-numbers.ensures.value c.in_ok-list_touching.ensures in
    let s : IsSpreadTo (length c.as_slice-numbers.result.now) c.args.kinds.now c.as_slice-numbers.result.now
    c.args.walk.now.labels.items c.args.walk.now.order.items c.spread.new.labels c.spread.new.order.items c.args.from =
    rw c.deref_mut-2.ensures.value at c.in_ok-spread.ensures in
    rw (put_back c.args.walk.now.labels.len c.args.walk.now.labels.items c.spread.new.labels
    (s.walk.long ∙ sym c.requires.walk.long)
    (omega (arith, c.deref_mut-2.ensures.len, ap length c.deref_mut-2.ensures.value)))
    (reached_now c.args.kinds.now c.args.walk.now.labels.items c.args.walk.now.order.items _ _
    c.as_slice-numbers.result.now c.args.from are s)

pub returns-clause-told : goal.returns-clause-told
returns-clause-told c =
    let are : AreTouching c.args.kinds.now c.args.from c.as_slice-numbers.result.now =
    rw c.as_slice-numbers.ensures.value c.in_ok-list_touching.ensures in
    let told : IsTold c.args.kinds.now c.args.from c.args.walk.now.touched.items c.note_touched.new.touched =
    told_now c.args.kinds.now c.args.from c.as_slice-numbers.result.now c.args.walk.now.touched.items _ are
    (omega (arith, c.requires.touched, c.requires.at)) (rw c.deref_mut.ensures.value at c.note_touched.ensures) in
    rw (put_back c.args.walk.now.touched.len c.args.walk.now.touched.items c.note_touched.new.touched told.long
    (omega (arith, c.deref_mut.ensures.len, ap length c.deref_mut.ensures.value))) told
