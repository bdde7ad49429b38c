use Rattle.blif_read.proofs.Making.{next_key}
use Rattle.blif_read.proofs.make.index_of.Goals as goal

pub loop-name-preserved : goal.loop-name-preserved
loop-name-preserved c = next_key c.loop-name.index.keys _ c.args.names.now c.loop-name.name-index _ _ _
    c.loop-name-test.true c.name-item.is c.in_ok-copy.ensures.cases c.in_ok-insert.ensures.keys c.loop-name.invariant
