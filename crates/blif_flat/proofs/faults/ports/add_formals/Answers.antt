use Rattle.blif_read.specs.Code.Seen.{texts}
use Rattle.blif_flat.proofs.Indexes.{next_formal, old_formal}
use Rattle.blif_flat.proofs.faults.ports.add_formals.Goals as goal

pub loop-port-preserved : goal.loop-port-preserved
loop-port-preserved c = next_formal (texts c.args.formals.now.keys) c.loop-port.formals.keys c.insert_full.new.self.keys
    c.args.ports.now c.loop-port.port-index c.port-item.result c.as_slice.result c.in_ok-new.new _
    c.loop-port-test.true c.port-item.is c.as_slice.ensures c.in_ok-new.ensures.keys c.in_ok-new.ensures.added
    c.if-not-new.false c.loop-port.invariant.0 c.loop-port.invariant.1

pub returns-then-not-new-clause-again : goal.returns-then-not-new-clause-again
returns-then-not-new-clause-again c = old_formal c.loop-port.formals.keys c.args.ports.now c.loop-port.port-index
    c.port-item.result c.as_slice.result c.in_ok-new.new _
    c.loop-port-test.true c.port-item.is c.as_slice.ensures c.in_ok-new.ensures.added
    c.if-not-new.true c.loop-port.invariant.1
