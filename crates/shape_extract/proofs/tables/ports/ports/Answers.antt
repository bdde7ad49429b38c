use Rattle.std.proofs.Common.{◌≡◌, [], ◌∷◌, ◌++◌}
use Rattle.shape_extract.proofs.PortPins.{ports_more}
use Rattle.shape_extract.proofs.tables.ports.ports.Goals as goal

pub loop-p-preserved : goal.loop-p-preserved
loop-p-preserved c =
    let longer : c.push.new.self.items ≡ c.loop-p.ports.items ++ (c.port_at.result ∷ []) = c.in_ok-push.ensures.items in
    rw longer (ports_more c.args.shapes.now c.loop-p.ports.items c.loop-p.p c.port_at.result c.loop-p-test.true
    c.loop-p.invariant c.port_at.ensures)
