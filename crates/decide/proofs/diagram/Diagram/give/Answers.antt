use Rattle.decide.proofs.Stacking.{waits_high, waits_joined}
use Rattle.decide.proofs.Counting.{falls_high, falls_joined}
use Rattle.decide.proofs.diagram.Diagram.give.Goals as goal

pub returns-in_ok-push-in-None-clause-waits : goal.returns-in_ok-push-in-None-clause-waits
returns-in_ok-push-in-None-clause-waits c last awaits =
    waits_high c.args.self.now.table.nodes.keys c.args.self.now.table.sound _ _ c.args.frame c.cofactors.result
    c.args.edge last c.in-None.is c.in_ok-push-in-None.ensures.items c.cofactors.ensures c.requires awaits

pub returns-in_ok-joined-in-Some-clause-waits : goal.returns-in_ok-joined-in-Some-clause-waits
returns-in_ok-joined-in-Some-clause-waits c last awaits =
    waits_joined c.args.self.now.table.nodes.keys c.join.new.self.table.nodes.keys c.args.self.now.table.sound
    c.join.new.self.table.sound c.in_ok-joined-in-Some.ensures.grows
    _ c.args.frame c.in_ok-joined-in-Some.joined last c.in_ok-joined-in-Some.ensures.has awaits

pub returns-in_ok-push-in-None-clause-falls : goal.returns-in_ok-push-in-None-clause-falls
returns-in_ok-push-in-None-clause-falls c =
    falls_high c.args.self.now.table.nodes.keys c.args.self.now.table.sound c.args.stack.now.items c.push.new.self.items
    c.args.frame c.cofactors.result c.args.edge c.in-None.is c.in_ok-push-in-None.ensures.items
    c.cofactors.ensures c.requires

pub returns-in_ok-joined-in-Some-clause-falls : goal.returns-in_ok-joined-in-Some-clause-falls
returns-in_ok-joined-in-Some-clause-falls c =
    falls_joined c.args.self.now.table.nodes.keys c.join.new.self.table.nodes.keys c.args.self.now.table.sound
    c.join.new.self.table.sound c.in_ok-joined-in-Some.ensures.grows
    c.args.stack.now.items c.args.frame c.in-Some.low c.args.edge c.in_ok-joined-in-Some.joined c.in-Some.is
