use Rattle.std.proofs.Common.{◌<◌, arith}
use Rattle.decide.specs.Code.Diagrams.{inputs_of}
use Rattle.decide.proofs.Stacking.{waits_known, waits_low}
use Rattle.decide.proofs.Counting.{falls_known, falls_low}
use Rattle.decide.proofs.diagram.Diagram.make.Goals as goal

pub returns-in-Some-clause-waits : goal.returns-in-Some-clause-waits
returns-in-Some-clause-waits c last waits = waits_known c.args.self.now.table.nodes.keys c.args.self.now.table.sound _ _
    _ last c.in-Some.ensures.is waits

pub returns-in-Some-remembered-clause-waits : goal.returns-in-Some-remembered-clause-waits
returns-in-Some-remembered-clause-waits c last waits =
    waits_known c.args.self.now.table.nodes.keys c.args.self.now.table.sound _ _ _ last
    c.in-Some-remembered.ensures waits

pub returns-clause-waits : goal.returns-clause-waits
returns-clause-waits c last waits =
    let nodes = c.args.self.now.table.nodes.keys in
    let reads = c.in_default.ensures.open in
    let level = c.least_level-level.ensures in
    let some : c.least_level-level.result < inputs_of nodes = omega arith in
    waits_low nodes c.args.self.now.table.sound _ _ c.args.operands c.cofactors.result _ last level some
    c.in_ok-push.ensures.items c.cofactors.ensures waits

pub returns-in-Some-clause-falls : goal.returns-in-Some-clause-falls
returns-in-Some-clause-falls c = falls_known c.args.self.now.table.nodes.keys _ c.args.operands c.in-Some.edge

pub returns-in-Some-remembered-clause-falls : goal.returns-in-Some-remembered-clause-falls
returns-in-Some-remembered-clause-falls c =
    falls_known c.args.self.now.table.nodes.keys _ c.args.operands c.in-Some-remembered.edge

pub returns-clause-falls : goal.returns-clause-falls
returns-clause-falls c =
    let nodes = c.args.self.now.table.nodes.keys in
    let reads = c.in_default.ensures.open in
    let level = c.least_level-level.ensures in
    let some : c.least_level-level.result < inputs_of nodes = omega arith in
    falls_low nodes c.args.self.now.table.sound c.args.stack.now.items c.push.new.self.items c.args.operands
    c.cofactors.result c.least_level-level.result c.requires level some
    c.in_ok-push.ensures.items c.cofactors.ensures
