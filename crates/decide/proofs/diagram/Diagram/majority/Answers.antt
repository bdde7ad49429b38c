use Rattle.std.proofs.Common.{refl, arith}
use Rattle.std.proofs.lemmas.List.{nil_from_length}
use Rattle.decide.proofs.Counting.{falls_moved}
use Rattle.decide.proofs.Choosing.{grows_then, full_memory}
use Rattle.decide.proofs.Turning.{run_begins, run_edges, run_ends, run_joins, run_named, run_given}
use Rattle.decide.proofs.diagram.Diagram.majority.Goals as goal

pub loop-turn-init : goal.loop-turn-init
loop-turn-init c = run_begins c.args.self.now.table.nodes.keys _ c.args.operands c.requires c.new-stack.ensures.items

pub make-requires : goal.make-requires
make-requires c = run_edges _ _ _ _ _ c.loop-turn.invariant c.in-Make.triple c.in-Make.is

pub returns-in_err-turn-in-Make-clause-full : goal.returns-in_err-turn-in-Make-clause-full
returns-in_err-turn-in-Make-clause-full c = full_memory c.loop-turn.self.table.nodes.keys _ c.from_residual.ensures.1

pub returns-in_err-turn-in-Make-clause-grows : goal.returns-in_err-turn-in-Make-clause-grows
returns-in_err-turn-in-Make-clause-grows c = c.loop-turn.invariant.grows

pub returns-in_err-turn-in-Make-clause-named : goal.returns-in_err-turn-in-Make-clause-named
returns-in_err-turn-in-Make-clause-named c = c.loop-turn.invariant.named

pub returns-in-None-clause-grows : goal.returns-in-None-clause-grows
returns-in-None-clause-grows c = c.loop-turn.invariant.grows

pub returns-in-None-clause-has : goal.returns-in-None-clause-has
returns-in-None-clause-has c = run_ends _ _ _ _ _ c.loop-turn.invariant c.in-Made.edge c.in-Made.is
    (nil_from_length _ (let n = c.in-None.ensures.cases.0 in let l = c.loop-turn.stack.ok.0 in omega arith))

pub returns-in-None-clause-named : goal.returns-in-None-clause-named
returns-in-None-clause-named c = c.loop-turn.invariant.named

pub give-requires : goal.give-requires
give-requires c = run_joins _ _ _ _ _ c.loop-turn.invariant c.in-Made.edge c.in-Made.is c.pop.new.self.items
    c.in-Some.frame c.in-Some.ensures.items

pub returns-in_err-turn-in-Some-clause-grows : goal.returns-in_err-turn-in-Some-clause-grows
returns-in_err-turn-in-Some-clause-grows c = grows_then _ _ _ c.loop-turn.invariant.grows c.give.ensures.grows

pub returns-in_err-turn-in-Some-clause-named : goal.returns-in_err-turn-in-Some-clause-named
returns-in_err-turn-in-Some-clause-named c =
    run_named _ _ _ _ _ c.loop-turn.invariant c.in-Made.edge c.in-Made.is c.pop.new.self.items
    c.in-Some.frame c.in-Some.ensures.items
    c.give.new.self.table.nodes.keys c.args.self.now.table.sound c.loop-turn.self.table.sound c.give.ensures.named

pub loop-turn-preserved : goal.loop-turn-preserved
loop-turn-preserved c =
    run_given _ _ _ _ _ c.loop-turn.invariant c.in-Made.edge c.in-Made.is c.pop.new.self.items
    c.in-Some.frame c.in-Some.ensures.items
    c.give.new.self.table.nodes.keys c.give.new.stack.items c.in_ok-turn-in-Some.turn c.args.self.now.table.sound
    c.loop-turn.self.table.sound
    c.in_ok-turn-in-Some.ensures.grows c.in_ok-turn-in-Some.ensures.waits c.in_ok-turn-in-Some.ensures.named

pub loop-turn-smaller : goal.loop-turn-smaller
loop-turn-smaller c =
    falls_moved c.give.new.self.table.nodes.keys c.give.new.stack.items c.give.new.stack.items c.in_ok-turn-in-Some.turn
    c.in_ok-turn-in-Some.turn c.loop-turn.self.table.nodes.keys c.give.new.self.table.nodes.keys
    _ c.loop-turn.stack.items _ c.loop-turn.turn refl refl refl c.in-Some.ensures.items c.in-Made.is
    c.in_ok-turn-in-Some.ensures.falls
