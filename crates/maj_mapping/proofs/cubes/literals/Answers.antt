use Rattle.std.proofs.Common.{sym}
use Rattle.std.proofs.lemmas.Bool.{ltb-false}
use Rattle.maj_mapping.proofs.Cubing.{one_literal, past_inputs, literal_room}
use Rattle.maj_mapping.proofs.cubes.literals.Goals as goal

pub returns-in_default-clause-gates : goal.returns-in_default-clause-gates
returns-in_default-clause-gates c =
    (past_inputs _ _ _ _ _ _ c.loop-i.invariant (ltb-false _ _ (sym c.in_default.ensures.lookup.0))).0

pub returns-in_default-clause-all : goal.returns-in_default-clause-all
returns-in_default-clause-all c =
    (past_inputs _ _ _ _ _ _ c.loop-i.invariant (ltb-false _ _ (sym c.in_default.ensures.lookup.0))).1

pub loop-i-preserved : goal.loop-i-preserved
loop-i-preserved c =
    let found = c.in-Some.ensures.lookup in
    one_literal _ _ _ _ _ _ _ _ _ c.loop-i-test.true found.3.0 found.1 c.loop-i.invariant
    c.in_ok-push_literal.ensures.gates c.in_ok-push_literal.ensures.more

pub push_literal-requires-clause-room : goal.push_literal-requires-clause-room
push_literal-requires-clause-room c =
    let found = c.in-Some.ensures.lookup in
    literal_room _ _ _ _ _ _ _ _ c.loop-i-test.true found.3.0 found.1 c.loop-i.invariant c.requires.room
