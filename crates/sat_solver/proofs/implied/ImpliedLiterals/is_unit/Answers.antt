use Rattle.std.proofs.Common.{refl, sym, take, arith}
use Rattle.std.proofs.lemmas.List.{take_all}
use Rattle.std.proofs.lemmas.List.Elements.{All-more, All-same}
use Rattle.sat_solver.specs.Code.Following.{IsImplied}
use Rattle.sat_solver.proofs.implied.ImpliedLiterals.is_unit.Goals as goal

pub loop-further-preserved : goal.loop-further-preserved
loop-further-preserved c =
    All-more (IsImplied c.args.self.now.literals.items c.args.literal) c.args.clause.now c.loop-further.further-index 0
    c.loop-further-test.true c.loop-further.invariant (c.if-not-implies.ensures refl)

pub returns : goal.returns
returns c is =
    let k = c.loop-further.further-index in
    All-same (IsImplied c.args.self.now.literals.items c.args.literal) c.args.clause.now (take k c.args.clause.now)
    (sym (take_all k c.args.clause.now (omega arith))) c.loop-further.invariant
