use Rattle.std.proofs.Common.{refl}
use Rattle.std.proofs.lemmas.Bool.{eqb-true, eqb-false}
use Rattle.union_find.proofs.Joined.{ends_of, joined_there, refused_there, told_may, told_joined, refused}
use Rattle.union_find.proofs.heights.Heights.join.Goals as goal

pub returns-then-high-low-clause-joined : goal.returns-then-high-low-clause-joined
returns-then-high-low-clause-joined c test =
    joined_there (ends_of c.requires.rise c.find-high.ensures c.find-low.ensures c.find-base.ensures)
    c.if-high-low.true (eqb-true _ _ test)

pub returns-then-high-low-clause-refused : goal.returns-then-high-low-clause-refused
returns-then-high-low-clause-refused c test =
    refused_there (ends_of c.requires.rise c.find-high.ensures c.find-low.ensures c.find-base.ensures)
    c.if-high-low.true (eqb-false _ _ test)

pub hang_smaller-requires : goal.hang_smaller-requires
hang_smaller-requires c =
    told_may (ends_of c.requires.rise c.find-high.ensures c.find-low.ensures c.find-base.ensures)
    c.if-high-low.false c.in-Some.ensures.some

pub returns-in-Some-clause-joined : goal.returns-in-Some-clause-joined
returns-in-Some-clause-joined c is =
    told_joined (ends_of c.requires.rise c.find-high.ensures c.find-low.ensures c.find-base.ensures)
    c.in-Some.ensures.some c.hang_smaller.ensures

pub returns-in-None-clause-refused : goal.returns-in-None-clause-refused
returns-in-None-clause-refused c is =
    refused (ends_of c.requires.rise c.find-high.ensures c.find-low.ensures c.find-base.ensures)
    (c.in-None.ensures.none refl)
