use Rattle.std.proofs.Common.{arith}
use Rattle.layout_rules.proofs.ReportLaws.{IsFirstReport-at}
use Rattle.layout_rules.specs.Reports.{ReportsNoneAt, IsFirstAt}
use Rattle.shape_extract.proofs.Searching.{none_more, none_all}
use Rattle.shape_extract.proofs.search.first_of.Goals as goal

pub loop-a-preserved : goal.loop-a-preserved
loop-a-preserved g c =
    let here : ReportsNoneAt (g.P.Part.reported c.args.part.now) c.loop-a.a =
    rw c.in_default.is at c.in_ok-b.ensures in
    none_more _ _ c.loop-a.invariant here

pub returns-in-Some : goal.returns-in-Some
returns-in-Some g c =
    let here : IsFirstAt (g.P.Part.reported c.args.part.now) c.loop-a.a c.in-Some.b =
    rw c.in-Some.is at c.in_ok-b.ensures in
    IsFirstReport-at _ _ _ here c.loop-a.invariant

pub returns : goal.returns
returns g c = none_all (g.P.Part.reported c.args.part.now) (g.P.Part.count c.args.part.now) c.loop-a.a
    c.loop-a.invariant (omega (arith, c.count-a-end.ensures.count, c.loop-a-test.false))
    c.count-a-end.ensures.within
