use Rattle.shape_extract.specs.Searches.{AreThose}
use Rattle.shape_extract.specs.Distinct.{kinds_at}
use Rattle.shape_extract.specs.Passing.{PassesIn}
use Rattle.shape_extract.proofs.Members.{passing_within, passing_all, together_from}
use Rattle.geom.proofs.Filing.{read_at}
use Rattle.shape_extract.proofs.pairs.list_filed_partners.Goals as goal

pub among-requires : goal.among-requires
among-requires g c = c.requires.filed.distinct.within

pub list_passing-requires-clause-planes : goal.list_passing-requires-clause-planes
list_passing-requires-clause-planes g c = rw c.among.ensures c.requires.filed.planes

pub list_of_kinds-requires-clause-kinds : goal.list_of_kinds-requires-clause-kinds
list_of_kinds-requires-clause-kinds g c =
    let kept : AreThose (PassesIn (g.T.PairTest.passes c.args.test.now c.index-shapes-a.result)
    (kinds_at c.args.shapes.now c.args.filed.now.kinds.numbers.items)) c.list_passing.new.found.items =
    rw c.among.ensures at c.in_ok-list_passing.ensures in
    passing_within (g.T.PairTest.passes c.args.test.now c.index-shapes-a.result) (kinds_at c.args.shapes.now
    c.args.filed.now.kinds.numbers.items)
    c.list_passing.new.found.items _ c.requires.filed.distinct.those.long kept

pub list_of_kinds-requires-clause-rising : goal.list_of_kinds-requires-clause-rising
list_of_kinds-requires-clause-rising g c = c.in_ok-list_passing.ensures.rising

pub returns : goal.returns
returns g c =
    let kept : AreThose (PassesIn (g.T.PairTest.passes c.args.test.now c.index-shapes-a.result)
    (kinds_at c.args.shapes.now c.args.filed.now.kinds.numbers.items)) c.list_passing.new.found.items =
    rw c.among.ensures at c.in_ok-list_passing.ensures in
    together_from (g.T.PairTest.passes c.args.test.now) c.args.shapes.now c.args.a c.index-shapes-a.result
    c.list_of_kinds.new.found.items (read_at _ _ _ c.requires.within c.index-shapes-a.is)
    (passing_all (g.T.PairTest.passes c.args.test.now c.index-shapes-a.result) c.args.shapes.now
    c.args.filed.now.kinds.numbers.items c.args.filed.now.kinds.places.items (kinds_at c.args.shapes.now
    c.args.filed.now.kinds.numbers.items)
    c.requires.filed.distinct.those c.requires.filed.places c.list_passing.new.found.items
    c.list_of_kinds.new.found.items kept c.in_ok-list_of_kinds.ensures)
