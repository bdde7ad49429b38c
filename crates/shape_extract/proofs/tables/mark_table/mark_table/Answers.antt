use Rattle.std.proofs.Common.{ap, arith, length}
use Rattle.layout_rules.specs.Labels.{marks}
use Rattle.shape_extract.specs.Passing.{PassesIn}
use Rattle.shape_extract.specs.Searches.{AreThose}
use Rattle.shape_extract.specs.Code.Marking.{IsNoted}
use Rattle.shape_extract.proofs.MarkTable.{marks_blank, marked_within, marks_more, put_back, marks_all}
use Rattle.shape_extract.proofs.Each.{item_there}
use Rattle.shape_extract.proofs.tables.mark_table.mark_table.Goals as goal

pub loop-place-init : goal.loop-place-init
loop-place-init c = marks_blank _ _ _ (length c.as_slice-shapes.result.now)
    (c.in_ok-marking.ensures.items_if_clones_equal (λ y e. e)) (ap length c.as_slice-shapes.ensures)

pub note-requires-clause-within : goal.note-requires-clause-within
note-requires-clause-within c =
    let are : AreThose (PassesIn (marks c.label-item.result) c.args.flat.now.shapes) c.list_marked.new.found.items =
    rw c.as_slice-shapes.ensures at c.in_ok-list_marked.ensures in
    rw (c.as_slice.ensures.value, c.deref_mut.ensures.value)
    (marked_within _ _ c.label-item.result _ _ _ are c.loop-place.invariant)

pub note-requires-clause-rising : goal.note-requires-clause-rising
note-requires-clause-rising c =
    let are : AreThose (PassesIn (marks c.label-item.result) c.args.flat.now.shapes) c.list_marked.new.found.items =
    rw c.as_slice-shapes.ensures at c.in_ok-list_marked.ensures in
    rw c.as_slice.ensures.value are.rising

pub loop-place-preserved : goal.loop-place-preserved
loop-place-preserved c =
    let are : AreThose (PassesIn (marks c.label-item.result) c.args.flat.now.shapes) c.list_marked.new.found.items =
    rw c.as_slice-shapes.ensures at c.in_ok-list_marked.ensures in
    let noted : IsNoted c.loop-place.place c.list_marked.new.found.items c.loop-place.marking.items c.note.new.marking =
    rw (c.as_slice.ensures.value, c.deref_mut.ensures.value) at c.note.ensures in
    let label = item_there c.as_slice-label-items.ensures c.loop-place-test.true c.label-item.is in
    rw (put_back c.loop-place.marking.len c.loop-place.marking.items c.note.new.marking noted.long
    (omega (arith, c.deref_mut.ensures.len, ap length c.deref_mut.ensures.value)))
    (marks_more _ _ _ c.label-item.result _ _ _ label are noted c.loop-place.invariant)

pub returns : goal.returns
returns c = marks_all _ _ _ _ (rw c.as_slice-label-items.ensures at c.loop-place-test.false) c.loop-place.invariant
