use Rattle.std.proofs.Common.{◌≡◌, rules, w64, to_z, of_z}
use Rattle.std.proofs.lemmas.Int.{to_z-of_z}
use Rattle.layout_rules.specs.Labels.{marks}
use Rattle.shape_extract.specs.Distinct.{kinds_at}
use Rattle.shape_extract.proofs.InPlanes.{all_within, marked_in_plane}
use Rattle.shape_extract.proofs.Members.{passing_within, passing_all}
use Rattle.shape_extract.proofs.tables.marking.list_marked.Goals as goal

pub among-requires : goal.among-requires
among-requires c = c.requires.filed.distinct.within

pub keep_marked-requires : goal.keep_marked-requires
keep_marked-requires c = rw c.among.ensures (all_within _ (kinds_at c.args.shapes.now
    c.args.filed.now.kinds.numbers.items) c.rect_at-here.result 0
    c.list_near.new.found.items (c.in_ok-list_near.ensures (kinds_at c.args.shapes.now
    c.args.filed.now.kinds.numbers.items) c.requires.filed.planes))

pub list_of_kinds-requires-clause-kinds : goal.list_of_kinds-requires-clause-kinds
list_of_kinds-requires-clause-kinds c =
    let x : to_z w64 (of_z w64 c.args.label.now.x) ≡ c.args.label.now.x = search (rules, to_z-of_z) in
    let y : to_z w64 (of_z w64 c.args.label.now.y) ≡ c.args.label.now.y = search (rules, to_z-of_z) in
    let kept = marked_in_plane (kinds_at c.args.shapes.now c.args.filed.now.kinds.numbers.items) c.args.label.now
    c.rect_at-here.result c.list_near.new.found.items c.keep_marked.new.places.items
    (rw (x, y) at c.rect_at-here.ensures)
    (c.in_ok-list_near.ensures (kinds_at c.args.shapes.now c.args.filed.now.kinds.numbers.items)
    c.requires.filed.planes)
    (rw c.among.ensures at c.keep_marked.ensures) in
    passing_within (marks c.args.label.now) (kinds_at c.args.shapes.now c.args.filed.now.kinds.numbers.items)
    c.keep_marked.new.places.items _
    c.requires.filed.distinct.those.long kept

pub list_of_kinds-requires-clause-rising : goal.list_of_kinds-requires-clause-rising
list_of_kinds-requires-clause-rising c =
    let x : to_z w64 (of_z w64 c.args.label.now.x) ≡ c.args.label.now.x = search (rules, to_z-of_z) in
    let y : to_z w64 (of_z w64 c.args.label.now.y) ≡ c.args.label.now.y = search (rules, to_z-of_z) in
    let kept = marked_in_plane (kinds_at c.args.shapes.now c.args.filed.now.kinds.numbers.items) c.args.label.now
    c.rect_at-here.result c.list_near.new.found.items c.keep_marked.new.places.items
    (rw (x, y) at c.rect_at-here.ensures)
    (c.in_ok-list_near.ensures (kinds_at c.args.shapes.now c.args.filed.now.kinds.numbers.items)
    c.requires.filed.planes)
    (rw c.among.ensures at c.keep_marked.ensures) in
    kept.rising

pub returns : goal.returns
returns c =
    let x : to_z w64 (of_z w64 c.args.label.now.x) ≡ c.args.label.now.x = search (rules, to_z-of_z) in
    let y : to_z w64 (of_z w64 c.args.label.now.y) ≡ c.args.label.now.y = search (rules, to_z-of_z) in
    let kept = marked_in_plane (kinds_at c.args.shapes.now c.args.filed.now.kinds.numbers.items) c.args.label.now
    c.rect_at-here.result c.list_near.new.found.items c.keep_marked.new.places.items
    (rw (x, y) at c.rect_at-here.ensures)
    (c.in_ok-list_near.ensures (kinds_at c.args.shapes.now c.args.filed.now.kinds.numbers.items)
    c.requires.filed.planes)
    (rw c.among.ensures at c.keep_marked.ensures) in
    passing_all (marks c.args.label.now) c.args.shapes.now c.args.filed.now.kinds.numbers.items
    c.args.filed.now.kinds.places.items (kinds_at c.args.shapes.now c.args.filed.now.kinds.numbers.items)
    c.requires.filed.distinct.those
    c.requires.filed.places c.keep_marked.new.places.items c.list_of_kinds.new.found.items kept
    c.in_ok-list_of_kinds.ensures
