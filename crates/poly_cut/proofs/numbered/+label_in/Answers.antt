use Rattle.std.proofs.Common.{◌≡◌, ◌*◌, ℕ, [], ◌∷◌, Some, None, length, sym, ap, ◌∙◌, rules, arith}
use Rattle.std.specs.Prelude.{slice_get}
use Rattle.std.proofs.lemmas.Option.{slice_get_past}
use Rattle.geom.specs.declared.shapes.Label.{Label}
use Rattle.poly_cut.specs.declared.layout.Item.TheVariants.{Draw, Place, Text}
use Rattle.poly_cut.specs.Turns.{placed_label}
use Rattle.poly_cut.specs.Conditions.{IsPlaced}
use Rattle.poly_cut.specs.Counts.{told}
use Rattle.poly_cut.specs.Code.Numbered.{all_labels}
use Rattle.poly_cut.proofs.Numbering.{labels_alone, less_deep}
use Rattle.poly_cut.proofs.Finding.{Reaches, Goes, reaches, goes, item_so, small_copied}
use Rattle.poly_cut.proofs.Finding.{point_near, label_near, placed_there, no_label, label_there}
use Rattle.poly_cut.proofs.numbered.+label_in.Goals as goal
use Rattle.poly_cut.proofs.numbered.+label_in.Goals.{In-Draw, In-Text, After-count_at}

pub returns-in_default : goal.returns-in_default
returns-in_default t c =
    let ss = c.args.structures.now in
    sym (no_label ss c.args.structure c.args.number c.items_of-items.result.now c.requires.short
    c.items_of-items.ensures (c.in_default.ensures (λ n. length (all_labels ss n)) c.requires.counts))

drawing : (t : ℕ) (c : In-Draw t)
    → Reaches c.args.structures.now c.args.structure (labels_alone c.args.structures.now) c.args.number c.in-Some.spot
    (Draw c.in-Draw.layer c.in-Draw.datatype c.in-Draw.figure)
drawing t c =
    let ss = c.args.structures.now in
    reaches ss c.args.structure (labels_alone ss) c.args.number c.in-Some.spot c.items_of-items.result.now
    c.index-items-spot.result _ c.items_of-items.ensures
    (c.in-Some.ensures (λ n. length (all_labels ss n)) c.requires.counts) c.index-items-spot.is c.in-Draw.is

placing : (t : ℕ) (c : After-count_at t)
    → Reaches c.args.structures.now c.args.structure (labels_alone c.args.structures.now) c.args.number c.in-Some.spot
    (Place c.in-Place.structure c.in-Place.at c.in-Place.turn c.in-Place.grid)
placing t c =
    let ss = c.args.structures.now in
    reaches ss c.args.structure (labels_alone ss) c.args.number c.in-Some.spot c.items_of-items.result.now
    c.index-items-spot.result _ c.items_of-items.ensures
    (c.in-Some.ensures (λ n. length (all_labels ss n)) c.requires.counts) c.index-items-spot.is c.in-Place.is

showing : (t : ℕ) (c : In-Text t)
    → Reaches c.args.structures.now c.args.structure (labels_alone c.args.structures.now) c.args.number c.in-Some.spot
    (Text c.in-Text.label)
showing t c =
    let ss = c.args.structures.now in
    reaches ss c.args.structure (labels_alone ss) c.args.number c.in-Some.spot c.items_of-items.result.now
    c.index-items-spot.result _ c.items_of-items.ensures
    (c.in-Some.ensures (λ n. length (all_labels ss n)) c.requires.counts) c.index-items-spot.is c.in-Text.is

-- the placement is as all are
placed : (t : ℕ) (c : After-count_at t)
    → IsPlaced (length c.args.structures.now) c.in-Place.structure c.in-Place.at c.in-Place.turn c.in-Place.grid
placed t c =
    item_so (length c.args.structures.now) c.args.structures.now c.args.structure c.in-Some.spot.item _ c.requires.items
    (placing t c).there

-- the counts
counted : (t : ℕ) (c : After-count_at t)
    → c.count_at.result ≡ told (length (all_labels c.args.structures.now c.in-Place.structure))
counted t c = c.count_at.ensures ∙ c.requires.counts c.in-Place.structure

going : (t : ℕ) (c : After-count_at t)
    → Goes (c.in-Place.grid.rows * c.in-Place.grid.columns)
    (length (all_labels c.args.structures.now c.in-Place.structure)) c.count_at.result c.in-Some.spot.number
going t c =
    let r = placing t c in
    goes (labels_alone c.args.structures.now) _ _ _ c.count_at.result c.args.number c.in-Some.spot r.inside
    (counted t c) (r.inside.within _ r.there) c.requires.number

pub copy_at-copied-requires-clause-grid : goal.copy_at-copied-requires-clause-grid
copy_at-copied-requires-clause-grid t c =
    (placed t (goal.at.copy_at-copied-requires-clause-grid t c).After-count_at).lattice

pub copy_at-copied-requires-clause-some : goal.copy_at-copied-requires-clause-some
copy_at-copied-requires-clause-some t c =
    (going t (goal.at.copy_at-copied-requires-clause-some t c).After-count_at).some

pub copy_at-copied-requires-clause-within : goal.copy_at-copied-requires-clause-within
copy_at-copied-requires-clause-within t c =
    (going t (goal.at.copy_at-copied-requires-clause-within t c).After-count_at).within

pub label_in-requires : goal.label_in-requires
label_in-requires t c =
    let after = (goal.at.label_in-requires t c).After-count_at in
    let deep = less_deep c.args.depth c.args.structures.now c.args.structure c.in-Some.spot.item _ _ _ _
    c.requires.deep (placing t (goal.at.label_in-requires t c).After-count_at).there in
    let some = deep.0 in (
      search rules,
      (
        c.requires.items,
        (
          c.requires.short,
          (
            c.requires.counts,
            (deep.1, small_copied _ _ _ _ _ c.copy_at-copied.ensures (going t after).some (counted t after)),
          ),
        ),
      ),
    )

pub placed_label-requires-clause-label : goal.placed_label-requires-clause-label
placed_label-requires-clause-label t c =
    label_near (length c.args.structures.now) c.args.structures.now c.in-Place.structure c.copy_at-copied.result.number
    c.in-Some-2.label c.requires.items (sym c.in-Some-2.is ∙ c.in_ok-label-in-Place.ensures)

pub placed_label-requires-clause-turn : goal.placed_label-requires-clause-turn
placed_label-requires-clause-turn t c =
    (placed t (goal.at.placed_label-requires-clause-turn t c).After-count_at).quarter

pub placed_label-requires-clause-by : goal.placed_label-requires-clause-by
placed_label-requires-clause-by t c =
    point_near _ _ _ _ c.copy_at-copied.result
    (placed t (goal.at.placed_label-requires-clause-by t c).After-count_at).lattice c.copy_at-copied.ensures

pub returns-in-Draw : goal.returns-in-Draw
returns-in-Draw t c =
    sym (slice_get_past {X = Label} [] c.in-Some.spot.number (omega arith))
    ∙ sym (label_there c.args.structures.now c.args.structure c.args.number c.in-Some.spot _ c.requires.short
    (drawing t (goal.at.returns-in-Draw t c).In-Draw))

pub returns-in_ok-placed_label-in-Some-2 : goal.returns-in_ok-placed_label-in-Some-2
returns-in_ok-placed_label-in-Some-2 t c =
    let after = (goal.at.returns-in_ok-placed_label-in-Some-2 t c).After-count_at in
    ap Some c.in_ok-placed_label-in-Some-2.ensures
    ∙ sym (placed_there (placed_label c.in-Place.turn) _ c.in-Place.at c.in-Place.grid c.count_at.result _
    c.copy_at-copied.result (Some c.in-Some-2.label) (counted t after) (going t after).here (going t after).small
    c.copy_at-copied.ensures (sym c.in-Some-2.is ∙ c.in_ok-label-in-Place.ensures))
    ∙ sym (label_there c.args.structures.now c.args.structure c.args.number c.in-Some.spot _ c.requires.short
    (placing t (goal.at.returns-in_ok-placed_label-in-Some-2 t c).After-count_at))

pub returns-in-None : goal.returns-in-None
returns-in-None t c =
    let after = (goal.at.returns-in-None t c).After-count_at in
    sym (placed_there (placed_label c.in-Place.turn) _ c.in-Place.at c.in-Place.grid c.count_at.result _
    c.copy_at-copied.result None (counted t after) (going t after).here (going t after).small
    c.copy_at-copied.ensures (sym c.in-None.is ∙ c.in_ok-label-in-Place.ensures))
    ∙ sym (label_there c.args.structures.now c.args.structure c.args.number c.in-Some.spot _ c.requires.short
    (placing t (goal.at.returns-in-None t c).After-count_at))

pub returns-in_ok-copied_label-in-Text : goal.returns-in_ok-copied_label-in-Text
returns-in_ok-copied_label-in-Text t c =
    let r = showing t (goal.at.returns-in_ok-copied_label-in-Text t c).In-Text in
    let first : c.in-Some.spot.number ≡ 0 = (let one = r.inside.within _ r.there in omega arith) in
    ap Some c.in_ok-copied_label-in-Text.ensures
    ∙ ap (slice_get (c.in-Text.label ∷ [])) (sym first)
    ∙ sym (label_there c.args.structures.now c.args.structure c.args.number c.in-Some.spot _ c.requires.short r)

pub overflow_sub-depth : goal.overflow_sub-depth
overflow_sub-depth t c =
    let deep = less_deep c.args.depth c.args.structures.now c.args.structure c.in-Some.spot.item _ _ _ _
    c.requires.deep (placing t (goal.at.overflow_sub-depth t c).After-count_at).there in
    let some = deep.0 in omega arith
