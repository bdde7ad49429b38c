use Rattle.std.proofs.Common.{◌≡◌, ◌*◌, ℕ, [], Some, None, length, sym, ap, subst, ◌∙◌, rules, arith}
use Rattle.std.specs.Prelude.{Option, IfOk}
use Rattle.std.proofs.lemmas.Option.{slice_get_past}
use Rattle.geom.specs.declared.shapes.Shape.{Shape}
use Rattle.poly_cut.specs.declared.layout.Item.TheVariants.{Draw, Place, Text}
use Rattle.poly_cut.specs.Turns.{placed_shape}
use Rattle.poly_cut.specs.Conditions.{IsPlaced}
use Rattle.poly_cut.specs.Counts.{told}
use Rattle.poly_cut.specs.Code.Numbered.{all_shapes}
use Rattle.poly_cut.proofs.Numbering.{shapes_alone, less_deep}
use Rattle.poly_cut.proofs.Finding.{Reaches, Goes, reaches, goes, item_so, small_copied}
use Rattle.poly_cut.proofs.Finding.{point_near, shape_near, placed_there, no_shape, shape_there}
use Rattle.poly_cut.proofs.numbered.+shape_in.Goals as goal
use Rattle.poly_cut.proofs.numbered.+shape_in.Goals.{In-Draw, In-Text, After-count_at}

pub returns-in_default : goal.returns-in_default
returns-in_default t c =
    let ss = c.args.structures.now in
    sym (no_shape ss c.args.structure c.args.number c.items_of-items.result.now c.requires.short
    c.items_of-items.ensures (c.in_default.ensures (λ n. length (all_shapes ss n)) c.requires.counts))

drawing : (t : ℕ) (c : In-Draw t)
    → Reaches c.args.structures.now c.args.structure (shapes_alone c.args.structures.now) c.args.number c.in-Some.spot
    (Draw c.in-Draw.layer c.in-Draw.datatype c.in-Draw.figure)
drawing t c =
    let ss = c.args.structures.now in
    reaches ss c.args.structure (shapes_alone ss) c.args.number c.in-Some.spot c.items_of-items.result.now
    c.index-items-spot.result _ c.items_of-items.ensures
    (c.in-Some.ensures (λ n. length (all_shapes ss n)) c.requires.counts) c.index-items-spot.is c.in-Draw.is

placing : (t : ℕ) (c : After-count_at t)
    → Reaches c.args.structures.now c.args.structure (shapes_alone c.args.structures.now) c.args.number c.in-Some.spot
    (Place c.in-Place.structure c.in-Place.at c.in-Place.turn c.in-Place.grid)
placing t c =
    let ss = c.args.structures.now in
    reaches ss c.args.structure (shapes_alone ss) c.args.number c.in-Some.spot c.items_of-items.result.now
    c.index-items-spot.result _ c.items_of-items.ensures
    (c.in-Some.ensures (λ n. length (all_shapes ss n)) c.requires.counts) c.index-items-spot.is c.in-Place.is

showing : (t : ℕ) (c : In-Text t)
    → Reaches c.args.structures.now c.args.structure (shapes_alone c.args.structures.now) c.args.number c.in-Some.spot
    (Text c.in-Text.field-0)
showing t c =
    let ss = c.args.structures.now in
    reaches ss c.args.structure (shapes_alone ss) c.args.number c.in-Some.spot c.items_of-items.result.now
    c.index-items-spot.result _ c.items_of-items.ensures
    (c.in-Some.ensures (λ n. length (all_shapes ss n)) c.requires.counts) c.index-items-spot.is c.in-Text.is

-- the placement is as all are
placed : (t : ℕ) (c : After-count_at t)
    → IsPlaced (length c.args.structures.now) c.in-Place.structure c.in-Place.at c.in-Place.turn c.in-Place.grid
placed t c =
    item_so (length c.args.structures.now) c.args.structures.now c.args.structure c.in-Some.spot.item _ c.requires.items
    (placing t c).there

-- the counts
counted : (t : ℕ) (c : After-count_at t)
    → c.count_at.result ≡ told (length (all_shapes c.args.structures.now c.in-Place.structure))
counted t c = c.count_at.ensures ∙ c.requires.counts c.in-Place.structure

going : (t : ℕ) (c : After-count_at t)
    → Goes (c.in-Place.grid.rows * c.in-Place.grid.columns)
    (length (all_shapes c.args.structures.now c.in-Place.structure)) c.count_at.result c.in-Some.spot.number
going t c =
    let r = placing t c in
    goes (shapes_alone c.args.structures.now) _ _ _ c.count_at.result c.args.number c.in-Some.spot r.inside
    (counted t c) (r.inside.within _ r.there) c.requires.number

pub rect_at-requires : goal.rect_at-requires
rect_at-requires t c =
    item_so (length c.args.structures.now) c.args.structures.now c.args.structure c.in-Some.spot.item _ c.requires.items
    (drawing t (goal.at.rect_at-requires t c).In-Draw).there

pub copy_at-copied-requires-clause-grid : goal.copy_at-copied-requires-clause-grid
copy_at-copied-requires-clause-grid t c =
    (placed t (goal.at.copy_at-copied-requires-clause-grid t c).After-count_at).lattice

pub copy_at-copied-requires-clause-some : goal.copy_at-copied-requires-clause-some
copy_at-copied-requires-clause-some t c =
    (going t (goal.at.copy_at-copied-requires-clause-some t c).After-count_at).some

pub copy_at-copied-requires-clause-within : goal.copy_at-copied-requires-clause-within
copy_at-copied-requires-clause-within t c =
    (going t (goal.at.copy_at-copied-requires-clause-within t c).After-count_at).within

pub shape_in-requires : goal.shape_in-requires
shape_in-requires t c =
    let after = (goal.at.shape_in-requires t c).After-count_at in
    let deep = less_deep c.args.depth c.args.structures.now c.args.structure c.in-Some.spot.item _ _ _ _
    c.requires.deep (placing t (goal.at.shape_in-requires t c).After-count_at).there in
    let some = deep.0 in (
      search rules,
      (
        c.requires.items,
        (
          c.requires.short,
          (
            c.requires.counts,
            (deep.1, small_copied _ _ _ _ _ c.copy_at-copied.ensures (going t after).some (counted t after)),
          ),
        ),
      ),
    )

pub placed_shape-requires-clause-shape : goal.placed_shape-requires-clause-shape
placed_shape-requires-clause-shape t c =
    shape_near (length c.args.structures.now) c.args.structures.now c.in-Place.structure c.copy_at-copied.result.number
    c.in-Some-2.shape c.requires.items (sym c.in-Some-2.is ∙ c.in_ok-shape-in-Place.ensures)

pub placed_shape-requires-clause-turn : goal.placed_shape-requires-clause-turn
placed_shape-requires-clause-turn t c =
    (placed t (goal.at.placed_shape-requires-clause-turn t c).After-count_at).quarter

pub placed_shape-requires-clause-by : goal.placed_shape-requires-clause-by
placed_shape-requires-clause-by t c =
    point_near _ _ _ _ c.copy_at-copied.result
    (placed t (goal.at.placed_shape-requires-clause-by t c).After-count_at).lattice c.copy_at-copied.ensures

pub returns-in-Draw : goal.returns-in-Draw
returns-in-Draw t c =
    let there = shape_there c.args.structures.now c.args.structure c.args.number c.in-Some.spot _ c.requires.short
    (drawing t (goal.at.returns-in-Draw t c).In-Draw) in
    subst (λ (s : Option Shape). IfOk c.rect_at.result (λ found. found ≡ s)) (sym there) c.rect_at.ensures

pub returns-in-Some-2 : goal.returns-in-Some-2
returns-in-Some-2 t c =
    let after = (goal.at.returns-in-Some-2 t c).After-count_at in
    ap Some c.placed_shape.ensures
    ∙ sym (placed_there (placed_shape c.in-Place.turn) _ c.in-Place.at c.in-Place.grid c.count_at.result _
    c.copy_at-copied.result (Some c.in-Some-2.shape) (counted t after) (going t after).here (going t after).small
    c.copy_at-copied.ensures (sym c.in-Some-2.is ∙ c.in_ok-shape-in-Place.ensures))
    ∙ sym (shape_there c.args.structures.now c.args.structure c.args.number c.in-Some.spot _ c.requires.short
    (placing t (goal.at.returns-in-Some-2 t c).After-count_at))

pub returns-in-None : goal.returns-in-None
returns-in-None t c =
    let after = (goal.at.returns-in-None t c).After-count_at in
    sym (placed_there (placed_shape c.in-Place.turn) _ c.in-Place.at c.in-Place.grid c.count_at.result _
    c.copy_at-copied.result None (counted t after) (going t after).here (going t after).small
    c.copy_at-copied.ensures (sym c.in-None.is ∙ c.in_ok-shape-in-Place.ensures))
    ∙ sym (shape_there c.args.structures.now c.args.structure c.args.number c.in-Some.spot _ c.requires.short
    (placing t (goal.at.returns-in-None t c).After-count_at))

pub returns-in-Text : goal.returns-in-Text
returns-in-Text t c =
    sym (slice_get_past {X = Shape} [] c.in-Some.spot.number (omega arith))
    ∙ sym (shape_there c.args.structures.now c.args.structure c.args.number c.in-Some.spot _ c.requires.short
    (showing t (goal.at.returns-in-Text t c).In-Text))

pub overflow_sub-depth : goal.overflow_sub-depth
overflow_sub-depth t c =
    let deep = less_deep c.args.depth c.args.structures.now c.args.structure c.in-Some.spot.item _ _ _ _
    c.requires.deep (placing t (goal.at.overflow_sub-depth t c).After-count_at).there in
    let some = deep.0 in omega arith
