use Rattle.std.proofs.Common.{◌∙◌, sym, arith}
use Rattle.cell_rows.specs.Code.Laying.{view_of}
use Rattle.cell_rows.proofs.Made.{row_count}
use Rattle.cell_rows.proofs.Laid.{counts_name}
use Rattle.cell_rows.proofs.places.counted.Goals as goal

pub returns-then-name-clause-counts : goal.returns-then-name-clause-counts
returns-then-name-clause-counts c =
    counts_name (view_of c.args.cells.now) c.args.cells.now.levels.now.levels c.args.cells.now.levels.now.last c.args.j
    c.args.counts.now (sym c.is_name_at-name.ensures ∙ c.if-name.true) c.requires.counts

pub offset_bounds-counts-row : goal.offset_bounds-counts-row
offset_bounds-counts-row c =
    let low = (row_count c.requires.cells c.args.j c.row_at-row.result c.args.counts.now c.requires.j
    (sym c.is_name_at-name.ensures ∙ c.if-name.false) c.row_at-row.ensures c.requires.counts).low in
    omega (arith, low)

pub bounds-counts-row : goal.bounds-counts-row
bounds-counts-row c =
    (row_count c.requires.cells c.args.j c.row_at-row.result c.args.counts.now c.requires.j
    (sym c.is_name_at-name.ensures ∙ c.if-name.false) c.row_at-row.ensures c.requires.counts).room

pub overflow_add-counts : goal.overflow_add-counts
overflow_add-counts c =
    let few = (row_count c.requires.cells c.args.j c.row_at-row.result c.args.counts.now c.requires.j
    (sym c.is_name_at-name.ensures ∙ c.if-name.false) c.row_at-row.ensures c.requires.counts).few in
    omega (arith, few)

pub offset_bounds-counts-row-2 : goal.offset_bounds-counts-row-2
offset_bounds-counts-row-2 c =
    let low = (row_count c.requires.cells c.args.j c.row_at-row.result c.args.counts.now c.requires.j
    (sym c.is_name_at-name.ensures ∙ c.if-name.false) c.row_at-row.ensures c.requires.counts).low in
    omega (arith, low)

pub bounds-counts-row-2 : goal.bounds-counts-row-2
bounds-counts-row-2 c =
    (row_count c.requires.cells c.args.j c.row_at-row.result c.args.counts.now c.requires.j
    (sym c.is_name_at-name.ensures ∙ c.if-name.false) c.row_at-row.ensures c.requires.counts).room

pub returns-clause-counts : goal.returns-clause-counts
returns-clause-counts c =
    (row_count c.requires.cells c.args.j c.row_at-row.result c.args.counts.now c.requires.j
    (sym c.is_name_at-name.ensures ∙ c.if-name.false) c.row_at-row.ensures c.requires.counts).counts_are

pub returns-clause-place : goal.returns-clause-place
returns-clause-place c e =
    (row_count c.requires.cells c.args.j c.row_at-row.result c.args.counts.now c.requires.j e c.row_at-row.ensures
    c.requires.counts).place_is
