use Rattle.std.proofs.Common.{◌+◌, ◌∙◌, ap, arith, length, refl}
use Rattle.cell_rows.specs.Code.Laying.{view_of}
use Rattle.cell_rows.proofs.Made.{last_few, none_laid}
use Rattle.cell_rows.proofs.Used.{none_used, written}
use Rattle.cell_rows.proofs.net.laid.Goals as goal

pub overflow_add-cells : goal.overflow_add-cells
overflow_add-cells c = let few = last_few c.requires.cells in omega (arith, few)

pub lay_each-requires-clause-used : goal.lay_each-requires-clause-used
lay_each-requires-clause-used c =
    none_used c.deref_mut.result.now c.name_count.result _
    (c.name_count.ensures ∙ c.known.ensures.count)
    (c.deref_mut.ensures.value ∙ c.in_ok-used.ensures.items_if_clones_equal (λ y e. e))

pub lay_each-requires-clause-rows : goal.lay_each-requires-clause-rows
lay_each-requires-clause-rows c =
    none_laid (view_of c.args.cells.now) c.args.cells.now.levels.now.levels
    c.args.cells.now.levels.now.last (c.args.cells.now.levels.now.last + 1) c.deref_mut-2.result.now refl
    (c.deref_mut-2.ensures.value ∙ c.in_ok-rows.ensures)

pub returns : goal.returns
returns c =
    let value = ap length c.deref_mut-2.ensures.value in
    let size = c.deref_mut-2.ensures.len in
    written c.in_ok-rows.rows.len c.lay_each.new.rows c.in_ok-rows.rows.items (omega (arith, value, size))
    (c.lay_each.auto.rows ∙ value)
    ∙ c.in_ok-lay_each.ensures
