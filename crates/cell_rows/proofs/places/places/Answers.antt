use Rattle.std.proofs.Common.{◌+◌, ◌∙◌, arith, refl}
use Rattle.cell_rows.specs.Code.Laying.{view_of}
use Rattle.cell_rows.proofs.Made.{last_few, none_counted}
use Rattle.cell_rows.proofs.places.places.Goals as goal

pub overflow_add-cells : goal.overflow_add-cells
overflow_add-cells c = let few = last_few c.requires.cells in omega (arith, few)

pub count_each-requires-clause-counts : goal.count_each-requires-clause-counts
count_each-requires-clause-counts c =
    none_counted (view_of c.args.cells.now) c.args.cells.now.levels.now.levels c.args.cells.now.levels.now.last
    (c.args.cells.now.levels.now.last + 1) c.deref_mut.result.now refl
    (c.deref_mut.ensures.value ∙ c.in_ok-counts.ensures.items_if_clones_equal (λ y e. e))
