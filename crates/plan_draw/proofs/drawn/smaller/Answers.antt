use Rattle.std.proofs.Common.{arith}
use Rattle.plan_draw.proofs.Chips.{cells_may_draw, cells_answer}
use Rattle.plan_draw.proofs.DrawnRows.{found_is_smaller}
use Rattle.plan_draw.proofs.drawn.smaller.Goals as goal

pub returns-then-cell_count-clause-chip : goal.returns-then-cell_count-clause-chip
returns-then-cell_count-clause-chip c =
    found_is_smaller c.args._library.now c.args._net.now c.args.found c.args.packed c.requires.found c.requires.packed
    (omega (arith, c.if-cell_count.true, c.cell_count.ensures, c.cell_count-2.ensures))

pub returns-else-cell_count-clause-draws : goal.returns-else-cell_count-clause-draws
returns-else-cell_count-clause-draws c =
    cells_may_draw c.args._library.now c.args._net.now c.args.packed c.known.ensures.library c.known-2.ensures
    c.requires.packed

pub returns-else-cell_count-clause-answers : goal.returns-else-cell_count-clause-answers
returns-else-cell_count-clause-answers c =
    cells_answer c.args._library.now c.args._net.now c.args.packed c.known.ensures.library c.known-2.ensures
    c.requires.packed
