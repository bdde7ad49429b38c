use Rattle.std.proofs.Common.{◌∙◌}
use Rattle.cell_rows.specs.Code.Laying.{view_of}
use Rattle.cell_rows.proofs.Made.{made_keeps, made_is}
use Rattle.cell_rows.proofs.net.planned.Goals as goal

pub invariant_of-result : goal.invariant_of-result
invariant_of-result c =
    made_keeps (view_of c.args.cells.now) c.args.cells.now.levels.now.levels
    c.args.cells.now.levels.now.last c.input_count.result c.output_count.result c.from_vec.result c.requires.cells
    c.input_count.ensures.count c.output_count.ensures (c.from_vec.ensures ∙ c.in_ok-rows.ensures)

pub returns : goal.returns
returns c =
    made_is c.args.cells.now.net.now c.args.cells.now.table.now.gates.items c.args.cells.now.three
    c.args.cells.now.levels.now.levels c.args.cells.now.levels.now.last
    c.input_count.result c.output_count.result c.from_vec.result c.requires.cells c.input_count.ensures.count
    c.output_count.ensures (c.from_vec.ensures ∙ c.in_ok-rows.ensures)
