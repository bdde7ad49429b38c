use Rattle.std.proofs.Common.{ℕ, ◌+◌, arith, ap, sym, ◌∙◌, Option, Some}
use Rattle.std.proofs.lemmas.Option.{slice_get-get_or}
use Rattle.cell_rows.specs.Code.Laying.{view_of}
use Rattle.cell_rows.specs.CellRows.{cell_by}
use Rattle.cell_rows.proofs.Laid.{row_told}
use Rattle.cell_rows.proofs.cells.row_cell.Goals as goal

pub overflow_add-signal : goal.overflow_add-signal
overflow_add-signal c =
    let small = c.known.ensures.small in
    let count = c.known.ensures.count in
    let inputs = c.input_count-inputs.ensures.count in
    let below = c.requires.j in
    omega (arith, small, count, inputs, below)

pub returns-in_default : goal.returns-in_default
returns-in_default c =
    let d = view_of c.args.cells.now in
    let gate = rw c.input_count-inputs.ensures.count at (c.gate_of.ensures c.args.cells.now.three) in
    c.bare.ensures ∙ ap (cell_by d c.args.cells.now.levels.now.levels c.args.j) (sym c.in_default.is ∙ gate)

pub returns : goal.returns
returns c =
    row_told {d = view_of c.args.cells.now} c.requires.cells _ _ _ c.args.j
    c.uses_of-uses.result c.in-Some.gate c.index-output.result.now c.gate_cell-cell.result c.requires.plan
    c.requires.used c.requires.j
    (sym (rw c.input_count-inputs.ensures.count at (c.gate_of.ensures c.args.cells.now.three)) ∙ c.in-Some.is)
    (rw c.input_count-inputs.ensures.count at c.uses_of-uses.ensures)
    (slice_get-get_or c.args.plan.now.shown.items (c.args.cells.now.net.now.inputs + c.args.j) c.index-output.result.now
    (let long = c.requires.plan.shown_are.long in let low = c.requires.j in omega (arith, long, low))
    ∙ ap (λ (o : Option ℕ). Some o) (sym (rw c.input_count-inputs.ensures.count at c.index-output.ensures)))
    (rw (c.deref.ensures.value, c.input_count-inputs.ensures.count) at c.gate_cell-cell.ensures)
