use Rattle.std.proofs.Common.{arith, add-one, sym, ◌∙◌}
use Rattle.cell_netlist.specs.Code.Tabled.{view_of}
use Rattle.cell_netlist.proofs.Levelled.{here_of, cell_of, cell_levelled, cell_none, name_levelled}
use Rattle.cell_netlist.proofs.Levelled.{signal_below}
use Rattle.cell_netlist.proofs.levels.add_cell.Goals as goal

pub overflow_add-inputs : goal.overflow_add-inputs
overflow_add-inputs c =
    let h = here_of c.args.tabled.now.net.now c.args.j c.args.def.now c.known.ensures c.requires.here in
    omega (arith, h.below, h.few)

pub overflow_add-j : goal.overflow_add-j
overflow_add-j c =
    let h = here_of c.args.tabled.now.net.now c.args.j c.args.def.now c.known.ensures c.requires.here in
    omega (arith, h.below, h.few)

pub returns-then-name-clause-added : goal.returns-then-name-clause-added
returns-then-name-clause-added c is =
    name_levelled (view_of c.args.tabled.now) c.args.j _
    (sym (rw c.input_count-inputs.ensures.count at c.is_name-name.ensures) ∙ c.if-name.true)
    c.requires.levelled

pub add_rises-requires-clause-upper : goal.add_rises-requires-clause-upper
add_rises-requires-clause-upper c =
    let h = here_of c.args.tabled.now.net.now c.args.j c.args.def.now c.known.ensures c.requires.here in
    let count = c.requires.levelled.count_is in
    omega (arith, h.below, count)

pub add_rises-requires-clause-few : goal.add_rises-requires-clause-few
add_rises-requires-clause-few c =
    let h = here_of c.args.tabled.now.net.now c.args.j c.args.def.now c.known.ensures c.requires.here in
    rw c.as_slice.ensures (λ k lt. let low = h.within k lt in omega (arith, low, h.few))

pub add_rises-requires-clause-signals : goal.add_rises-requires-clause-signals
add_rises-requires-clause-signals c =
    let h = here_of c.args.tabled.now.net.now c.args.j c.args.def.now c.known.ensures c.requires.here in
    rw (c.as_slice.ensures, c.input_count-inputs.ensures.count)
    (λ k lt. signal_below (view_of c.args.tabled.now) _ _ c.requires.levelled
    (h.within k lt))

pub returns-clause-added : goal.returns-clause-added
returns-clause-added c is =
    cell_levelled (view_of c.args.tabled.now) c.args.j c.args.def.now c.requires.gate.0 _ _
    (cell_of (view_of c.args.tabled.now) _ _ c.args.j c.args.def.now _ c.known.ensures c.requires.table c.requires.here
    c.requires.gate.1)
    (sym (rw c.input_count-inputs.ensures.count at c.is_name-name.ensures) ∙ c.if-name.false) c.requires.levelled
    (rw (c.as_slice.ensures, c.input_count-inputs.ensures.count, add-one) at (c.add_rises.ensures.added is))

pub returns-clause-refused : goal.returns-clause-refused
returns-clause-refused c is =
    cell_none (view_of c.args.tabled.now) c.args.j c.args.def.now c.requires.gate.0 _
    (cell_of (view_of c.args.tabled.now) _ _ c.args.j c.args.def.now _ c.known.ensures c.requires.table c.requires.here
    c.requires.gate.1)
    (sym (rw c.input_count-inputs.ensures.count at c.is_name-name.ensures) ∙ c.if-name.false) c.requires.levelled
    (rw (c.as_slice.ensures, c.input_count-inputs.ensures.count, add-one) at (c.add_rises.ensures.refused is))
