use Rattle.std.proofs.Common.{◌≡◌, ◌∙◌, ap, arith, length}
use Rattle.cell_netlist.proofs.Judged.{there_of}
use Rattle.cell_rows.specs.Code.Laying.{laid_to}
use Rattle.cell_rows.proofs.net.lay_each.Goals as goal

pub loop-j-init : goal.loop-j-init
loop-j-init c = (c.requires.used, c.requires.rows)

pub overflow_cast-j : goal.overflow_cast-j
overflow_cast-j c =
    let long = ap length (c.as_slice-def-items.ensures ∙ c.defs.ensures) in
    let lt = c.loop-j-test.true in
    let small = c.known.ensures.small in
    let count = c.known.ensures.count in
    omega (arith, lt, long, small, count)

pub lay_one-requires-clause-used : goal.lay_one-requires-clause-used
lay_one-requires-clause-used c = c.loop-j.invariant.0

pub lay_one-requires-clause-j : goal.lay_one-requires-clause-j
lay_one-requires-clause-j c =
    let long = ap length (c.as_slice-def-items.ensures ∙ c.defs.ensures) in
    let lt = c.loop-j-test.true in
    omega (arith, lt, long)

pub lay_one-requires-clause-rows : goal.lay_one-requires-clause-rows
lay_one-requires-clause-rows c = c.loop-j.invariant.1

pub overflow_cast-j-in-loop-j : goal.overflow_cast-j-in-loop-j
overflow_cast-j-in-loop-j c =
    let long = ap length (c.as_slice-def-items.ensures ∙ c.defs.ensures) in
    let lt = c.loop-j-test.true in
    let small = c.known.ensures.small in
    let count = c.known.ensures.count in
    omega (arith, lt, long, small, count)

pub use_each-requires-clause-here : goal.use_each-requires-clause-here
use_each-requires-clause-here c =
    there_of c.args.cells.now.net.now c.as_slice-def-items.result.now c.loop-j.j c.def-item.result
    (c.as_slice-def-items.ensures ∙ c.defs.ensures) c.loop-j-test.true c.def-item.is

pub use_each-requires-clause-used : goal.use_each-requires-clause-used
use_each-requires-clause-used c = c.loop-j.invariant.0

pub loop-j-preserved : goal.loop-j-preserved
loop-j-preserved c = (c.use_each.ensures, c.in_ok-lay_one.ensures)

pub returns : goal.returns
returns c =
    let long = ap length (c.as_slice-def-items.ensures ∙ c.defs.ensures) in
    let most = c.loop-j.auto.j-end in
    let least = c.loop-j-test.false in
    let all : c.loop-j.j ≡ length c.args.cells.now.net.now.defs = omega (arith, long, most, least) in
    c.loop-j.invariant.1 ∙ ap (laid_to c.args.cells.now) all
