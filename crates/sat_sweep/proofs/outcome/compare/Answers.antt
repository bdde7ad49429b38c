use Rattle.std.proofs.Common.{refl, sym, ◌∙◌, subst}
use Rattle.circuit.specs.CellNets.{circuit}
use Rattle.sat_sweep.specs.Code.Least.{IsSweepResult}
use Rattle.sat_sweep.proofs.Compared.{all_alike, least_difference}
use Rattle.sat_sweep.proofs.outcome.compare.Goals as goal

pub returns-in-Equal : goal.returns-in-Equal
returns-in-Equal c =
    let inputs = c.args.graph.now.inputs in
    let last = c.swept.new.merged in
    let ones = c.deref.result.now in
    let others = c.deref-2.result.now in
    let found = subst (IsSweepResult last ones others) c.in-Equal.is c.in_ok-found.ensures.found in
    all_alike (circuit inputs c.args.gates.now c.args.outputs.now)
    (circuit inputs c.args.other_gates.now c.args.other_outputs.now) c.output_literals.new.graph
    c.output_literals-2.new.graph last c.known.ensures c.in_ok-others.ensures.grown c.in_ok-found.ensures.grown ones
    others (rw c.deref.ensures.value c.in_ok-ones.ensures.shown)
    (rw c.deref-2.ensures.value c.in_ok-others.ensures.shown) c.requires.outputs found c.requires.first
    c.requires.second refl

pub returns-then-branch : goal.returns-then-branch
returns-then-branch c =
    let inputs = c.args.graph.now.inputs in
    let last = c.swept.new.merged in
    let ones = c.deref.result.now in
    let others = c.deref-2.result.now in
    let found = subst (IsSweepResult last ones others) c.in-LeastCounterexample.is c.in_ok-found.ensures.found in
    least_difference (circuit inputs c.args.gates.now c.args.outputs.now)
    (circuit inputs c.args.other_gates.now c.args.other_outputs.now) c.output_literals.new.graph
    c.output_literals-2.new.graph last c.known.ensures c.in_ok-others.ensures.grown c.in_ok-found.ensures.grown ones
    others (rw c.deref.ensures.value c.in_ok-ones.ensures.shown)
    (rw c.deref-2.ensures.value c.in_ok-others.ensures.shown) c.requires.outputs
    (c.in_ok-found.ensures.grown.same_inputs ∙ c.in_ok-others.ensures.grown.same_inputs
    ∙ c.in_ok-ones.ensures.grown.same_inputs) c.in-LeastCounterexample.place c.in-LeastCounterexample.word found
    (rw (sym c.as_slice.ensures) (c.in_ok-differ_at-in-LeastCounterexample.ensures c.if-branch.true))
