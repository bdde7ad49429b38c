use Rattle.std.proofs.Common.{refl}
use Rattle.circuit.specs.CellNets.{circuit}
use Rattle.mig.proofs.Built.{grown_same}
use Rattle.sat_sweep.proofs.Compared.{all_alike}
use Rattle.sat_sweep.proofs.structure.have_same_literals.Goals as goal

pub returns : goal.returns
returns c is =
    let inputs = c.args.graph.now.inputs in
    let last = c.output_literals-2.new.graph in
    all_alike (circuit inputs c.args.gates.now c.args.outputs.now)
    (circuit inputs c.args.other_gates.now c.args.other_outputs.now) c.output_literals.new.graph last last
    c.known.ensures c.in_ok-others.ensures.grown (grown_same last last refl) c.deref.result.now c.deref-2.result.now
    (rw c.deref.ensures.value c.in_ok-ones.ensures.shown) (rw c.deref-2.ensures.value c.in_ok-others.ensures.shown)
    c.requires.outputs (c.are_all_alike.ensures is) c.requires.first c.requires.second refl
