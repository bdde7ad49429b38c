use Rattle.std.proofs.Common.{◌+◌, ◌<◌, ◌^◌, ◌++◌, List, length, map, sym, ap, ◌∙◌, subst}
use Rattle.std.specs.Prelude.{All}
use Rattle.rowed.specs.declared.source.Source.{Source}
use Rattle.circuit_extracted.specs.declared.cells.ExCell.{ExCell}
use Rattle.circuit_extracted.specs.Circuits.{CircuitView}
use Rattle.circuit_gates.specs.CellGates.{FeedsFit, gate_of, inputs_to}
use Rattle.circuit_gates.proofs.SameCircuit.{feeds_fit, sources_fit, cells_from, same_from}
use Rattle.circuit_gates.proofs.extracted.extracted_cells.Goals as goal

pub gates-requires : goal.gates-requires
gates-requires c =
    subst (λ (cs : List ExCell). All (FeedsFit c.circuit.inside.inputs) cs) (sym c.as_slice.ensures)
    (feeds_fit _ c.circuit.invariant
    (subst (λ (v : CircuitView). v.inputs + length v.cells < 2 ^ 32) (sym c.circuit.view_is) c.requires))

pub outputs-requires : goal.outputs-requires
outputs-requires c =
    subst (λ (ss : List Source). All (λ source. c.circuit.inside.inputs + source.cell < 2 ^ 32) ss)
    (sym c.as_slice-2.ensures)
    (sources_fit _ c.circuit.invariant
    (subst (λ (v : CircuitView). v.inputs + length v.cells < 2 ^ 32) (sym c.circuit.view_is) c.requires))

pub invariant_of-result : goal.invariant_of-result
invariant_of-result c =
    cells_from _ c.circuit.invariant c.from_vec.result c.from_vec-2.result
    (c.from_vec.ensures ∙ c.in_ok-gates.ensures
    ∙ ap (λ (cs : List ExCell). inputs_to c.circuit.inside.inputs ++ map
    (gate_of c.circuit.inside.inputs) cs) c.as_slice.ensures)
    (c.from_vec-2.ensures ∙ c.in_ok-outputs.ensures
    ∙ ap (λ (ss : List Source). map (λ source. c.circuit.inside.inputs + source.cell) ss) c.as_slice-2.ensures)

pub returns-clause-same : goal.returns-clause-same
returns-clause-same c =
    same_from _ c.circuit.invariant c.args.circuit.now c.from_vec.result c.from_vec-2.result c.circuit.view_is
    (c.from_vec.ensures ∙ c.in_ok-gates.ensures
    ∙ ap (λ (cs : List ExCell). inputs_to c.circuit.inside.inputs ++ map
    (gate_of c.circuit.inside.inputs) cs) c.as_slice.ensures)
    (c.from_vec-2.ensures ∙ c.in_ok-outputs.ensures
    ∙ ap (λ (ss : List Source). map (λ source. c.circuit.inside.inputs + source.cell) ss) c.as_slice-2.ensures)
