use Rattle.std.proofs.Common.{List, sym, subst}
use Rattle.circuit.specs.declared.gate.Gate.{Gate}
use Rattle.circuit.specs.CellNets.{AreCells}
use Rattle.circuit.proofs.CellAnswers.{plain_is_cells}
use Rattle.circuit.proofs.Valued.{shown_answers}
use Rattle.circuit.proofs.plain_net.PlainNetAnswers.answer.Goals as goal

pub gate_values-requires : goal.gate_values-requires
gate_values-requires c =
    let cells = plain_is_cells _ c.self.invariant in (
      c.self.inside.inputs,
      subst (λ (gs : List Gate). AreCells c.self.inside.inputs gs)
          (sym c.as_slice.ensures) cells.gates_read,
    )

pub returns : goal.returns
returns c =
    shown_answers c.shown_values.result _ _ _ _ _ _ _ _
    (plain_is_cells _ c.self.invariant) c.self.view_is c.as_slice.ensures
    c.as_slice-3.ensures c.as_slice-2.ensures c.deref.ensures.value c.in_ok-values.ensures c.shown_values.ensures
