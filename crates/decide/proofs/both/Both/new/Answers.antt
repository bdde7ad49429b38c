use Rattle.std.proofs.Common.{true, false, length, refl, ◌∙◌}
use Rattle.circuit.specs.CellNets.{circuit}
use Rattle.decide.specs.Verdicts.{IsRefusal}
use Rattle.decide.proofs.Remembering.{inputs_same}
use Rattle.decide.proofs.Comparing.{values_grown, none_named, refused, err_is}
use Rattle.decide.proofs.both.Both.new.Goals as goal

pub returns-in_err-first-clause-refusal : goal.returns-in_err-first-clause-refusal
returns-in_err-first-clause-refusal c outputs other_outputs =
    let a = circuit c.args.inputs c.args.gates.now outputs in
    let b = circuit c.args.inputs c.args.other_gates.now other_outputs in
    let begin = c.in_ok-diagram.diagram.table.nodes.keys in
    let middle = c.gates.new.self.table.nodes.keys in
    let inputs = c.in_ok-diagram.ensures.inputs in
    let grown = inputs_same begin middle c.in_ok-diagram.diagram.table.sound c.gates.new.self.table.sound
    c.in_err-first.ensures.grows in
    err_is (IsRefusal a b) _ c.in_err-first.field-0.0 c.from_residual-in_err-first.ensures.1
    (refused a b middle c.in_err-first.field-0.0 c.gates.new.self.table.sound (grown ∙ inputs)
    (c.in_err-first.ensures.named a b false inputs refl (none_named a b begin c.in_ok-diagram.ensures.size))
    c.in_err-first.ensures.full)

pub returns-in_err-second-clause-refusal : goal.returns-in_err-second-clause-refusal
returns-in_err-second-clause-refusal c outputs other_outputs =
    let a = circuit c.args.inputs c.args.gates.now outputs in
    let b = circuit c.args.inputs c.args.other_gates.now other_outputs in
    let begin = c.in_ok-diagram.diagram.table.nodes.keys in
    let middle = c.gates.new.self.table.nodes.keys in
    let last = c.gates-2.new.self.table.nodes.keys in
    let inputs = c.in_ok-diagram.ensures.inputs in
    let grown = inputs_same begin middle c.in_ok-diagram.diagram.table.sound c.gates.new.self.table.sound
    c.in_ok-first.ensures.grows in
    let grown' = inputs_same middle last c.gates.new.self.table.sound c.gates-2.new.self.table.sound
    c.in_err-second.ensures.grows in
    err_is (IsRefusal a b) _ c.in_err-second.field-0.0 c.from_residual-in_err-second.ensures.1
    (refused a b last c.in_err-second.field-0.0 c.gates-2.new.self.table.sound (grown' ∙ (grown ∙ inputs))
    (c.in_err-second.ensures.named a b true (grown ∙ inputs) refl
    (c.in_ok-first.ensures.named a b false inputs refl (none_named a b begin c.in_ok-diagram.ensures.size)))
    c.in_err-second.ensures.full)

pub returns-clause-first : goal.returns-clause-first
returns-clause-first c =
    values_grown c.gates.new.self.table.nodes.keys c.gates-2.new.self.table.nodes.keys c.gates.new.self.table.sound
    c.gates-2.new.self.table.sound c.in_ok-second.ensures.grows
    c.in_ok-first.first.items c.args.gates.now (length c.args.gates.now) c.in_ok-first.ensures.values
