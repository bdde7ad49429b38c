use Rattle.std.proofs.Common.{◌∙◌, sym, ap, subst, ℕ, ◌<◌, ◌+◌, length, Option}
use Rattle.circuit.specs.declared.gate.Gate.{Gate}
use Rattle.cell_netlist.specs.Levels.{buffered}
use Rattle.cell_netlist.proofs.Shown.{shown_within}
use Rattle.cell_netlist.proofs.outputs.shown_by.Goals as goal

pub returns-clause-is : goal.returns-clause-is
returns-clause-is c =
    c.buffered.ensures ∙ ap (λ (g : Option Gate). buffered g c.args.signal) (c.gate_of.ensures c.args._three)

pub returns-clause-within : goal.returns-clause-within
returns-clause-within c =
    subst (λ (n : ℕ). n < c.args.net.now.inputs + length c.args.net.now.defs) (sym (returns-clause-is c))
    (shown_within c.args.net.now _ _ _ c.args._three c.args.signal c.known.ensures c.requires.table c.requires.signal)
