use Rattle.maj_mapping.proofs.Outputs.{Mapped}
use Rattle.maj_mapping.proofs.pass.map_net.Given as goal

abbrev pub invariant-loop-output : goal.invariant-loop-output
invariant-loop-output l = Mapped l.net l.output-items l.maker l.gate_of l.output-index
