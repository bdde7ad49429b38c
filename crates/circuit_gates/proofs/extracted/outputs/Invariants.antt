use Rattle.std.proofs.Common.{◌≡◌, ◌+◌, map, take}
use Rattle.circuit_gates.proofs.extracted.outputs.Given as goal

abbrev pub invariant-loop-source : goal.invariant-loop-source
invariant-loop-source l = l.outputs.items ≡ map (λ source. l.inputs + source.cell) (take l.source-index l.sources)
