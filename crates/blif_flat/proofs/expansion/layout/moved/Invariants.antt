use Rattle.std.proofs.Common.{◌≡◌, ◌+◌, map, take}
use Rattle.blif_flat.proofs.expansion.layout.moved.Given as goal

abbrev pub invariant-loop-place : goal.invariant-loop-place
invariant-loop-place l = l.inputs ≡ map (λ p. l.base + p) (take l.place-index l.def.inputs)
