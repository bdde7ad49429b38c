use Rattle.std.proofs.Common.{◌≡◌, ℕ, ◌+◌, ◌<◌, true, Bool, take, reverse, length}
use Rattle.circuit.specs.Gates.{valuation}
use Rattle.blif_read.specs.Equations.{Fits}
use Rattle.blif_read.specs.Walked.{known}
use Rattle.blif_read.proofs.values.values.Given as goal

abbrev pub invariant-loop-i : goal.invariant-loop-i
invariant-loop-i l = record {
  size : length l.values.items ≡ l.inputs + length l.defs;
  bits : (k : ℕ) → k < l.i → valuation l.values.items k ≡ valuation l.word k;
}

abbrev pub invariant-loop-signal : goal.invariant-loop-signal
invariant-loop-signal l = record {
  size : length l.values.items ≡ l.inputs + length l.defs;
  agrees : (v : ℕ → Bool) → Fits l.inputs l.defs l.word v → (q : ℕ)
      → known l.inputs (reverse (take l.signal-index l.order)) q ≡ true → valuation l.values.items q ≡ v q;
}
