use Rattle.std.proofs.Common.{◌≡◌, drop}
use Rattle.circuit.specs.Gates.{valuation}
use Rattle.blif_read.specs.Equations.{matches}
use Rattle.blif_read.proofs.values.matches.Given as goal

abbrev pub invariant-loop-i : goal.invariant-loop-i
invariant-loop-i l = matches (drop l.i l.plane) (drop l.i l.signals)
    (valuation l.values) ≡ matches l.plane l.signals (valuation l.values)
