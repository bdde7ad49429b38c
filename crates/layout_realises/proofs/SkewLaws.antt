-- Skews by places that are the same are the same.
use Rattle.std.proofs.Common.{◌≡◌, ℕ, ◌≤◌, arith}
use Rattle.circuit_extracted.specs.Circuits.{CircuitView}
use Rattle.pulse_sim.specs.Travelling.{IsSkew, IsSkewAtMost}

pub none_wide : (near far : ℕ) → (near ≡ 0) × (far ≡ 0) → far ≤ near
none_wide near far none = omega (arith, none.0, none.1)

-- the skew by the one is no greater than a bound by the other
pub least_of : (circuit : CircuitView) (near far other_near other_far : ℕ → ℕ) (skew other : ℕ)
    → IsSkew circuit near far skew → IsSkewAtMost circuit other_near other_far other
    → ((c : ℕ) → (near c ≡ other_near c) × (far c ≡ other_far c)) → skew ≤ other
least_of circuit near far other_near other_far skew other is most same = is.least other (record {
  own = λ c. omega (arith, most.own c, (same c).0, (same c).1);
  up = λ c i d output fed. omega (arith, most.up c i d output fed, (same c).0, (same d).1);
  down = λ c i d output fed. omega (arith, most.down c i d output fed, (same d).0, (same c).1);
})
