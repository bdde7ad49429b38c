-- Windows keep clear where the excitation runs the skew in less than a quarter of the period, and only there.
use Rattle.std.proofs.Common.{◌≡◌, ℕ, suc, ◌+◌, ◌*◌, ◌/◌, ◌-◌, ◌<◌, ◌≤◌, Bool, inl, inr, ap, arith}
use Rattle.std.proofs.Common.{mul-le-mul_left, List}
use Rattle.std.proofs.lemmas.Bool.{cases_lt}
use Rattle.std.proofs.lemmas.Nat.{le-div}
use Rattle.std.proofs.Math.Nat.{mul-div-le}
use Rattle.circuit_extracted.specs.Circuits.{CircuitView, KeepsFacts}
use Rattle.circuit_extracted.specs.Answers.{IsAnswer}
use Rattle.std.specs.List.{AllZip}
use Rattle.pulse_sim.specs.Clocked.{IsWellTimed, IsWithinQuarter, ShowsByClocks}
use Rattle.pulse_sim.specs.Travelling.{AreSpans, IsSkewAtMost, IsSkew, arrives, is_past, every_quarter, ShowsAtRates}
use Rattle.pulse_sim.proofs.Clocks.{shows_by_clocks}

-- what lies no further than the skew is passed no later than the skew takes
run_by : (slow skew a b : ℕ) → a ≤ b + skew → slow * a ≤ slow * b + slow * skew
run_by slow skew a b le = omega (arith, mul-le-mul_left slow le, distributes)
  where
    distributes : slow * (b + skew) ≡ slow * b + slow * skew
    distributes = omega arith

pub well_timed : (circuit : CircuitView) (near far beat : ℕ → ℕ) (slow late skew : ℕ)
    → AreSpans near far → IsSkewAtMost circuit near far skew → IsWithinQuarter beat (slow * skew + late)
    → IsWellTimed circuit (arrives beat slow near) (is_past beat slow late far)
well_timed circuit near far beat slow late skew spans most within = record {
  window = λ c n. omega (arith, mul-le-mul_left slow (spans c));
  own = λ c n. omega (arith, run_by slow skew (far c) (near c) (most.own c), within n);
  up = λ c i d output n fed. omega (arith, run_by slow skew (far d) (near c) (most.up c i d output fed), within n);
  down = λ c i d output n fed. omega (arith, run_by slow skew (far c) (near d) (most.down c i d output fed), within n);
}

quarters : (quarter skew n : ℕ) → skew < quarter → quarter * n + skew < quarter * suc n
quarters quarter skew n lt = omega (arith, lt)

pub uniform : (circuit : CircuitView) (near far : ℕ → ℕ) (slow skew quarter : ℕ)
    → AreSpans near far → IsSkewAtMost circuit near far skew → slow * skew < quarter
    → IsWellTimed circuit (arrives (every_quarter quarter) slow near) (is_past (every_quarter quarter) slow 0 far)
uniform circuit near far slow skew quarter spans most lt =
    well_timed circuit near far (every_quarter quarter) slow 0 skew spans most
    (λ n. omega (arith, quarters quarter (slow * skew) n lt))

-- what is passed in less than a quarter is no further than a quarter reaches
reaches : (slow quarter a b : ℕ) → 1 ≤ slow → quarter * 0 + slow * a + 0 < quarter * 1 + slow * b
    → a ≤ b + (quarter - 1) / slow
reaches slow quarter a b some lt = omega (arith, within)
  where
    within : a - b ≤ (quarter - 1) / slow
    within = le-div (a - b) (quarter - 1) slow (omega arith) (omega (arith, lt, minus))
      where
        minus : (a - b) * slow ≤ slow * a - slow * b
        minus = elim (cases_lt b a) [
          | inl less ↦ omega (arith, parts less, distributes)
          | inr more ↦ omega (arith, ap (λ (x : ℕ). x * slow) (none more))
        ]
          where
            parts : b < a → slow * a ≡ slow * (b + (a - b))
            parts less = ap (λ (x : ℕ). slow * x) (omega arith)

            distributes : slow * (b + (a - b)) ≡ slow * b + (a - b) * slow
            distributes = omega arith

            none : a ≤ b → a - b ≡ 0
            none le = omega arith

pub exact : (circuit : CircuitView) (near far : ℕ → ℕ) (slow skew quarter : ℕ)
    → AreSpans near far → IsSkew circuit near far skew → 1 ≤ slow
    → IsWellTimed circuit (arrives (every_quarter quarter) slow near) (is_past (every_quarter quarter) slow 0 far)
    → slow * skew < quarter
exact circuit near far slow skew quarter spans is some well =
    omega (
      arith,
      mul-le-mul_left slow least,
      mul-div-le (quarter - 1) slow,
      well.own 0 0,
      mul-le-mul_left slow (spans 0),
    )
  where
    most : IsSkewAtMost circuit near far ((quarter - 1) / slow)
    most = record {
      own = λ c. reaches slow quarter (far c) (near c) some (well.own c 0);
      up = λ c i d output fed. reaches slow quarter (far d) (near c) some (well.up c i d output 0 fed);
      down = λ c i d output fed. reaches slow quarter (far c) (near d) some (well.down c i d output 0 fed);
    }

    least : skew ≤ (quarter - 1) / slow
    least = is.least ((quarter - 1) / slow) most

pub by_clocks : (circuit : CircuitView) (near far : ℕ → ℕ) (skew d : ℕ) (words answers : List (List Bool))
    → AreSpans near far → IsSkewAtMost circuit near far skew → ShowsByClocks circuit d words answers
    → ShowsAtRates circuit near far skew d words answers
by_clocks circuit near far skew d words answers spans most shows =
    λ slow quarter past state time k j answer source lt run to answer_is source_is inside.
    shows (arrives (every_quarter quarter) slow near) (is_past (every_quarter quarter) slow 0 far) past state time k j
    answer source (uniform circuit near far slow skew quarter spans most lt) run to answer_is source_is inside

pub shows_at_rates : (circuit : CircuitView) (near far : ℕ → ℕ) (skew : ℕ) (words answers : List (List Bool))
    → KeepsFacts circuit → AreSpans near far → IsSkewAtMost circuit near far skew
    → AllZip (IsAnswer circuit) words answers
    → ShowsAtRates circuit near far skew (circuit.rows - 1) words answers
shows_at_rates circuit near far skew words answers keeps spans most all =
    by_clocks circuit near far skew (circuit.rows - 1) words answers spans most
    (shows_by_clocks circuit words answers keeps all)
