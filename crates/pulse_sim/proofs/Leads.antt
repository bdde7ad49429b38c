-- What lines that are longer before their first bars do to the skew.
use Rattle.std.proofs.Common.{◌≡◌, ℕ, zero, suc, ◌+◌, ◌%◌, ◌<◌, ◌≤◌, ◌⊎◌, inl, inr, Option, Some, None, refl, ap, subst}
use Rattle.std.proofs.Common.{arith, slice_get}
use Rattle.circuit_extracted.specs.declared.cells.Feed.{Feed}
use Rattle.circuit_extracted.specs.declared.cells.Feed.TheVariants.{Pin}
use Rattle.circuit_extracted.specs.declared.cells.ExCell.{ExCell}
use Rattle.circuit_extracted.specs.Circuits.{CircuitView, IsCellAt, IsFed, IsFeedOf, IsOutputBelow, KeepsFacts}
use Rattle.pulse_sim.specs.Travelling.{IsSkewAtMost, AreAheadAtMost, lead_of, led}

-- a row is even or odd
parity : (row : ℕ) → (row % 2 ≡ 0) ⊎ (row % 2 ≡ 1)
parity row = from (row % 2) (omega arith)
  where
    from : (n : ℕ) → n < 2 → (n ≡ 0) ⊎ (n ≡ 1)
    from zero lt = inl refl
    from (suc zero) lt = inr refl
    from (suc (suc n)) lt = absurd (omega arith)

module _ (circuit : CircuitView) (keeps : KeepsFacts circuit) (even_lead odd_lead : ℕ) where
  at_even : (row : ℕ) → row % 2 ≡ 0 → lead_of even_lead odd_lead row ≡ even_lead
  at_even row e = ap (λ (n : ℕ). elim n as (λ (x : ℕ). ℕ) [ zero ↦ even_lead | suc m ↦ odd_lead ]) e

  at_odd : (row : ℕ) → row % 2 ≡ 1 → lead_of even_lead odd_lead row ≡ odd_lead
  at_odd row e = ap (λ (n : ℕ). elim n as (λ (x : ℕ). ℕ) [ zero ↦ even_lead | suc m ↦ odd_lead ]) e

  led_at : (at : ℕ → ℕ) (c : ℕ) (cell : ExCell) → IsCellAt circuit c cell
      → led circuit even_lead odd_lead at c ≡ at c + lead_of even_lead odd_lead cell.row
  led_at at c cell is = ap (λ (o : Option ExCell). elim o as (λ (x : Option ExCell). ℕ) [
    | None ↦ at c
    | Some x ↦ at c + lead_of even_lead odd_lead x.row
  ]) is

  below : (c i d output : ℕ) (fed : IsFed circuit c i (Pin d output))
      → IsOutputBelow circuit fed.cell.row (record { cell = d; output = output })
  below c i d output fed =
      subst (λ (feed : Feed). IsFeedOf circuit fed.cell.row feed) fed.feed_is
      ((keeps.cells c fed.cell fed.cell_is).each_feed i)

  module _ (near far : ℕ → ℕ) (even odd skew : ℕ) (ahead : AreAheadAtMost circuit near far even odd)
      (one : even + even_lead ≤ skew + odd_lead) (other : odd + odd_lead ≤ skew + even_lead) where
    both : (c i d output : ℕ) → IsFed circuit c i (Pin d output)
        → (led circuit even_lead odd_lead far d ≤ led circuit even_lead odd_lead near c + skew)
        × (led circuit even_lead odd_lead far c ≤ led circuit even_lead odd_lead near d + skew)
    both c i d output fed = elim (parity fed.cell.row) [
      | inl e ↦
          let h = ahead.in_even c i d output fed.cell fed.cell_is fed e in
          let down = at_odd b.cell.row (omega (arith, b.just_below)) in
          let up = at_even fed.cell.row e in
          (omega (arith, h, up, down, far_d, near_c), omega (arith, h, up, down, far_c, near_d))
      | inr e ↦
          let h = ahead.in_odd c i d output fed.cell fed.cell_is fed e in
          let down = at_even b.cell.row (omega (arith, b.just_below)) in
          let up = at_odd fed.cell.row e in
          (omega (arith, h, up, down, far_d, near_c), omega (arith, h, up, down, far_c, near_d))
    ]
      where
        b : IsOutputBelow circuit fed.cell.row (record { cell = d; output = output })
        b = below c i d output fed

        far_d : led circuit even_lead odd_lead far d ≡ far d + lead_of even_lead odd_lead b.cell.row
        far_d = led_at far d b.cell b.cell_is

        near_d : led circuit even_lead odd_lead near d ≡ near d + lead_of even_lead odd_lead b.cell.row
        near_d = led_at near d b.cell b.cell_is

        far_c : led circuit even_lead odd_lead far c ≡ far c + lead_of even_lead odd_lead fed.cell.row
        far_c = led_at far c fed.cell fed.cell_is

        near_c : led circuit even_lead odd_lead near c ≡ near c + lead_of even_lead odd_lead fed.cell.row
        near_c = led_at near c fed.cell fed.cell_is

    own_led : (c : ℕ) (o : Option ExCell) → slice_get circuit.cells c ≡ o
        → led circuit even_lead odd_lead far c ≤ led circuit even_lead odd_lead near c + skew
    own_led c None e = omega (arith, ahead.width_even c, ahead.width_odd c, none far, none near)
      where
        none : (at : ℕ → ℕ) → led circuit even_lead odd_lead at c ≡ at c
        none at = ap (λ (o : Option ExCell). elim o as (λ (x : Option ExCell). ℕ) [
          | None ↦ at c
          | Some x ↦ at c + lead_of even_lead odd_lead x.row
        ]) e
    own_led c (Some cell) e =
        omega (arith, ahead.width_even c, ahead.width_odd c, led_at far c cell e, led_at near c cell e)

    pub skewed : IsSkewAtMost circuit (led circuit even_lead odd_lead near) (led circuit even_lead odd_lead far) skew
    skewed = record {
      own = λ c. own_led c (slice_get circuit.cells c) refl;
      up = λ c i d output fed. (both c i d output fed).0;
      down = λ c i d output fed. (both c i d output fed).1;
    }

pub shifted : (circuit : CircuitView) (near far : ℕ → ℕ) (even odd even_lead odd_lead skew : ℕ)
    → KeepsFacts circuit → AreAheadAtMost circuit near far even odd
    → even + even_lead ≤ skew + odd_lead → odd + odd_lead ≤ skew + even_lead
    → IsSkewAtMost circuit (led circuit even_lead odd_lead near) (led circuit even_lead odd_lead far) skew
shifted circuit near far even odd even_lead odd_lead skew keeps ahead one other =
    skewed circuit keeps even_lead odd_lead near far even odd skew ahead one other
