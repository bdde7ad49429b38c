-- What is computed of cells and feeds says how far the rows of the one line are ahead of those of the other.
use Rattle.std.proofs.Common.{◌≡◌, ℕ, zero, suc, ◌+◌, ◌-◌, ◌<◌, ◌≤◌, inl, inr, List, [], ◌∷◌, length, Some}
use Rattle.std.proofs.Common.{sym, ap, ◌∙◌, arith, slice_get}
use Rattle.std.proofs.lemmas.Option.{same_Some, slice_get_cases}
use Rattle.circuit_extracted.specs.declared.cells.Feed.{Feed}
use Rattle.circuit_extracted.specs.declared.cells.Feed.TheVariants.{Pin}
use Rattle.circuit_extracted.specs.declared.cells.ExCell.{ExCell}
use Rattle.circuit_extracted.specs.Circuits.{CircuitView, IsCellAt, IsFed, feed_at}
use Rattle.pulse_sim.specs.Travelling.{AreAheadAtMost, even_beyond, odd_beyond, cell_most, most_from, even_of, odd_of}

module _ (measure : ℕ → ℕ → Feed → ℕ) (near far : ℕ → ℕ) where
  below_from : (first k : ℕ) (cell : ExCell) (cells : List ExCell) → slice_get cells k ≡ Some cell
      → cell_most measure near far (first + k) cell ≤ most_from measure near far first cells
  below_from first k cell [] e = absurd cc
  below_from first zero cell (x ∷ xs) e =
      omega (
        arith,
        ap (λ (y : ExCell). cell_most measure near far first y) (same_Some x cell e),
        ap (λ (n : ℕ). cell_most measure near far n cell) same,
      )
    where
      same : first + 0 ≡ first
      same = omega arith
  below_from first (suc k) cell (x ∷ xs) e =
      omega (arith, below_from (suc first) k cell xs e, ap (λ (n : ℕ). cell_most measure near far n cell) same)
    where
      same : first + suc k ≡ suc first + k
      same = omega arith

  feed_below : (c i : ℕ) (cell : ExCell) → i < 3
      → measure cell.row c (feed_at cell i) ≤ cell_most measure near far c cell
  feed_below c zero cell lt = omega arith
  feed_below c (suc zero) cell lt = omega arith
  feed_below c (suc (suc zero)) cell lt = omega arith
  feed_below c (suc (suc (suc i))) cell lt = absurd (omega arith)

  fed_below : (circuit : CircuitView) (c i d output : ℕ) (cell : ExCell) → IsCellAt circuit c cell
      → IsFed circuit c i (Pin d output)
      → measure cell.row c (Pin d output) ≤ most_from measure near far 0 circuit.cells
  fed_below circuit c i d output cell at fed =
      omega (
        arith,
        feed_below c i fed.cell (three i fed.feed_is),
        below_from 0 c fed.cell circuit.cells fed.cell_is,
        ap (λ (n : ℕ). cell_most measure near far n fed.cell) same,
        ap (λ (f : Feed). measure fed.cell.row c f) fed.feed_is,
        ap (λ (x : ExCell). measure x.row c (Pin d output)) one,
      )
    where
      same : 0 + c ≡ c
      same = omega arith

      one : fed.cell ≡ cell
      one = same_Some fed.cell cell (sym fed.cell_is ∙ at)

      three : (n : ℕ) → feed_at fed.cell n ≡ Pin d output → n < 3
      three zero e = omega arith
      three (suc zero) e = omega arith
      three (suc (suc zero)) e = omega arith
      three (suc (suc (suc n))) e = absurd cc

  own_below : (circuit : CircuitView) → ((c : ℕ) → length circuit.cells ≤ c → far c ≤ near c) → (c : ℕ)
      → far c ≤ near c + most_from measure near far 0 circuit.cells
  own_below circuit beyond c = elim (slice_get_cases circuit.cells c).1 [
    | inl there ↦
        omega (
          arith,
          below_from 0 c there.0 circuit.cells there.2,
          ap (λ (n : ℕ). cell_most measure near far n there.0) same,
        )
    | inr past ↦ omega (arith, beyond c past.0)
  ]
    where
      same : 0 + c ≡ c
      same = omega arith

pub are_ahead : (circuit : CircuitView) (near far : ℕ → ℕ) → ((c : ℕ) → length circuit.cells ≤ c → far c ≤ near c)
    → AreAheadAtMost circuit near far (even_of circuit near far) (odd_of circuit near far)
are_ahead circuit near far beyond = record {
  width_even = own_below (even_beyond near far) near far circuit beyond;
  width_odd = own_below (odd_beyond near far) near far circuit beyond;
  in_even = λ c i d output cell at fed even. (
    omega (
      arith,
      fed_below (even_beyond near far) near far circuit c i d output cell at fed,
      ap (λ (n : ℕ). elim n as (λ (x : ℕ). ℕ) [ zero ↦ far c - near d | suc m ↦ far d - near c ]) even,
    ),
    omega (
      arith,
      fed_below (odd_beyond near far) near far circuit c i d output cell at fed,
      ap (λ (n : ℕ). elim n as (λ (x : ℕ). ℕ) [ zero ↦ far d - near c | suc m ↦ far c - near d ]) even,
    ),
  );
  in_odd = λ c i d output cell at fed odd. (
    omega (
      arith,
      fed_below (odd_beyond near far) near far circuit c i d output cell at fed,
      ap (λ (n : ℕ). elim n as (λ (x : ℕ). ℕ) [ zero ↦ far d - near c | suc m ↦ far c - near d ]) odd,
    ),
    omega (
      arith,
      fed_below (even_beyond near far) near far circuit c i d output cell at fed,
      ap (λ (n : ℕ). elim n as (λ (x : ℕ). ℕ) [ zero ↦ far c - near d | suc m ↦ far d - near c ]) odd,
    ),
  );
}
