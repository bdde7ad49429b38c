-- What is computed of cells and feeds, one after the other, is the skew of the circuit.
use Rattle.std.proofs.Common.{◌≡◌, ℕ, zero, suc, ◌+◌, ◌-◌, ◌≤◌, inl, inr, List, [], ◌∷◌, length, Some}
use Rattle.std.proofs.Common.{refl, ap, arith, slice_get}
use Rattle.std.proofs.lemmas.Option.{same_Some, slice_get_cases}
use Rattle.circuit_extracted.specs.declared.cells.Feed.{Feed}
use Rattle.circuit_extracted.specs.declared.cells.Feed.TheVariants.{Nothing, Pin, Label}
use Rattle.circuit_extracted.specs.declared.cells.ExCell.{ExCell}
use Rattle.circuit_extracted.specs.Circuits.{CircuitView, IsCellAt, IsFed, feed_at}
use Rattle.pulse_sim.specs.Travelling.{IsSkewAtMost, IsSkew, apart, feed_skew, cell_skew, skew_from, skew_of}

module _ (near far : ℕ → ℕ) where
  -- ---- no cell is further from itself or from a feed

  below_from : (first k : ℕ) (cell : ExCell) (cells : List ExCell) → slice_get cells k ≡ Some cell
      → cell_skew near far (first + k) cell ≤ skew_from near far first cells
  below_from first k cell [] e = absurd cc
  below_from first zero cell (x ∷ xs) e =
      omega (
        arith,
        ap (λ (y : ExCell). cell_skew near far first y) (same_Some x cell e),
        ap (λ (n : ℕ). cell_skew near far n cell) same,
      )
    where
      same : first + 0 ≡ first
      same = omega arith
  below_from first (suc k) cell (x ∷ xs) e =
      omega (arith, below_from (suc first) k cell xs e, ap (λ (n : ℕ). cell_skew near far n cell) same)
    where
      same : first + suc k ≡ suc first + k
      same = omega arith

  feed_below : (c i d output : ℕ) (cell : ExCell) → feed_at cell i ≡ Pin d output
      → apart near far c d ≤ cell_skew near far c cell
  feed_below c zero d output cell e = omega (arith, ap (λ (f : Feed). feed_skew near far c f) e)
  feed_below c (suc zero) d output cell e = omega (arith, ap (λ (f : Feed). feed_skew near far c f) e)
  feed_below c (suc (suc zero)) d output cell e = omega (arith, ap (λ (f : Feed). feed_skew near far c f) e)
  feed_below c (suc (suc (suc i))) d output cell e = absurd cc

  fed_below : (circuit : CircuitView) (c i d output : ℕ) → IsFed circuit c i (Pin d output)
      → apart near far c d ≤ skew_of circuit near far
  fed_below circuit c i d output fed =
      omega (
        arith,
        feed_below c i d output fed.cell fed.feed_is,
        below_from 0 c fed.cell circuit.cells fed.cell_is,
        ap (λ (n : ℕ). cell_skew near far n fed.cell) same,
      )
    where
      same : 0 + c ≡ c
      same = omega arith

  own_below : (circuit : CircuitView) → ((c : ℕ) → length circuit.cells ≤ c → far c ≤ near c) → (c : ℕ)
      → far c - near c ≤ skew_of circuit near far
  own_below circuit beyond c = elim (slice_get_cases circuit.cells c).1 [
    | inl there ↦
        omega (
          arith,
          below_from 0 c there.0 circuit.cells there.2,
          ap (λ (n : ℕ). cell_skew near far n there.0) same,
        )
    | inr past ↦ omega (arith, beyond c past.0)
  ]
    where
      same : 0 + c ≡ c
      same = omega arith

  -- ---- and it is the least such distance

  feed_within : (circuit : CircuitView) (other c i : ℕ) (cell : ExCell) (feed : Feed) → IsCellAt circuit c cell
      → IsSkewAtMost circuit near far other → feed_at cell i ≡ feed → feed_skew near far c feed ≤ other
  feed_within circuit other c i cell Nothing at most e = omega arith
  feed_within circuit other c i cell (Pin d output) at most e =
      omega (arith, most.up c i d output fed, most.down c i d output fed)
    where
      fed : IsFed circuit c i (Pin d output)
      fed = record { cell = cell; cell_is = at; feed_is = e }
  feed_within circuit other c i cell (Label n) at most e = omega arith

  cell_within : (circuit : CircuitView) (other c : ℕ) (cell : ExCell) → IsCellAt circuit c cell
      → IsSkewAtMost circuit near far other → cell_skew near far c cell ≤ other
  cell_within circuit other c cell at most =
      omega (
        arith,
        most.own c,
        feed_within circuit other c 0 cell cell.feed0 at most refl,
        feed_within circuit other c 1 cell cell.feed1 at most refl,
        feed_within circuit other c 2 cell cell.feed2 at most refl,
      )

  within_from : (first other : ℕ) (cells : List ExCell)
      → ((k : ℕ) (cell : ExCell) → slice_get cells k ≡ Some cell → cell_skew near far (first + k) cell ≤ other)
      → skew_from near far first cells ≤ other
  within_from first other [] each = omega arith
  within_from first other (x ∷ xs) each =
      omega (
        arith,
        each 0 x refl,
        ap (λ (n : ℕ). cell_skew near far n x) same,
        within_from (suc first) other xs rest,
      )
    where
      same : first + 0 ≡ first
      same = omega arith

      rest : (k : ℕ) (cell : ExCell) → slice_get xs k ≡ Some cell → cell_skew near far (suc first + k) cell ≤ other
      rest k cell e = omega (arith, each (suc k) cell e, ap (λ (n : ℕ). cell_skew near far n cell) next)
        where
          next : first + suc k ≡ suc first + k
          next = omega arith

pub is_skew : (circuit : CircuitView) (near far : ℕ → ℕ) → ((c : ℕ) → length circuit.cells ≤ c → far c ≤ near c)
    → IsSkew circuit near far (skew_of circuit near far)
is_skew circuit near far beyond = record {
  at_most = record {
    own = λ c. omega (arith, own_below near far circuit beyond c);
    up = λ c i d output fed. omega (arith, fed_below near far circuit c i d output fed);
    down = λ c i d output fed. omega (arith, fed_below near far circuit c i d output fed);
  };
  least = λ other most. within_from near far 0 other circuit.cells
      (λ k cell e. omega (
        arith,
        cell_within near far circuit other k cell e most,
        ap (λ (n : ℕ). cell_skew near far n cell) (zero_plus k),
      ));
}
  where
    zero_plus : (k : ℕ) → 0 + k ≡ k
    zero_plus k = omega arith
