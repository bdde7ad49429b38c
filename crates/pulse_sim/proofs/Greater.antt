-- The skew is the greater of what the even rows are ahead and what the odd ones are.
use Rattle.std.proofs.Common.{◌≡◌, ℕ, zero, suc, ◌%◌, ◌-◌, List, [], ◌∷◌, refl, arith}
use Rattle.std.specs.Prelude.{max}
use Rattle.circuit_extracted.specs.declared.cells.Feed.{Feed}
use Rattle.circuit_extracted.specs.declared.cells.Feed.TheVariants.{Nothing, Pin, Label}
use Rattle.circuit_extracted.specs.declared.cells.ExCell.{ExCell}
use Rattle.circuit_extracted.specs.Circuits.{CircuitView}
use Rattle.pulse_sim.specs.Travelling.{apart, feed_skew, cell_skew, skew_from, skew_of, even_beyond, odd_beyond}
use Rattle.pulse_sim.specs.Travelling.{cell_most, most_from, even_of, odd_of}

-- the greater of two numbers that are each the greater of two
joined : (a b even odd more_even more_odd : ℕ) → a ≡ max even odd → b ≡ max more_even more_odd
    → max a b ≡ max (max even more_even) (max odd more_odd)
joined a b even odd more_even more_odd one other = omega arith

same : (w : ℕ) → w ≡ max w w
same w = omega arith

turned : (a b : ℕ) → max a b ≡ max b a
turned a b = omega arith

module _ (near far : ℕ → ℕ) where
  of_feed : (row c : ℕ) (feed : Feed)
      → feed_skew near far c feed ≡ max (even_beyond near far row c feed) (odd_beyond near far row c feed)
  of_feed row c Nothing = same 0
  of_feed row c (Label n) = same 0
  of_feed row c (Pin d output) = by_parity (row % 2)
    where
      by_parity : (p : ℕ) → apart near far c d
          ≡ max (elim p as (λ (x : ℕ). ℕ) [ zero ↦ far c - near d | suc n ↦ far d - near c ])
          (elim p as (λ (x : ℕ). ℕ) [ zero ↦ far d - near c | suc n ↦ far c - near d ])
      by_parity zero = refl
      by_parity (suc n) = turned (far c - near d) (far d - near c)

  of_cell : (c : ℕ) (cell : ExCell) → cell_skew near far c cell
      ≡ max (cell_most (even_beyond near far) near far c cell) (cell_most (odd_beyond near far) near far c cell)
  of_cell c cell =
      joined _ _ _ _ _ _ (same (far c - near c))
      (joined _ _ _ _ _ _ (of_feed cell.row c cell.feed0)
      (joined _ _ _ _ _ _ (of_feed cell.row c cell.feed1) (of_feed cell.row c cell.feed2)))

  of_cells : (c : ℕ) (cells : List ExCell) → skew_from near far c cells
      ≡ max (most_from (even_beyond near far) near far c cells) (most_from (odd_beyond near far) near far c cells)
  of_cells c [] = same 0
  of_cells c (cell ∷ cells) = joined _ _ _ _ _ _ (of_cell c cell) (of_cells (suc c) cells)

pub greater_of_both : (circuit : CircuitView) (near far : ℕ → ℕ)
    → skew_of circuit near far ≡ max (even_of circuit near far) (odd_of circuit near far)
greater_of_both circuit near far = of_cells near far 0 circuit.cells
