-- The skew of a chip, found in its shapes, and what its circuit shows at each rate that the skew bears.
use Rattle.std.specs.Prelude.{ℕ, Bool, List}
use Rattle.std.specs.List.{AllZip}
use Rattle.geom.specs.declared.shapes.Flat.{Flat}
use Rattle.circuit_extracted.specs.Circuits.{CircuitView}
use Rattle.shape_extract.specs.CellPlaces.{AreCellPlaces}
use Rattle.pulse_sim.specs.Travelling.{IsSkew, ShowsAtRates}

-- the cells lie along the excitation lines by the shapes, and this is the skew of their circuit
pub record IsSkewOf (flat : Flat) (circuit : CircuitView) (skew : ℕ) : Type 0 where
  pub near : ℕ → ℕ
  pub far : ℕ → ℕ
  pub places : AreCellPlaces flat.shapes near far
  pub is_skew : IsSkew circuit near far skew

-- the words have these answers, which the circuit shows at every rate at which the excitation runs the skew in less
-- than a quarter of the period
pub record AnswersAtRates (circuit : CircuitView) (near far : ℕ → ℕ) (skew delay : ℕ)
    (answers : List Bool → List Bool → Type 0) (words : List (List Bool)) : Type 0 where
  pub replies : List (List Bool)
  pub are_answers : AllZip answers words replies
  pub shows : ShowsAtRates circuit near far skew delay words replies
