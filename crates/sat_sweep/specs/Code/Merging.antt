-- Literals of one value, and nodes that have literals of theirs.
use Rattle.std.specs.Prelude.{◌≡◌, ℕ, ◌*◌, ◌%◌, ◌<◌, ◌==◌, Bool, List, length, cond, Option, Some, None, slice_index_or}
use Rattle.mig.specs.Graphs.{literal_value, Fits, turned}
use Rattle.mig.specs.Building.{BuilderView, limit}
use Rattle.sat_solver.specs.declared.clause.Clause.{Clause}
use Rattle.sat_solver.specs.Clauses.{AreClauses}

-- two literals have one value, at each word
pub record AreAlike (b : BuilderView) (one other : ℕ) : Type 0 where
  pub shows : (word : List Bool) (v : ℕ → Bool) → Fits b.inputs b.nodes word v
      → literal_value v one ≡ literal_value v other

-- the second literal has the value of the first, and is there where the first is
pub record StandsFor (b : BuilderView) (literal other : ℕ) : Type 0 where
  pub below : literal < limit b → other < limit b
  pub alike : AreAlike b literal other

-- the representative of a node: the literal that it was merged into, if it was
abbrev pub representative_at : List (Option ℕ) → ℕ → Option ℕ
representative_at representatives node = slice_index_or representatives node None

-- each such literal is there, and has the value of its node
pub record AreMerged (b : BuilderView) (representatives : List (Option ℕ)) : Type 0 where
  pub below : (node literal : ℕ) → representative_at representatives node ≡ Some literal → literal < limit b
  pub alike : (node literal : ℕ) → representative_at representatives node ≡ Some literal → AreAlike b (2 * node) literal

-- what is known of a graph: literals of merged nodes, and clauses
pub record IsKnown (b : BuilderView) (representatives : List (Option ℕ)) (clauses : List Clause) : Type 0 where
  pub are_merged : AreMerged b representatives
  pub are_clauses : AreClauses b clauses

-- a literal of the same node or its complement, for a literal of the node's
abbrev pub turned_as : ℕ → ℕ → ℕ
turned_as literal representative = cond (literal % 2 == 1) (turned representative) representative

-- the literals of so many first places of two lists have one value each
abbrev pub AreAlikeBelow : BuilderView → List ℕ → List ℕ → ℕ → Type 0
AreAlikeBelow b ones others count =
    (k : ℕ) → k < count → AreAlike b (slice_index_or ones k 0) (slice_index_or others k 0)

-- and so do those of all places
abbrev pub AreAllAlike : BuilderView → List ℕ → List ℕ → Type 0
AreAllAlike b ones others = AreAlikeBelow b ones others (length ones)
