-- Literals of a majority-inverter graph that cannot all be true, and clauses.
use Rattle.std.specs.Prelude.{◌≡◌, ℕ, Bool, true, List}
use Rattle.std.specs.List.{All, AllByRecursion}
use Rattle.mig.specs.Graphs.{literal_value, Fits}
use Rattle.mig.specs.Building.{BuilderView}
use Rattle.sat_solver.specs.declared.clause.Clause.{Clause}

-- each of the literals is true, by these values of the nodes
abbrev pub AreTrue : (ℕ → Bool) → List ℕ → Type 0
AreTrue v literals = AllByRecursion (λ l. literal_value v l ≡ true) literals

-- they are not all true at any word
pub record AreUnsatisfiable (b : BuilderView) (literals : List ℕ) : Type 0 where
  pub never : (word : List Bool) (v : ℕ → Bool) → Fits b.inputs b.nodes word v → AreTrue v literals → ⊥

-- these are clauses: the complements of its literals, by which each is kept, are not all true at any word
abbrev pub AreClauses : BuilderView → List Clause → Type 0
AreClauses b clauses = All (λ clause. AreUnsatisfiable b clause.literals.items) clauses
