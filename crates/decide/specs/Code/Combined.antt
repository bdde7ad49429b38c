-- Functions that are made of others, and the search for a word in the inputs' own order.
use Rattle.std.specs.Prelude.{◌≡◌, ◌≢◌, ℕ, ◌&&◌, Bool, true, false, not, List, length, take, slice_index_or}
use Rattle.decide.specs.declared.edge.Edge.{Edge}
use Rattle.decide.specs.declared.edge.Node.{Node}
use Rattle.decide.specs.Code.Diagrams.{flip, regular, edge_value}
use Rattle.decide.specs.Code.Orders.{arranged}
use Rattle.decide.specs.Verdicts.{Before}

-- the conjunction of two functions
abbrev pub both_true : List Node → Edge → Edge → List Bool → Bool
both_true nodes f g x = edge_value nodes x f && edge_value nodes x g

-- whether two functions differ at a word
abbrev pub differs_at : List Node → Edge → Edge → List Bool → Bool
differs_at nodes f g x = flip (edge_value nodes x f) (edge_value nodes x g)

-- a function where the variable at a level is false, and false elsewhere
abbrev pub low_part : List Node → Edge → ℕ → List Bool → Bool
low_part nodes f level x = edge_value nodes x f && not (slice_index_or x level false)

-- the search after some first inputs: the edge is true at the words on which f and g differ and whose first inputs have
-- the values of the word, and there is such a word; on words that come before these f and g are alike
pub record IsNarrowed (nodes : List Node) (order : List ℕ) (n : ℕ) (f g : List Bool → Bool)
    (word : List Bool) (e : Edge) (count : ℕ) : Type 0 where
  pub size : length word ≡ count
  pub some : e ≢ regular 0
  pub holds : (x : List Bool) → length x ≡ n → edge_value nodes (arranged order x) e ≡ true
      → (f x ≢ g x) × (take count x ≡ word)
  pub covers : (x : List Bool) → length x ≡ n → f x ≢ g x → take count x ≡ word
      → edge_value nodes (arranged order x) e ≡ true
  pub before : (x : List Bool) → length x ≡ n → Before (take count x) word → f x ≡ g x
