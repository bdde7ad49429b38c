-- Which nodes the outputs of a graph need.
use Rattle.std.specs.Prelude.{◌≡◌, ℕ, ◌+◌, ◌/◌, Bool, true, false, List, Some, slice_get, slice_index_or, slice_set}
use Rattle.std.specs.List.{AllByRecursion}
use Rattle.mig.specs.declared.node.Node.{Node}

-- the nodes of a majority's literals are marked
abbrev pub mark_three : List Bool → Node → List Bool
mark_three marks node = slice_set (slice_set (slice_set marks (node.x / 2) true) (node.y / 2) true) (node.z / 2) true

-- the node of a literal is marked
pub record IsMarked (marks : List Bool) (literal : ℕ) : Type 0 where
  pub marked : slice_index_or marks (literal / 2) false ≡ true

-- those of a majority's literals are
pub record AreMarked (marks : List Bool) (node : Node) : Type 0 where
  pub x : IsMarked marks node.x
  pub y : IsMarked marks node.y
  pub z : IsMarked marks node.z

-- the nodes of a marked majority's literals are marked
pub record AreClosed (inputs : ℕ) (nodes : List Node) (marks : List Bool) : Type 0 where
  pub of_nodes : (k : ℕ) (node : Node) → slice_get nodes k ≡ Some node
      → slice_index_or marks (1 + inputs + k) false ≡ true → AreMarked marks node

-- and those of the outputs
pub record AreNeeded (inputs : ℕ) (nodes : List Node) (outputs : List ℕ) (marks : List Bool) : Type 0 where
  pub of_outputs : AllByRecursion (IsMarked marks) outputs
  pub closed : AreClosed inputs nodes marks
