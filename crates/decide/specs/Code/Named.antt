-- Nodes that are subfunctions of two circuits: so there are no more nodes than subfunctions.
use Rattle.std.specs.Prelude.{◌≡◌, ℕ, ◌<◌, Bool, List, length}
use Rattle.circuit.specs.PlainNets.{PlainView}
use Rattle.decide.specs.Subfunctions.{Name, IsName, subvalue}
use Rattle.decide.specs.declared.edge.Node.{Node}
use Rattle.decide.specs.Code.Diagrams.{flip, node_value}

-- the function is a subfunction of the two circuits, or its complement is one
pub record IsNamed (a b : PlainView) (f : List Bool → Bool) : Type 0 where
  pub name : Name
  pub is_name : IsName a b name
  pub complemented : Bool
  pub same : (x : List Bool) → length x ≡ a.inputs → subvalue a b name x ≡ flip complemented (f x)

-- so is that of each node but the constant
abbrev pub AreNamed : PlainView → PlainView → List Node → Type 0
AreNamed a b nodes = (i : ℕ) → 0 < i → i < length nodes → IsNamed a b (λ x. node_value nodes x i)
