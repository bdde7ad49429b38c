-- Majorities of edges: what is remembered, and what is still to be made.
use Rattle.std.specs.Prelude.{◌≡◌, ℕ, ◌<◌, ◌≤◌, min, Bool, false, is_some, List, [], ◌∷◌, length, reverse, Some}
use Rattle.std.specs.Prelude.{slice_index_or}
use Rattle.decide.specs.declared.edge.Edge.{Edge}
use Rattle.decide.specs.declared.edge.Triple.{Triple}
use Rattle.decide.specs.declared.edge.Node.{Node}
use Rattle.decide.specs.declared.diagram.Entry.{Entry}
use Rattle.decide.specs.declared.majority.Frame.{Frame}
use Rattle.decide.specs.declared.majority.Turn.{Turn}
use Rattle.decide.specs.declared.majority.Turn.TheVariants.{Make, Made}
use Rattle.decide.specs.Code.Diagrams.{level_of, inputs_of, edge_value, majority_value, cofactor}

-- the three edges are of the diagram
pub record AreEdges (nodes : List Node) (t : Triple) : Type 0 where
  pub first : t.first.node < length nodes
  pub second : t.second.node < length nodes
  pub third : t.third.node < length nodes

-- no operand reads a level before v
pub record AreFrom (nodes : List Node) (v : ℕ) (t : Triple) : Type 0 where
  pub first : v ≤ level_of nodes t.first.node
  pub second : v ≤ level_of nodes t.second.node
  pub third : v ≤ level_of nodes t.third.node

-- the edge is the majority, and reads no level before those of the operands
pub record IsMajority (nodes : List Node) (t : Triple) (e : Edge) : Type 0 where
  pub inside : e.node < length nodes
  pub from : (v : ℕ) → AreFrom nodes v t → v ≤ level_of nodes e.node
  pub value : (x : List Bool) → edge_value nodes x e ≡ majority_value nodes t x

-- what the computed table remembers is right
pub record IsEntry (nodes : List Node) (entry : Entry) : Type 0 where
  pub operands : AreEdges nodes entry.operands
  pub is : IsMajority nodes entry.operands entry.result

-- the first level that an operand reads
abbrev pub least_of : List Node → Triple → ℕ
least_of nodes t =
    min (min (level_of nodes t.first.node) (level_of nodes t.second.node)) (level_of nodes t.third.node)

-- the cofactors of three edges
abbrev pub cofactors : List Node → Triple → ℕ → Bool → Triple
cofactors nodes t level side = record {
  first = cofactor nodes t.first level side;
  second = cofactor nodes t.second level side;
  third = cofactor nodes t.third level side;
}

-- the low cofactor of a frame's majority
pub record IsLow (nodes : List Node) (frame : Frame) (low : Edge) : Type 0 where
  pub inside : low.node < length nodes
  pub above : frame.level < level_of nodes low.node
  pub value : (x : List Bool) → slice_index_or x frame.level false ≡ false
      → edge_value nodes x low ≡ majority_value nodes frame.operands x

-- the frame awaits a function that reads no level before the bound: one cofactor of its majority
pub record IsFrame (nodes : List Node) (frame : Frame) (bound : ℕ) (awaited : List Bool → Bool) : Type 0 where
  pub operands : AreEdges nodes frame.operands
  pub from : AreFrom nodes frame.level frame.operands
  pub least : (v : ℕ) → AreFrom nodes v frame.operands → v ≤ frame.level
  pub below : frame.level < bound
  pub input : frame.level < inputs_of nodes
  pub cofactor : (x : List Bool) → slice_index_or x frame.level false ≡ is_some frame.low
      → awaited x ≡ majority_value nodes frame.operands x
  pub low : (low : Edge) → frame.low ≡ Some low → IsLow nodes frame low

-- the frames, the newest first, await a function, and then give the last one: each gives its majority to the next
abbrev pub Awaits : List Node → List Frame → ℕ → (List Bool → Bool) → (List Bool → Bool) → Type 0
Awaits nodes [] bound awaited last = (x : List Bool) → awaited x ≡ last x
Awaits nodes (frame ∷ frames) bound awaited last =
    IsFrame nodes frame bound awaited
    × Awaits nodes frames frame.level (majority_value nodes frame.operands) last

-- the function that a turn makes or has made
abbrev pub turn_value : List Node → Turn → List Bool → Bool
turn_value nodes (Make t) x = majority_value nodes t x
turn_value nodes (Made e) x = edge_value nodes x e

-- its edges are of the diagram, and read no level before the bound
abbrev pub TurnFits : List Node → ℕ → Turn → Type 0
TurnFits nodes bound (Make t) = AreEdges nodes t × AreFrom nodes bound t
TurnFits nodes bound (Made e) = (e.node < length nodes) × (bound ≤ level_of nodes e.node)

-- the stack, whose top is its last frame, awaits what the turn makes, and gives the last function
pub record Waits (nodes : List Node) (stack : List Frame) (turn : Turn) (last : List Bool → Bool) : Type 0 where
  pub bound : ℕ
  pub fits : TurnFits nodes bound turn
  pub awaits : Awaits nodes (reverse stack) bound (turn_value nodes turn) last

-- the frame awaits this edge
pub record Joins (nodes : List Node) (frame : Frame) (edge : Edge) : Type 0 where
  pub bound : ℕ
  pub fits : TurnFits nodes bound (Made edge)
  pub is : IsFrame nodes frame bound (λ x. edge_value nodes x edge)
