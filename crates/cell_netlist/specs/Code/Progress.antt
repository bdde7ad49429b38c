-- What is known after some definitions: their levels as heights of nodes. Node 0 is the ground, where inputs stand, and
-- node j + 1 is that of definition j, one higher than its level.
use Rattle.std.specs.Prelude.{◌≡◌, ℕ, zero, suc, ◌+◌, ◌-◌, ◌<◌, cond, nat_lt, Bool, true, List, length, take, Some}
use Rattle.std.specs.Prelude.{slice_get, slice_index}
use Rattle.std.specs.List.{list_all}
use Rattle.union_find.specs.Forests.{Forest, Obeys, AreLeast}
use Rattle.blif_read.specs.declared.netlist.Def.{Def}
use Rattle.cell_netlist.specs.Uses.{CellView, named, uses, is_used_well}
use Rattle.cell_netlist.specs.Levels.{LevelsFit, shown_by, is_shown}
use Rattle.cell_netlist.specs.Faults.{IsSoundAt, IsFed, is_fed_well}
use Rattle.circuit.specs.declared.gate.Gate.{Gate}
use Rattle.cell_netlist.specs.Code.Tables.{IsTaken}

-- the node of a signal
abbrev pub node_of : ℕ → ℕ → ℕ
node_of inputs s = cond (nat_lt s inputs) 0 (s - inputs + 1)

-- levels by heights, and heights by levels
abbrev pub level_of : ℕ → (ℕ → ℕ) → ℕ → ℕ
level_of inputs h s = h (node_of inputs s) - 1

abbrev pub height_of : ℕ → (ℕ → ℕ) → ℕ → ℕ
height_of inputs level zero = 0
height_of inputs level (suc j) = suc (level (inputs + j))

-- the second trees allow the heights that the first do and at which a node is one higher than the first n signals
pub record IsAdded (f g : Forest) (inputs upper : ℕ) (signals : List ℕ) (n : ℕ) : Type 0 where
  pub count_is : g.count ≡ f.count
  pub back : (h : ℕ → ℕ) → Obeys g h → Obeys f h
  pub higher : (h : ℕ → ℕ) → Obeys g h → (k : ℕ) → k < n → h upper ≡ h (node_of inputs (slice_index signals k)) + 1
  pub forth : (h : ℕ → ℕ) → Obeys f h
      → ((k : ℕ) → k < n → h upper ≡ h (node_of inputs (slice_index signals k)) + 1) → Obeys g h

-- no heights have the node one higher than all signals
pub record IsNotAdded (f : Forest) (inputs upper : ℕ) (signals : List ℕ) : Type 0 where
  pub none : (h : ℕ → ℕ) → Obeys f h
      → ((k : ℕ) → k < length signals → h upper ≡ h (node_of inputs (slice_index signals k)) + 1) → ⊥

-- the heights are those of levels that fit the first n definitions
pub record IsLevelled (d : CellView) (n : ℕ) (f : Forest) : Type 0 where
  pub count_is : f.count ≡ suc (length d.net.defs)
  pub fits : (h : ℕ → ℕ) → Obeys f h → LevelsFit d n (level_of d.net.inputs h)
  pub obeys : (level : ℕ → ℕ) → LevelsFit d n level → Obeys f (height_of d.net.inputs level)

-- no levels fit them
pub record HasNoLevels (d : CellView) (n : ℕ) : Type 0 where
  pub none : (level : ℕ → ℕ) → LevelsFit d n level → ⊥

-- each of the first n definitions is without fault, whatever comes after it
abbrev pub AreSound : CellView → ℕ → Type 0
AreSound d n = (j : ℕ) (def : Def) → j < n → slice_get d.net.defs j ≡ Some def → IsSoundAt d j def

-- the first n definitions are judged
pub record IsJudged (d : CellView) (n : ℕ) (f : Forest) (taken : List Bool) : Type 0 where
  pub each : AreSound d n
  pub levelled : IsLevelled d n f
  pub taken_are : IsTaken taken d.net.inputs (named (take n d.net.defs))

-- definition j computes this gate, and its uses and inputs are right
pub record IsSoundGate (d : CellView) (j : ℕ) (def : Def) (gate : Gate) : Type 0 where
  pub there : slice_get d.gates j ≡ Some (Some gate)
  pub used_well : is_used_well d j def gate ≡ true
  pub fed_well : is_fed_well d j def gate ≡ true

-- the second trees allow the heights that the first do and at which the first n nodes are as high as another one
pub record IsAligned (f g : Forest) (first : ℕ) (nodes : List ℕ) (n : ℕ) : Type 0 where
  pub count_is : g.count ≡ f.count
  pub back : (h : ℕ → ℕ) → Obeys g h → Obeys f h
  pub same : (h : ℕ → ℕ) → Obeys g h → (k : ℕ) → k < n → h (slice_index nodes k) ≡ h first
  pub forth : (h : ℕ → ℕ) → Obeys f h → ((k : ℕ) → k < n → h (slice_index nodes k) ≡ h first) → Obeys g h

-- no heights have all these nodes as high as another one
pub record IsNotAligned (f : Forest) (first : ℕ) (nodes : List ℕ) : Type 0 where
  pub none : (h : ℕ → ℕ) → Obeys f h → ((k : ℕ) → k < length nodes → h (slice_index nodes k) ≡ h first) → ⊥

-- the nodes of the buffers that show outputs
pub record AreShownNodes (d : CellView) (outputs nodes : List ℕ) (n : ℕ) : Type 0 where
  pub long : length nodes ≡ n
  pub each : (k : ℕ) → k < n → slice_index nodes k ≡ node_of d.net.inputs (shown_by d (slice_index outputs k))

-- an input without use
pub record HasUnused (d : CellView) : Type 0 where
  pub input : ℕ
  pub within : input < d.net.inputs
  pub unused : uses d input ≡ 0

-- each input has a use
pub record AreAllUsed (d : CellView) : Type 0 where
  pub each : (i : ℕ) → i < d.net.inputs → 0 < uses d i

-- what is known when only the last row is left to be found
pub record IsNearly (d : CellView) (f : Forest) (nodes : List ℕ) : Type 0 where
  pub fed : IsFed d
  pub levelled : IsLevelled d (length d.net.defs) f
  pub long : length d.gates ≡ length d.net.defs
  pub shown : list_all (is_shown d) d.net.outputs ≡ true
  pub some : 0 < length d.net.outputs
  pub nodes_are : AreShownNodes d d.net.outputs nodes (length d.net.outputs)

-- the least heights, where the buffers that show outputs are aligned
pub record IsFoundLast (d : CellView) (f g : Forest) (nodes heights : List ℕ) : Type 0 where
  pub nearly : IsNearly d f nodes
  pub aligned : IsAligned f g (slice_index nodes 0) nodes (length nodes)
  pub least : AreLeast g heights

-- levels are told one less than heights, past that of the ground
pub record AreLevels (levels heights : List ℕ) : Type 0 where
  pub long : suc (length levels) ≡ length heights
  pub each : (j : ℕ) → j < length levels → slice_index levels j ≡ slice_index heights (suc j) - 1

-- so they are in some trees
pub record IsLast (d : CellView) (nodes heights : List ℕ) : Type 0 where
  pub f : Forest
  pub g : Forest
  pub found : IsFoundLast d f g nodes heights
