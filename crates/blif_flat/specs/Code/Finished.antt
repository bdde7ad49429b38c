-- A netlist from the wires of a design and its definitions, and why there is none.
use Rattle.std.specs.Prelude.{◌≡◌, ℕ, List, [], map, Some, slice_index_or}
use Rattle.blif_read.specs.Parts.{NetView}
use Rattle.blif_read.specs.Faults.{line_of}
use Rattle.blif_read.specs.Walk.{first_cycle}
use Rattle.blif_read.specs.declared.netlist.Def.{Def}
use Rattle.blif_read.specs.declared.netlist.BlifFault.{BlifFault}
use Rattle.blif_read.specs.declared.netlist.BlifFault.TheVariants.{Cycle}
use Rattle.blif_flat.specs.Expansion.{Wire, wire, kept_names, told_name}
use Rattle.blif_flat.specs.declared.design.FlatRefusal.{FlatRefusal}
use Rattle.blif_flat.specs.declared.design.FlatRefusal.TheVariants.{Text, Design, TooMany, Memory}

-- the netlist of these wires, of which the first so many are inputs, by the names that it keeps for them
abbrev pub net_of : ℕ → List Wire → List Def → List ℕ → NetView
net_of inputs wires defs outputs = record {
  inputs = inputs;
  names = kept_names 0 wires;
  defs = defs;
  outputs = outputs;
}

-- signals by the names that a fault tells
abbrev pub told_of : List Wire → List ℕ → List (List ℕ)
told_of wires signals = map (λ s. told_name (slice_index_or wires s (wire 0 []))) signals

-- the fault of a cycle
abbrev pub closed : ℕ → List Wire → List Def → List ℕ → BlifFault
closed inputs wires defs signals = Cycle (line_of inputs defs (slice_index_or signals 0 0)) (told_of wires signals)

-- the first cycle, told
pub record IsClosed (inputs : ℕ) (wires : List Wire) (defs : List Def) (fault : BlifFault) : Type 0 where
  pub cycle : List ℕ
  pub first : first_cycle inputs defs ≡ Some cycle
  pub told : fault ≡ closed inputs wires defs cycle

-- why there is no netlist
abbrev pub IsUnfinished : ℕ → List Wire → List Def → FlatRefusal → Type 0
IsUnfinished inputs wires defs (Text fault) = IsClosed inputs wires defs fault
IsUnfinished inputs wires defs (Design line kind) = ⊥
IsUnfinished inputs wires defs (TooMany size) = ⊥
IsUnfinished inputs wires defs Memory = Unit {0}
