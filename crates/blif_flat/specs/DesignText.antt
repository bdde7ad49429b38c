-- Which netlist a text says, be it of one model or of several that call one another, and what is told of a text that
-- says none.
use Rattle.std.specs.Prelude.{◌≡◌, ◌⊎◌, ℕ, ◌-◌, ◌<◌, ◌≤◌, ◌^◌, true, false, min, List, [], length, map, Some}
use Rattle.std.specs.Prelude.{None, slice_index_or}
use Rattle.blif_read.specs.Lines.{logical_lines}
use Rattle.blif_read.specs.Parts.{NetView}
use Rattle.blif_read.specs.Faults.{line_of}
use Rattle.blif_read.specs.Walk.{first_cycle}
pub use Rattle.blif_read.specs.Models.{is_design}
use Rattle.blif_read.specs.Models.{SaysModels, ModelsFault}
use Rattle.blif_read.specs.Says.{SaysNet, Fault}
use Rattle.blif_read.specs.declared.models.BlifModel.{BlifModel}
use Rattle.blif_read.specs.declared.netlist.BlifFault.{BlifFault}
use Rattle.blif_read.specs.declared.netlist.BlifFault.TheVariants.{Cycle}
use Rattle.blif_flat.specs.Designs.{first_model}
use Rattle.blif_flat.specs.DesignFaults.{IsFirstFault, AreJoined, IsRecursive, loop_of}
use Rattle.blif_flat.specs.DesignSize.{design_size, size_limit}
use Rattle.blif_flat.specs.Expansion.{expansion, wires, wire, told_name}
use Rattle.blif_flat.specs.declared.design.FlatKind.{FlatKind}
use Rattle.blif_flat.specs.declared.design.FlatKind.TheVariants.{ModelTwice, UnknownModel, Ports, Duplicate, Undefined}
use Rattle.blif_flat.specs.declared.design.FlatKind.TheVariants.{Recursive, NoOutputs}
use Rattle.blif_flat.specs.declared.design.FlatRefusal.{FlatRefusal}
use Rattle.blif_flat.specs.declared.design.FlatRefusal.TheVariants.{Text, Design, TooMany, Memory}

-- no line of the models has a fault, and no walk comes back to a model that it is in
pub record IsLaidOut (models : List BlifModel) : Type 0 where
  pub joined : AreJoined models
  pub straight : loop_of models ≡ None

-- and the first model has outputs, and is not too large
pub record IsBuildable (models : List BlifModel) : Type 0 where
  pub laid_out : IsLaidOut models
  pub some_output : 0 < length (first_model models).outputs
  pub small : design_size models ≤ size_limit

-- the fault of a design that is told
pub record HasNoOutputs (models : List BlifModel) (line : ℕ) : Type 0 where
  pub laid_out : IsLaidOut models
  pub none : length (first_model models).outputs ≡ 0
  pub at : line ≡ 0

-- no line has a fault, and a call of this line closes the first loop
pub record IsToldLoop (models : List BlifModel) (line : ℕ) : Type 0 where
  pub joined : AreJoined models
  pub loop : IsRecursive models line

-- the fault of this kind in this line is the one that is told of a design
abbrev pub IsToldFault : List BlifModel → ℕ → FlatKind → Type 0
IsToldFault models line ModelTwice = IsFirstFault models line ModelTwice
IsToldFault models line UnknownModel = IsFirstFault models line UnknownModel
IsToldFault models line Ports = IsFirstFault models line Ports
IsToldFault models line Duplicate = IsFirstFault models line Duplicate
IsToldFault models line Undefined = IsFirstFault models line Undefined
IsToldFault models line Recursive = IsToldLoop models line
IsToldFault models line NoOutputs = HasNoOutputs models line

-- the size that is told of a design that is too large: 64 bits hold it
pub record IsToldSize (models : List BlifModel) (size : ℕ) : Type 0 where
  pub laid_out : IsLaidOut models
  pub some_output : 0 < length (first_model models).outputs
  pub large : size_limit < design_size models
  pub told : size ≡ min (design_size models) (2 ^ 64 - 1)

-- the first cycle of the expanded netlist, by the names that signals have in the design
abbrev pub told_names : List BlifModel → List ℕ → List (List ℕ)
told_names models cycle = map (λ s. told_name (slice_index_or (wires models) s (wire 0 []))) cycle

-- the fault is the first cycle of the expanded netlist, by the names that signals have in the design
pub record IsToldCycle (models : List BlifModel) (fault : BlifFault) : Type 0 where
  pub buildable : IsBuildable models
  pub cycle : List ℕ
  pub first : first_cycle (expansion models).inputs (expansion models).defs ≡ Some cycle
  pub told : fault ≡ Cycle (line_of (expansion models).inputs (expansion models).defs (slice_index_or cycle 0 0))
      (told_names models cycle)

-- a fact for the models that a text says
pub record OfModels (text : List ℕ) (P : List BlifModel → Type 0) : Type 0 where
  pub models : List BlifModel
  pub said : SaysModels text models
  pub fact : P models

-- models say this netlist
pub record SaysExpansion (net : NetView) (models : List BlifModel) : Type 0 where
  pub buildable : IsBuildable models
  pub no_cycle : first_cycle (expansion models).inputs (expansion models).defs ≡ None
  pub is : net ≡ expansion models

-- the netlist that a text says
abbrev pub SaysNetlist : List ℕ → NetView → Type 0
SaysNetlist text net = elim (is_design (logical_lines text)) [
  | true ↦ OfModels text (SaysExpansion net)
  | false ↦ SaysNet text net
]

-- what is told of a design
abbrev pub IsDesignRefusal : List ℕ → FlatRefusal → Type 0
IsDesignRefusal text (Text fault) = ModelsFault text fault ⊎ OfModels text (λ models. IsToldCycle models fault)
IsDesignRefusal text (Design line kind) = OfModels text (λ models. IsToldFault models line kind)
IsDesignRefusal text (TooMany size) = OfModels text (λ models. IsToldSize models size)
IsDesignRefusal text Memory = Unit {0}

-- and of a text of one model without calls
abbrev pub IsTextRefusal : List ℕ → FlatRefusal → Type 0
IsTextRefusal text (Text fault) = Fault text fault
IsTextRefusal text (Design line kind) = ⊥
IsTextRefusal text (TooMany size) = ⊥
IsTextRefusal text Memory = Unit {0}

-- why a text says no netlist; want of memory is free
abbrev pub IsNetlistRefusal : List ℕ → FlatRefusal → Type 0
IsNetlistRefusal text refusal = elim (is_design (logical_lines text)) [
  | true ↦ IsDesignRefusal text refusal
  | false ↦ IsTextRefusal text refusal
]
