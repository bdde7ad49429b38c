-- What is told of the models of a text that says no netlist.
use Rattle.std.specs.Prelude.{List}
use Rattle.blif_read.specs.declared.models.BlifModel.{BlifModel}
use Rattle.blif_flat.specs.DesignText.{IsToldFault, IsToldSize, IsToldCycle}
use Rattle.blif_flat.specs.declared.design.FlatRefusal.{FlatRefusal}
use Rattle.blif_flat.specs.declared.design.FlatRefusal.TheVariants.{Text, Design, TooMany, Memory}

-- why models say no netlist: a cycle, another fault of the design, or its size; want of memory is free
abbrev pub IsModelsRefusal : List BlifModel → FlatRefusal → Type 0
IsModelsRefusal models (Text fault) = IsToldCycle models fault
IsModelsRefusal models (Design line kind) = IsToldFault models line kind
IsModelsRefusal models (TooMany size) = IsToldSize models size
IsModelsRefusal models Memory = Unit {0}
