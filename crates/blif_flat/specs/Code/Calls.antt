-- Models as definitions that read the models that they call, and the order in which a walk through calls leaves them.
use Rattle.std.specs.Prelude.{◌≡◌, ℕ, ◌<◌, Bool, true, List, [], map, length, reverse}
use Rattle.std.specs.List.{flat_map, AllByRecursion}
use Rattle.std.specs.Str.{bytes_eq}
use Rattle.blif_read.specs.Walk.{on}
use Rattle.blif_read.specs.Walked.{Settled, AreLedTo}
use Rattle.blif_read.specs.declared.netlist.Def.{Def}
use Rattle.blif_read.specs.declared.models.BlifModel.{BlifModel}
use Rattle.blif_flat.specs.Designs.{model_number}
use Rattle.blif_flat.specs.DesignFaults.{number_in as listed, callees}

-- the model has this name
abbrev pub has_name : List ℕ → BlifModel → Bool
has_name name model = bytes_eq name model.name

-- a definition that reads the models that a model calls, call by call
abbrev pub call_def : List BlifModel → BlifModel → Def
call_def models model = record {
  line = model.line;
  inputs = flat_map (λ c. listed (model_number models c.model)) model.calls;
  on = true;
  cubes = [];
}

-- a definition for each model, in the order of the models
abbrev pub call_defs : List BlifModel → List Def
call_defs models = map (call_def models) models

-- the first model and those that its calls lead to, and no others, each after those that it calls
pub record IsCallOrder (models : List BlifModel) (order : List ℕ) : Type 0 where
  pub settled : Settled 0 (callees models) (reverse order)
  pub bounded : AllByRecursion (λ n. n < length models) (reverse order)
  pub rooted : on (reverse order) 0 ≡ true
  pub led : AreLedTo (callees models) 0 (reverse order)
