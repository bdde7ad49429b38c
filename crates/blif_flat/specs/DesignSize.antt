-- The size of a design: how much its expanded first model holds.
use Rattle.std.specs.Prelude.{ℕ, zero, suc, ◌+◌, ◌*◌, ◌^◌, List, length}
use Rattle.std.specs.List.{sum_by}
use Rattle.blif_read.specs.declared.models.Call.{Call}
use Rattle.blif_read.specs.declared.models.NamedDef.{NamedDef}
use Rattle.blif_read.specs.declared.models.BlifModel.{BlifModel}
use Rattle.blif_flat.specs.Designs.{called, distinct_outputs, first_model}

-- a definition, its inputs, the rows of its cover and their bytes
abbrev pub definition_size : NamedDef → ℕ
definition_size def = 1 + length def.inputs + length def.cubes + sum_by (λ c. length c.plane) def.cubes

-- a call, four for each input and each output of its model, and the model, where these are the sizes of models
abbrev pub call_size : (BlifModel → ℕ) → List BlifModel → Call → ℕ
call_size of models call = 1
    + 4 * length (called models call).inputs
    + 4 * length (distinct_outputs (called models call))
    + of (called models call)

-- a model with what it calls, down chains of fewer models than steps
abbrev pub model_size : ℕ → List BlifModel → BlifModel → ℕ
model_size zero models model = 0
model_size (suc steps) models model = sum_by definition_size model.defs
    + sum_by (call_size (model_size steps models) models) model.calls

-- where no model calls itself, a chain has no more models than there are
unfoldable pub design_size : List BlifModel → ℕ
design_size models = model_size (length models) models (first_model models)

-- the greatest size of a design that is expanded
abbrev pub size_limit : ℕ
size_limit = 2 ^ 24
