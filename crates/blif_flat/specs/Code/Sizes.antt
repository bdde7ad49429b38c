-- Sizes of models as a table keeps them.
use Rattle.std.specs.Prelude.{◌≡◌, ℕ, ◌+◌, ◌-◌, ◌*◌, ◌^◌, true, min, List, length, Option, Some, None, slice_index_or}
use Rattle.std.specs.List.{sum_by}
use Rattle.blif_read.specs.Walk.{on}
use Rattle.blif_read.specs.declared.models.BlifModel.{BlifModel}
use Rattle.blif_flat.specs.Designs.{model_number, no_model, distinct_outputs}
use Rattle.blif_flat.specs.DesignSize.{definition_size, model_size}

-- what is told of a size: 64 bits hold it
abbrev pub told : ℕ → ℕ
told n = min n (2 ^ 64 - 1)

-- what a call of a model takes, where the model takes so much
abbrev pub called_size : BlifModel → ℕ → ℕ
called_size model size = 1 + 4 * length model.inputs + 4 * length (distinct_outputs model) + size

-- what a call of the model of a number takes
abbrev pub size_of_call : List BlifModel → ℕ → ℕ
size_of_call models n = called_size (slice_index_or models n no_model)
    (model_size (length models) models (slice_index_or models n no_model))

-- what the table has for a call; one that names no model takes its own line alone
abbrev pub told_at : List ℕ → Option ℕ → ℕ
told_at table None = 1
told_at table (Some n) = slice_index_or table n 0

-- what a model takes, by the table
abbrev pub size_by : List BlifModel → List ℕ → BlifModel → ℕ
size_by models table model = sum_by definition_size model.defs
    + sum_by (λ c. told_at table (model_number models c.model)) model.calls

-- the table has what is told of the calls of these models
abbrev pub TellsCalls : List BlifModel → List ℕ → List ℕ → Type 0
TellsCalls models done table = (n : ℕ) → on done n ≡ true → slice_index_or table n 0 ≡ told (size_of_call models n)
