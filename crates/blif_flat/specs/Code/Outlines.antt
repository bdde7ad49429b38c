-- What a table keeps of models for their callers.
use Rattle.std.specs.Prelude.{◌≡◌, ℕ, List, [], map, length, Option, Some, None, slice_get, slice_index_or}
use Rattle.std.specs.List.{AllByRecursion}
use Rattle.std.specs.Str.{bytes_eq}
use Rattle.indexmap.specs.IndexSet.{insert_all}
use Rattle.blif_read.specs.declared.models.Call.{Call}
use Rattle.blif_read.specs.declared.models.BlifModel.{BlifModel}
use Rattle.blif_flat.specs.Designs.{names_in, model_number, no_model, distinct_outputs}
use Rattle.blif_flat.specs.Code.Blocks.{wide, block_names, place}
use Rattle.blif_flat.specs.declared.models.outlines.Outline.{Outline}

-- the inputs of a model differ; the places of its outputs, each once, and its width, which is that of its block
pub record IsOutline (models : List BlifModel) (model : BlifModel) (outline : Outline) : Type 0 where
  pub inputs : insert_all bytes_eq [] (names_in model.inputs) ≡ names_in model.inputs
  pub exits : outline.exits.items ≡ map (place (wide models) models model) (distinct_outputs model)
  pub width : outline.width ≡ wide models model
  pub full : length (block_names (wide models) models model) ≡ wide models model

-- the outline of a number in a table
pub record HasOutline (models : List BlifModel) (outlines : List Outline) (n : ℕ) : Type 0 where
  pub outline : Outline
  pub at : slice_get outlines n ≡ Some outline
  pub is : IsOutline models (slice_index_or models n no_model) outline

-- what the table has for a call
abbrev pub IsOutlined : List BlifModel → List Outline → Option ℕ → Type 0
IsOutlined models outlines None = Unit {0}
IsOutlined models outlines (Some n) = HasOutline models outlines n

-- and for each call of a model
abbrev pub AreOutlined : List BlifModel → List Outline → List Call → Type 0
AreOutlined models outlines calls = AllByRecursion (λ c. IsOutlined models outlines (model_number models c.model)) calls
