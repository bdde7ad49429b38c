-- What is found of calls before they are expanded.
use Rattle.std.specs.Prelude.{◌≡◌, ℕ, true, List, [], map, length, slice_index_or}
use Rattle.std.specs.List.{AllByRecursion}
use Rattle.blif_read.specs.Code.Seen.{texts}
use Rattle.blif_read.specs.Walk.{on}
use Rattle.blif_read.specs.declared.models.Call.{Call}
use Rattle.blif_read.specs.declared.models.BlifModel.{BlifModel}
use Rattle.blif_flat.specs.Designs.{model_number, no_model, actual_of, joined_outputs}
use Rattle.blif_flat.specs.declared.models.links.Link.{Link}

-- the number of the model that a call names, and the signals of the caller that this model's outputs are joined to
pub record IsLink (models : List BlifModel) (link : Link) : Type 0 where
  pub model : link.model ≡ model_number models link.call.now.model
  pub actuals : texts link.actuals.items ≡ map (actual_of link.call.now) (joined_outputs models link.call.now)

-- and the call is this one
pub record IsLinkOf (models : List BlifModel) (call : Call) (link : Link) : Type 0 where
  pub same : link.call.now ≡ call
  pub is : IsLink models link

-- the calls that links are of
abbrev pub calls_in : List Link → List Call
calls_in links = map (λ link. link.call.now) links

-- the links of these calls
pub record AreLinks (models : List BlifModel) (calls : List Call) (links : List Link) : Type 0 where
  pub whole : calls_in links ≡ calls
  pub each : AllByRecursion (IsLink models) links

-- a table has the links of these models' calls
pub record HasLinks (models : List BlifModel) (done : List ℕ) (table : List (List Link)) : Type 0 where
  pub size : length table ≡ length models
  pub held : (n : ℕ) → on done n ≡ true
      → AreLinks models (slice_index_or models n no_model).calls (slice_index_or table n [])
