-- What the program keeps beside a model: its inputs and its outputs, each name once, and whether no input is an output
-- too. Names are held in a list where they are few, and else in a table.
use Rattle.std.specs.Prelude.{◌≡◌, ℕ, Bool, not, List, []}
use Rattle.std.specs.List.{list_all}
use Rattle.std.specs.Str.{bytes_eq}
use Rattle.indexmap.specs.IndexSet.{insert_all}
use Rattle.blif_read.specs.Code.Seen.{texts}
use Rattle.blif_read.specs.Parts.{is_defined}
use Rattle.blif_read.specs.declared.models.BlifModel.{BlifModel}
use Rattle.blif_flat.specs.declared.models.names.Held.{Held}
use Rattle.blif_flat.specs.declared.models.names.Held.TheVariants.{Few, Many}
use Rattle.blif_flat.specs.Designs.{names_in}

-- the names that are held
abbrev pub names_held : Held → List (List ℕ)
names_held (Few names) = texts names.items
names_held (Many table) = texts table.value.keys

-- a model's inputs and outputs, each name once in its order, and whether no name is both
pub record AreIndexes (model : BlifModel) (inputs outputs : List (List ℕ)) (apart : Bool) : Type 0 where
  pub has_inputs : inputs ≡ insert_all bytes_eq [] (names_in model.inputs)
  pub has_outputs : outputs ≡ insert_all bytes_eq [] (names_in model.outputs)
  pub is_apart : apart ≡ list_all (λ n. not (is_defined (names_in model.outputs) n.name)) model.inputs
