-- What the names of a design stand for. A design is the list of the models that a text says; the first is the one that
-- is built. A call names a model, and its ports join signals of that model to signals of the caller.
use Rattle.std.specs.Prelude.{ℕ, List, [], ◌∷◌, ◌++◌, map, Option, Some, None, slice_index_or}
use Rattle.std.specs.List.{flat_map, filter, position}
use Rattle.std.specs.Str.{bytes_eq}
use Rattle.indexmap.specs.IndexSet.{insert_all}
use Rattle.blif_read.specs.Parts.{is_defined}
use Rattle.blif_read.specs.Models.{named}
use Rattle.blif_read.specs.declared.models.Named.{Named}
use Rattle.blif_read.specs.declared.models.Port.{Port}
use Rattle.blif_read.specs.declared.models.Call.{Call}
use Rattle.blif_read.specs.declared.models.BlifModel.{BlifModel}

-- the names alone, without their lines
abbrev pub names_in : List Named → List (List ℕ)
names_in names = map (λ n. n.name) names

-- the number of the model that a name stands for: the first that has it. The empty name stands for none.
abbrev pub model_number : List BlifModel → List ℕ → Option ℕ
model_number models [] = None
model_number models (byte ∷ bytes) = position (λ m. bytes_eq (byte ∷ bytes) m.name) models

-- a model without anything
abbrev pub no_model : BlifModel
no_model = record { line = 0; name = []; inputs = []; outputs = []; defs = []; calls = [] }

-- the model of a number, which may be missing
abbrev pub model_at : List BlifModel → Option ℕ → BlifModel
model_at models None = no_model
model_at models (Some n) = slice_index_or models n no_model

-- the model that a call names
abbrev pub called : List BlifModel → Call → BlifModel
called models call = model_at models (model_number models call.model)

-- the ports of a call that are joined to inputs of its model, and those joined to its outputs
abbrev pub input_ports : List BlifModel → Call → List Port
input_ports models call = filter (λ p. is_defined (names_in (called models call).inputs) p.formal) call.ports

-- the ports of a call that are joined to outputs of its model
abbrev pub output_ports : List BlifModel → Call → List Port
output_ports models call = filter (λ p. is_defined (names_in (called models call).outputs) p.formal) call.ports

-- the signals of the caller at these ports, each with the line of the call
abbrev pub actuals : ℕ → List Port → List Named
actuals line ports = map (λ p. named line p.actual) ports

-- each signal that a model gives a value to, with its line: its inputs, what `.names` defines, what output ports join
abbrev pub driven : List BlifModel → BlifModel → List Named
driven models model = model.inputs
    ++ map (λ d. named d.line d.output) model.defs
    ++ flat_map (λ c. actuals c.line (output_ports models c)) model.calls

-- each use of a signal in a model, with its line: by `.names`, by an input port, and as an output of the model
abbrev pub used : List BlifModel → BlifModel → List Named
used models model = flat_map (λ d. map (named d.line) d.inputs) model.defs
    ++ flat_map (λ c. actuals c.line (input_ports models c)) model.calls
    ++ model.outputs

-- the first model, which is the one that is built
abbrev pub first_model : List BlifModel → BlifModel
first_model models = slice_index_or models 0 no_model

-- the outputs of a model, each once
abbrev pub distinct_outputs : BlifModel → List (List ℕ)
distinct_outputs model = insert_all bytes_eq [] (names_in model.outputs)

-- the signal of the caller that a formal is joined to, and the outputs of the called model that are joined to one
abbrev pub formals : Call → List (List ℕ)
formals call = map (λ p. p.formal) call.ports

-- the signal of the caller that this signal of the called model is joined to; the empty name for none
abbrev pub actual_of : Call → List ℕ → List ℕ
actual_of call formal = slice_index_or (map (λ p. p.actual) (filter (λ p. bytes_eq formal p.formal) call.ports)) 0 []

-- the outputs of the called model that a port joins to a signal of the caller, each once
abbrev pub joined_outputs : List BlifModel → Call → List (List ℕ)
joined_outputs models call = filter (is_defined (formals call)) (distinct_outputs (called models call))
