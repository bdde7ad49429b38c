-- What the models of a design mean, apart from any expansion: a model answers a word where some values of its signals
-- fit it, and a call shows what the model that it names answers.
use Rattle.std.specs.Prelude.{◌≡◌, ℕ, zero, suc, Bool, true, false, not, ◌&&◌, List, [], ◌∷◌, map, length}
use Rattle.std.specs.Prelude.{slice_index_or}
use Rattle.std.specs.List.{list_any, position_or_len, AllByRecursion}
use Rattle.std.specs.Str.{bytes_eq}
use Rattle.blif_read.specs.Equations.{takes}
use Rattle.blif_read.specs.Lines.{logical_lines}
use Rattle.blif_read.specs.Models.{is_design, parts_of, model_of}
use Rattle.blif_read.specs.declared.models.Call.{Call}
use Rattle.blif_read.specs.declared.models.NamedDef.{NamedDef}
use Rattle.blif_read.specs.declared.models.BlifModel.{BlifModel}
use Rattle.blif_flat.specs.Designs.{names_in, called, actual_of, output_ports, first_model}

-- a plane takes values, place by place
abbrev pub takes_all : List ℕ → List Bool → Bool
takes_all [] values = true
takes_all (b ∷ bs) [] = true
takes_all (b ∷ bs) (value ∷ values) = takes b value && takes_all bs values

-- true where some plane takes the values of the inputs; for a cover of the places where it is false, true where none
-- does
abbrev pub named_value : NamedDef → (List ℕ → Bool) → Bool
named_value def v = elim def.on [
  | true ↦ list_any (λ cube. takes_all cube.plane (map v def.inputs)) def.cubes
  | false ↦ not (list_any (λ cube. takes_all cube.plane (map v def.inputs)) def.cubes)
]

-- the value that an answer has for an output of a model
abbrev pub answer_at : BlifModel → List Bool → List ℕ → Bool
answer_at model answer name = slice_index_or answer (position_or_len (bytes_eq name) (names_in model.outputs)) false

-- The model that a call names answers the values of its input ports, and the signals at its output ports have the
-- values of that answer. These are the answers of models.
pub record Shows (answers : BlifModel → List Bool → List Bool → Type 0) (models : List BlifModel)
    (v : List ℕ → Bool) (call : Call) : Type 0 where
  pub answer : List Bool
  pub given : answers (called models call)
      (map (λ i. v (actual_of call i)) (names_in (called models call).inputs)) answer
  pub joined : AllByRecursion (λ p. v p.actual ≡ answer_at (called models call) answer p.formal)
      (output_ports models call)

-- values of a model's signals, under which it answers a word
pub record AnswersBy (answers : BlifModel → List Bool → List Bool → Type 0) (models : List BlifModel)
    (model : BlifModel) (word answer : List Bool) : Type 0 where
  pub values : List ℕ → Bool
  pub bits : map values (names_in model.inputs) ≡ word
  pub covers : AllByRecursion (λ d. values d.output ≡ named_value d values) model.defs
  pub calls : AllByRecursion (Shows answers models values) model.calls
  pub shown : answer ≡ map values (names_in model.outputs)

-- what a model answers, down chains of fewer models than steps
abbrev pub Means : ℕ → List BlifModel → BlifModel → List Bool → List Bool → Type 0
Means zero models model word answer = ⊥
Means (suc steps) models model word answer = AnswersBy (Means steps models) models model word answer

-- what a design answers is what its first model does; where no model calls itself, a chain has no more models than
-- there are
abbrev pub DesignAnswers : List BlifModel → List Bool → List Bool → Type 0
DesignAnswers models word answer = Means (length models) models (first_model models) word answer

-- the models that a text says; without calls, and with one `.model` at most, it is one model as a whole
abbrev pub models_in : List ℕ → List BlifModel
models_in text = elim (is_design (logical_lines text)) [
  | true ↦ map model_of (parts_of (logical_lines text))
  | false ↦ model_of (logical_lines text) ∷ []
]

-- how many inputs a text has: those of its first model
abbrev pub inputs_of : List ℕ → ℕ
inputs_of text = length (first_model (models_in text)).inputs

-- how many outputs it has
abbrev pub outputs_of : List ℕ → ℕ
outputs_of text = length (first_model (models_in text)).outputs

-- what a text answers: what the first of its models does
abbrev pub TextAnswers : List ℕ → List Bool → List Bool → Type 0
TextAnswers text = DesignAnswers (models_in text)
