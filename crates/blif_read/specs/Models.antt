-- What a text of several models says, as tools write designs in parts: the lines of each model, and the model that they
-- say.
use Rattle.std.specs.Prelude.{◌≡◌, ℕ, Bool, true, false, cond, not, ◌&&◌, ◌||◌, ◌==◌, nat_lt, List, [], ◌∷◌, ◌++◌, map}
use Rattle.std.specs.Prelude.{length, drop}
use Rattle.std.specs.Prelude.{suc, slice_index_or, Option, Some, None}
use Rattle.std.specs.List.{flat_map, list_any, list_all, count_by, before_first}
use Rattle.blif_read.specs.Lines.{Line, is_empty, logical_lines}
use Rattle.blif_read.specs.Statements.{word, arguments, is_model, front_of, last_of, inputs_in, outputs_in}
use Rattle.blif_read.specs.Parts.{rows_before_others, plane, says_zero}
use Rattle.blif_read.specs.Faults.{line_fault}
use Rattle.blif_read.specs.Walk.{first_of}
use Rattle.blif_read.specs.declared.words.Statement.{Statement}
use Rattle.blif_read.specs.declared.words.Statement.TheVariants.{Names, Subckt}
use Rattle.blif_read.specs.declared.models.Named.{Named}
use Rattle.blif_read.specs.declared.models.Port.{Port}
use Rattle.blif_read.specs.declared.models.Call.{Call}
use Rattle.blif_read.specs.declared.models.NamedDef.{NamedDef}
use Rattle.blif_read.specs.declared.models.BlifModel.{BlifModel}
use Rattle.blif_read.specs.declared.netlist.BlifFault.{BlifFault}

-- the line comes first in the first of the parts
abbrev pub onto : Line → List (List Line) → List (List Line)
onto line [] = (line ∷ []) ∷ []
onto line (part ∷ parts) = (line ∷ part) ∷ parts

-- the part before these ends where a model begins
abbrev pub ended : Bool → List (List Line) → List (List Line)
ended true parts = [] ∷ parts
ended false parts = parts

-- what is left of a model's lines, and then the lines of the models that follow: each begins with its `.model`
abbrev pub parts_behind : List Line → List (List Line)
parts_behind [] = [] ∷ []
parts_behind (line ∷ lines) = ended (is_model (word line)) (onto line (parts_behind lines))

-- the lines of each model: they are cut before each `.model` that is not the first line of all
abbrev pub parts_of : List Line → List (List Line)
parts_of [] = [] ∷ []
parts_of (line ∷ lines) = onto line (parts_behind lines)

-- the fault of the first model that has one by itself
abbrev pub models_fault : List (List Line) → Option BlifFault
models_fault parts = first_of (line_fault true []) parts

-- the first of some names, and the empty name where there is none
abbrev pub first_name : List (List ℕ) → List ℕ
first_name names = slice_index_or names 0 []

-- the line and the name of a model: both are those of its `.model`, where there is one
abbrev pub model_line : List Line → ℕ
model_line [] = 0
model_line (line ∷ lines) = cond (is_model (word line)) line.number 0

-- the name that a model's `.model` gives it, and the empty name where it gives none
abbrev pub model_name : List Line → List ℕ
model_name [] = []
model_name (line ∷ lines) = cond (is_model (word line)) (first_name (arguments line)) []

-- a name and the number of the line that it stands in
abbrev pub named : ℕ → List ℕ → Named
named number name = record { line = number; name = name }

-- the inputs that a line names, each with the line
abbrev pub named_inputs : Line → List Named
named_inputs line = map (named line.number) (inputs_in line)

-- the outputs that a line names, each with the line
abbrev pub named_outputs : Line → List Named
named_outputs line = map (named line.number) (outputs_in line)

-- a definition by names
abbrev pub named_definition : ℕ → List (List ℕ) → List (List (List ℕ)) → NamedDef
named_definition number names rows = record {
  line = number;
  inputs = front_of names;
  output = first_name (last_of names);
  on = not (list_any says_zero rows);
  cubes = map plane rows;
}

-- the definition that a line begins, if it begins one; the lines follow it
abbrev pub named_definition_at : Line → List Line → List NamedDef
named_definition_at line lines = elim (word line) [
  | Names ↦ named_definition line.number (arguments line) (rows_before_others lines) ∷ []
  | _ ↦ []
]

-- the definitions that lines begin, in order
abbrev pub named_definitions : List Line → List NamedDef
named_definitions [] = []
named_definitions (line ∷ lines) = named_definition_at line lines ++ named_definitions lines

-- the byte `=`, which stands between the two names of a port
abbrev pub is_equals_sign : ℕ → Bool
is_equals_sign b = b == 61

-- a port of a call, cut at the first `=`: the signal of the model before it, and that of the caller behind it
abbrev pub formal_in : List ℕ → List ℕ
formal_in token = before_first is_equals_sign token

-- the signal of the caller that a port names, behind the first `=`
abbrev pub actual_in : List ℕ → List ℕ
actual_in token = drop (suc (length (formal_in token))) token

-- both names are there
abbrev pub is_port : List ℕ → Bool
is_port token = not (is_empty (formal_in token)) && not (is_empty (actual_in token))

-- the two names of a port, `formal=actual` in the text
abbrev pub port_of : List ℕ → Port
port_of token = record { formal = formal_in token; actual = actual_in token }

-- the port that a token is, if it is one
abbrev pub ports_in : List ℕ → List Port
ports_in token = cond (is_port token) (port_of token ∷ []) []

-- a call of a model: it is well formed where the model's name is there and each port is one
abbrev pub call_of : ℕ → List (List ℕ) → Call
call_of number names = record {
  line = number;
  model = first_name names;
  ports = flat_map ports_in (drop 1 names);
  well_formed = not (is_empty names) && list_all is_port (drop 1 names);
}

-- the call that a line is, if it is a `.subckt`
abbrev pub calls_in : Line → List Call
calls_in line = elim (word line) [ Subckt ↦ call_of line.number (arguments line) ∷ [] | _ ↦ [] ]

-- the model that its lines say
abbrev pub model_of : List Line → BlifModel
model_of lines = record {
  line = model_line lines;
  name = model_name lines;
  inputs = flat_map named_inputs lines;
  outputs = flat_map named_outputs lines;
  defs = named_definitions lines;
  calls = flat_map calls_in lines;
}

-- no model of the text has a fault by itself, and its models are these
pub record SaysModels (text : List ℕ) (models : List BlifModel) : Type 0 where
  pub sound : models_fault (parts_of (logical_lines text)) ≡ None
  pub each : models ≡ map model_of (parts_of (logical_lines text))

-- the first fault of the text's models, each taken by itself
abbrev pub ModelsFault : List ℕ → BlifFault → Type 0
ModelsFault text fault = models_fault (parts_of (logical_lines text)) ≡ Some fault

-- a line calls a model
abbrev pub is_call : Statement → Bool
is_call Subckt = true
is_call _ = false

-- a text with a call or with a second model is a design
abbrev pub is_design : List Line → Bool
is_design lines =
    list_any (λ line. is_call (word line)) lines || nat_lt 1 (count_by (λ line. is_model (word line)) lines)
