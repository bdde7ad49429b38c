-- The netlist that a design says: its first model, in which each call is replaced by the model that it names. Calls are
-- numbered from 1 in the order in which they are reached: those inside a called model before the caller's next.
use Rattle.std.specs.Prelude.{ℕ, zero, suc, ◌+◌, ◌==◌, ◌&&◌, Bool, true, List, [], ◌∷◌, ◌++◌, codes, map, length}
use Rattle.std.specs.Fmt.{decimal}
use Rattle.std.specs.List.{sum_by, position_or_len}
use Rattle.std.specs.Str.{bytes_eq}
use Rattle.blif_read.specs.Parts.{NetView}
use Rattle.blif_read.specs.declared.netlist.Def.{Def}
use Rattle.blif_read.specs.declared.netlist.Cube.{Cube}
use Rattle.blif_read.specs.declared.models.Call.{Call}
use Rattle.blif_read.specs.declared.models.NamedDef.{NamedDef}
use Rattle.blif_read.specs.declared.models.BlifModel.{BlifModel}
use Rattle.blif_flat.specs.Designs.{names_in, called, actual_of, joined_outputs, first_model}

-- a signal of the expanded design: the call that it stands in, 0 for the first model itself, and its name in the model
pub record Wire : Type 0 where
  pub call : ℕ
  pub name : List ℕ

-- the signal of this name in this call
abbrev pub wire : ℕ → List ℕ → Wire
wire call name = record { call = call; name = name }

-- the two signals stand in the same call and have the same name there
abbrev pub same_wire : Wire → Wire → Bool
same_wire a b = a.call == b.call && bytes_eq a.name b.name

-- a definition of a signal by others
pub record WireDef : Type 0 where
  pub line : ℕ
  pub inputs : List Wire
  pub output : Wire
  pub on : Bool
  pub cubes : List Cube

-- a definition of the model that call k expands
abbrev pub own : ℕ → NamedDef → WireDef
own k def = record {
  line = def.line;
  inputs = map (wire k) def.inputs;
  output = wire k def.output;
  on = def.on;
  cubes = def.cubes;
}

-- the signal `to` has the value of the signal `from`
abbrev pub buffer : ℕ → Wire → Wire → WireDef
buffer line from to = record {
  line = line;
  inputs = from ∷ [];
  output = to;
  on = true;
  cubes = record { plane = codes "1" } ∷ [];
}

-- how many calls a model has with those inside them, down chains of fewer models than steps
abbrev pub calls_within : ℕ → List BlifModel → BlifModel → ℕ
calls_within zero models model = 0
calls_within (suc steps) models model = sum_by (λ c. 1 + calls_within steps models (called models c)) model.calls

-- A call in call k, which is call n: buffers from the actuals of its inputs, the model that it names, of which these
-- are the definitions, and buffers to the actuals of its outputs.
abbrev pub expanded_call : List BlifModel → (ℕ → BlifModel → List WireDef) → ℕ → ℕ → Call → List WireDef
expanded_call models of k n call =
    map (λ i. buffer call.line (wire k (actual_of call i)) (wire n i)) (names_in (called models call).inputs)
    ++ of n (called models call)
    ++ map (λ o. buffer call.line (wire n o) (wire k (actual_of call o))) (joined_outputs models call)

-- calls in call k, of which the first is call n
abbrev pub expanded_calls : ℕ → List BlifModel → (ℕ → BlifModel → List WireDef) → ℕ → ℕ → List Call → List WireDef
expanded_calls steps models of k n [] = []
expanded_calls steps models of k n (call ∷ calls) = expanded_call models of k n call
    ++ expanded_calls steps models of k (n + 1 + calls_within steps models (called models call)) calls

-- The definitions of the model that call k expands, down chains of fewer models than steps: its own, and then those of
-- its calls, of which the first is call k + 1.
abbrev pub expanded : ℕ → List BlifModel → ℕ → BlifModel → List WireDef
expanded zero models k model = []
expanded (suc steps) models k model = map (own k) model.defs
    ++ expanded_calls steps models (expanded steps models) k (k + 1) model.calls

-- where no model calls itself, a chain has no more models than there are
abbrev pub definitions : List BlifModel → List WireDef
definitions models = expanded (length models) models 0 (first_model models)

-- the signals in the order of their numbers: the inputs, and then those that are defined
abbrev pub wires : List BlifModel → List Wire
wires models = map (wire 0) (names_in (first_model models).inputs) ++ map (λ d. d.output) (definitions models)

-- the number of a signal of the netlist: its place among the wires
abbrev pub number : List Wire → Wire → ℕ
number wires w = position_or_len (same_wire w) wires

-- a definition of the netlist, with signals by their numbers
abbrev pub numbered : List Wire → WireDef → Def
numbered wires d = record { line = d.line; inputs = map (number wires) d.inputs; on = d.on; cubes = d.cubes }

-- The names that the netlist keeps. A signal of the first model has its own. One inside a call has its number behind
-- `#`, which stands in no name of a text: so names differ, and their size does not grow with the depth of calls.
abbrev pub kept_name : ℕ → Wire → List ℕ
kept_name n w = elim w.call [ zero ↦ w.name | suc k ↦ codes "#" ++ decimal n ]

-- the names that the netlist keeps for signals of which the first has number n
abbrev pub kept_names : ℕ → List Wire → List (List ℕ)
kept_names n [] = []
kept_names n (w ∷ ws) = kept_name n w ∷ kept_names (n + 1) ws

-- the netlist of a design
unfoldable pub expansion : List BlifModel → NetView
expansion models = record {
  inputs = length (first_model models).inputs;
  names = kept_names 0 (wires models);
  defs = map (numbered (wires models)) (definitions models);
  outputs = map (λ o. number (wires models) (wire 0 o)) (names_in (first_model models).outputs);
}

-- The name that a fault tells of a signal: in call k it is `#k.` and its name in the model.
abbrev pub told_name : Wire → List ℕ
told_name w = elim w.call [ zero ↦ w.name | suc k ↦ codes "#" ++ decimal (suc k) ++ codes "." ++ w.name ]
