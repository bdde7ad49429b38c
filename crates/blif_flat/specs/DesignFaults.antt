-- The faults of a design: which there are, and which is told. Those of a line come first, by the least line and then by
-- kind; then a call that leads back to a model that it stands in; then a first model without outputs.
use Rattle.std.specs.Prelude.{◌≡◌, ◌≢◌, ◌⊎◌, ℕ, ◌+◌, ◌<◌, ◌≤◌, ◌==◌, Bool, false, cond, not, ◌&&◌, List, [], ◌∷◌, ◌++◌}
use Rattle.std.specs.Prelude.{length, max, Contains, Option, Some, None, slice_get, slice_index_or}
use Rattle.std.specs.List.{flat_map, list_all}
use Rattle.blif_read.specs.Parts.{is_defined}
use Rattle.blif_read.specs.Faults.{adds_again}
use Rattle.blif_read.specs.Walk.{closes}
use Rattle.blif_read.specs.declared.models.Named.{Named}
use Rattle.blif_read.specs.declared.models.Call.{Call}
use Rattle.blif_read.specs.declared.models.BlifModel.{BlifModel}
use Rattle.blif_flat.specs.Designs.{names_in, model_number, called, driven, used, formals}
use Rattle.blif_flat.specs.declared.design.FlatKind.{FlatKind}
use Rattle.blif_flat.specs.declared.design.FlatKind.TheVariants.{ModelTwice, UnknownModel, Ports, Duplicate, Undefined}
use Rattle.blif_flat.specs.declared.design.FlatKind.TheVariants.{Recursive, NoOutputs}

-- a model has the name of an earlier one
pub record IsModelTwice (models : List BlifModel) (line : ℕ) : Type 0 where
  pub earlier : ℕ
  pub later : ℕ
  pub first : BlifModel
  pub second : BlifModel
  pub before : earlier < later
  pub is_first : slice_get models earlier ≡ Some first
  pub is_second : slice_get models later ≡ Some second
  pub name : first.name ≡ second.name
  pub named : second.name ≢ []
  pub at : second.line ≡ line

-- a call of some model
pub record HasCall (models : List BlifModel) (call : Call) : Type 0 where
  pub model : BlifModel
  pub among : Contains models model
  pub there : Contains model.calls call

-- a call names no model
pub record IsUnknown (models : List BlifModel) (line : ℕ) : Type 0 where
  pub call : Call
  pub there : HasCall models call
  pub none : model_number models call.model ≡ None
  pub at : call.line ≡ line

-- The ports of a call fit a model: each is well formed, is an input or an output of the model and stands once, each
-- input has one, and no input is an output too.
abbrev pub fits : BlifModel → Call → Bool
fits model call = call.well_formed
    && list_all (λ p. is_defined (names_in model.inputs ++ names_in model.outputs) p.formal) call.ports
    && not (adds_again [] (formals call))
    && list_all (λ n. is_defined (formals call) n.name) model.inputs
    && list_all (λ n. not (is_defined (names_in model.outputs) n.name)) model.inputs

-- the ports of a call don't fit the model that it names
pub record HasPorts (models : List BlifModel) (line : ℕ) : Type 0 where
  pub call : Call
  pub there : HasCall models call
  pub wrong : fits (called models call) call ≡ false
  pub at : call.line ≡ line

-- a signal of some model is driven twice, the second time in this line
pub record IsDrivenTwice (models : List BlifModel) (line : ℕ) : Type 0 where
  pub model : BlifModel
  pub one : ℕ
  pub other : ℕ
  pub first : Named
  pub second : Named
  pub among : Contains models model
  pub apart : one < other
  pub is_first : slice_get (driven models model) one ≡ Some first
  pub is_second : slice_get (driven models model) other ≡ Some second
  pub name : first.name ≡ second.name
  pub at : max first.line second.line ≡ line

-- some model uses a signal that nothing drives
pub record IsUndefined (models : List BlifModel) (line : ℕ) : Type 0 where
  pub model : BlifModel
  pub taken : Named
  pub among : Contains models model
  pub there : Contains (used models model) taken
  pub undriven : is_defined (names_in (driven models model)) taken.name ≡ false
  pub at : taken.line ≡ line

-- the faults that belong to a line
abbrev pub HasFault : List BlifModel → ℕ → FlatKind → Type 0
HasFault models line ModelTwice = IsModelTwice models line
HasFault models line UnknownModel = IsUnknown models line
HasFault models line Ports = HasPorts models line
HasFault models line Duplicate = IsDrivenTwice models line
HasFault models line Undefined = IsUndefined models line
HasFault models line Recursive = ⊥
HasFault models line NoOutputs = ⊥

-- the order in which faults of one line are told
abbrev pub rank : FlatKind → ℕ
rank ModelTwice = 0
rank UnknownModel = 1
rank Ports = 2
rank Duplicate = 3
rank Undefined = 4
rank Recursive = 5
rank NoOutputs = 6

-- this fault of a line is told before that one, or is that one
abbrev pub IsToldBefore : ℕ → FlatKind → ℕ → FlatKind → Type 0
IsToldBefore line kind other late = line < other ⊎ ((line ≡ other) × (rank kind ≤ rank late))

-- the first fault of a line
pub record IsFirstFault (models : List BlifModel) (line : ℕ) (kind : FlatKind) : Type 0 where
  pub is : HasFault models line kind
  pub first : (other : ℕ) (late : FlatKind) → HasFault models other late → IsToldBefore line kind other late

-- no line has a fault
abbrev pub AreJoined : List BlifModel → Type 0
AreJoined models = (line : ℕ) (kind : FlatKind) → HasFault models line kind → ⊥

-- the numbers of the models that a model calls, call by call
abbrev pub number_in : Option ℕ → List ℕ
number_in None = []
number_in (Some n) = n ∷ []

-- the calls of model n; none past the last model
abbrev pub calls_of : List BlifModel → ℕ → List Call
calls_of models n = elim (slice_get models n) [ None ↦ [] | Some model ↦ model.calls ]

-- the models that model n calls, by number, call by call; calls that name no model are left out
abbrev pub callees : List BlifModel → ℕ → List ℕ
callees models n = flat_map (λ c. number_in (model_number models c.model)) (calls_of models n)

-- the models through which a walk from the first model, by its calls in order, first comes back to where it was
abbrev pub loop_of : List BlifModel → Option (List ℕ)
loop_of models = closes (callees models) (length models + 1) [] 0

-- the line of the call that closes a loop: the first by which the last of its models calls the first
abbrev pub last_of_loop : List ℕ → ℕ
last_of_loop [] = 0
last_of_loop (n ∷ []) = n
last_of_loop (n ∷ m ∷ loop) = last_of_loop (m ∷ loop)

-- the line of the first of these calls that names model n; 0 where none does
abbrev pub line_to : List BlifModel → ℕ → List Call → ℕ
line_to models n [] = 0
line_to models n (call ∷ calls) = elim (model_number models call.model) [
  | None ↦ line_to models n calls
  | Some m ↦ cond (m == n) call.line (line_to models n calls)
]

-- the line of the call that closes this loop
abbrev pub loop_line : List BlifModel → List ℕ → ℕ
loop_line models loop = line_to models (slice_index_or loop 0 0) (calls_of models (last_of_loop loop))

-- a call of this line closes the first loop
pub record IsRecursive (models : List BlifModel) (line : ℕ) : Type 0 where
  pub loop : List ℕ
  pub first : loop_of models ≡ Some loop
  pub at : loop_line models loop ≡ line
