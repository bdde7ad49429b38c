-- The first fault of a line as the program finds it: the faults that it meets one after another, and the one of them
-- that is told. Of a signal that is driven again only the least line before matters.
use Rattle.std.specs.Prelude.{ℕ, suc, ◌||◌, ◌&&◌, ◌==◌, Bool, true, false, cond, not, nat_lt, nat_le, min, max, List}
use Rattle.std.specs.Prelude.{[], ◌∷◌, ◌++◌, Option, Some, None, is_some}
use Rattle.std.specs.List.{flat_map}
use Rattle.std.specs.Str.{bytes_eq}
use Rattle.blif_read.specs.declared.models.Named.{Named}
use Rattle.blif_read.specs.declared.models.Call.{Call}
use Rattle.blif_read.specs.declared.models.BlifModel.{BlifModel}
use Rattle.blif_flat.specs.Designs.{model_number, model_at, driven, used}
use Rattle.blif_flat.specs.DesignFaults.{fits, rank, IsFirstFault, AreJoined}
use Rattle.blif_flat.specs.declared.design.FlatKind.{FlatKind}
use Rattle.blif_flat.specs.declared.design.FlatKind.TheVariants.{ModelTwice, UnknownModel, Ports, Duplicate, Undefined}
use Rattle.blif_flat.specs.declared.faults.order.Told.{Told}
use Rattle.blif_flat.specs.declared.faults.drivers.Drivers.{Drivers}
use Rattle.blif_flat.specs.Code.Numbering.{number_in}

-- the fault of this kind in this line
abbrev pub at_line : ℕ → FlatKind → Told
at_line line kind = record { line = line; kind = kind }

-- this fault is told before the other, or as well as it
abbrev pub is_before : Told → Told → Bool
is_before told other = nat_lt told.line other.line
    || (told.line == other.line && nat_le (rank told.kind) (rank other.kind))

-- of the best so far, where there is one, and of this fault the one that is told
abbrev pub least : Option Told → Told → Option Told
least None told = Some told
least (Some best) told = Some (cond (is_before best told) best told)

-- the one that is told of these and of the best so far
abbrev pub least_of : Option Told → List Told → Option Told
least_of best [] = best
least_of best (told ∷ more) = least_of (least best told) more

-- a fault where a test says so
abbrev pub where_so : Bool → ℕ → FlatKind → List Told
where_so true line kind = at_line line kind ∷ []
where_so false line kind = []

-- a model of a lower number has the name of this one
abbrev pub is_twice : List BlifModel → ℕ → BlifModel → Bool
is_twice models n model = elim (model_number models model.name) [ None ↦ false | Some first ↦ nat_lt first n ]

-- models from number n on that have the name of an earlier one
abbrev pub twice_named : List BlifModel → ℕ → List BlifModel → List Told
twice_named models n [] = []
twice_named models n (m ∷ ms) = where_so (is_twice models n m) m.line ModelTwice ++ twice_named models (suc n) ms

-- a call that names no model, or whose ports don't fit
abbrev pub call_faults : List BlifModel → Call → List Told
call_faults models call = elim (model_number models call.model) [
  | None ↦ at_line call.line UnknownModel ∷ []
  | Some n ↦ where_so (not (fits (model_at models (Some n)) call)) call.line Ports
]

-- the least line in which each name is driven, and the best fault so far
pub record Driving : Type 0 where
  pub lines : List ℕ → Option ℕ
  pub told : Option Told

-- the lesser of two lines, where there is a first
abbrev pub lower : Option ℕ → ℕ → ℕ
lower None line = line
lower (Some least) line = min least line

-- the least line in which each name is driven, where one more line drives a signal
abbrev pub driven_also : (List ℕ → Option ℕ) → Named → List ℕ → Option ℕ
driven_also lines n name = cond (bytes_eq n.name name) (Some (lower (lines name) n.line)) (lines name)

-- a signal that is driven again, in the later of the two lines
abbrev pub again : Option ℕ → ℕ → List Told
again None line = []
again (Some least) line = at_line (max least line) Duplicate ∷ []

-- one more signal is driven, which is a fault where it was driven before
abbrev pub drive : Driving → Named → Driving
drive d n = record { lines = driven_also d.lines n; told = least_of d.told (again (d.lines n.name) n.line) }

-- these signals are driven, one after another
abbrev pub drive_all : Driving → List Named → Driving
drive_all d [] = d
drive_all d (n ∷ ns) = drive_all (drive d n) ns

-- uses of names that nothing drives
abbrev pub undefined_at : (List ℕ → Option ℕ) → Named → List Told
undefined_at lines n = where_so (not (is_some (lines n.name))) n.line Undefined

-- the faults of these uses, whose names nothing drives
abbrev pub undefined_in : (List ℕ → Option ℕ) → List Named → List Told
undefined_in lines uses = flat_map (undefined_at lines) uses

-- what the program keeps of the signals that are driven
abbrev pub driving : Drivers → Driving
driving d = record { lines = number_in d.lines.entries; told = d.told }

-- nothing is driven yet
abbrev pub undriven : Option Told → Driving
undriven best = record { lines = λ name. None; told = best }

-- the best fault behind those of a model: of its calls, of what it drives, and of what it uses
abbrev pub told_behind : Driving → List Named → Option Told
told_behind d uses = least_of d.told (undefined_in d.lines uses)

-- the best fault so far behind those of one more model
abbrev pub model_told : List BlifModel → Option Told → BlifModel → Option Told
model_told models best model = told_behind
    (drive_all (undriven (least_of best (flat_map (call_faults models) model.calls))) (driven models model))
    (used models model)

-- the best fault so far behind those of these models
abbrev pub told_in : List BlifModel → Option Told → List BlifModel → Option Told
told_in models best [] = best
told_in models best (m ∷ ms) = told_in models (model_told models best m) ms

-- the first fault of a line, or that there is none
abbrev pub IsTold : List BlifModel → Option Told → Type 0
IsTold models None = AreJoined models
IsTold models (Some told) = IsFirstFault models told.line told.kind
