-- Words of the walk that lists the wires of a design: what a walk has still to list.
use Rattle.std.specs.Prelude.{ℕ, ◌+◌, ◌*◌, Bool, List, [], ◌∷◌, ◌++◌, map, length, Option, Some, None, slice_index_or}
use Rattle.std.specs.List.{sum_by}
use Rattle.std.specs.Borrow.{Bor}
use Rattle.blif_read.specs.Code.Seen.{texts}
use Rattle.blif_read.specs.declared.models.Call.{Call}
use Rattle.blif_read.specs.declared.models.BlifModel.{BlifModel}
use Rattle.blif_flat.specs.Designs.{names_in, called, actual_of, joined_outputs}
use Rattle.blif_flat.specs.Expansion.{Wire, wire, same_wire, calls_within, expanded, expanded_calls}
use Rattle.blif_flat.specs.declared.expansion.wires.Place.{Place}
use Rattle.blif_flat.specs.declared.expansion.wires.Frame.{Frame}
use Rattle.blif_flat.specs.declared.models.links.Link.{Link}
use Rattle.blif_flat.specs.Code.Linked.{calls_in}

-- the wire of a place, and the wires of places
abbrev pub wire_of : Place → Wire
wire_of place = wire place.call place.name.now

-- the wires of places, in order
abbrev pub wires_of : List Place → List Wire
wires_of places = map wire_of places

-- the wires that a call begins with: those of its model's inputs, and of what the model itself defines
abbrev pub begun : ℕ → BlifModel → List Wire
begun k model = map (wire k) (names_in model.inputs ++ map (λ d. d.output) model.defs)

-- the wires of the caller that a call ends with
abbrev pub ended : List BlifModel → ℕ → Call → List Wire
ended models k call = map (λ o. wire k (actual_of call o)) (joined_outputs models call)

-- the same, as a link has them, where one is left
abbrev pub put_in : ℕ → Option (Bor Link) → List Wire
put_in k None = []
put_in k (Some link) = map (wire k) (texts link.now.actuals.items)

-- the links that a table has for a model
abbrev pub links_at : List (List Link) → Option ℕ → List Link
links_at table None = []
links_at table (Some n) = slice_index_or table n []

-- the wires that calls of call k define, of which the first is call n
abbrev pub called_wires : List BlifModel → ℕ → ℕ → List Call → List Wire
called_wires models k n calls =
    map (λ d. d.output) (expanded_calls (length models) models (expanded (length models) models) k n calls)

-- how many calls there are in some calls
abbrev pub call_count : List BlifModel → List Call → ℕ
call_count models calls = sum_by (λ c. 1 + calls_within (length models) models (called models c)) calls

-- what a walk lists from its frames on, nearest first, where the next call has this number
abbrev pub listed_from : List BlifModel → ℕ → List Frame → List Wire
listed_from models n [] = []
listed_from models n (f ∷ fs) = put_in f.call f.left ++ called_wires models f.call n (calls_in f.rest.now)
    ++ listed_from models (n + call_count models (calls_in f.rest.now)) fs

-- and how many turns it takes
abbrev pub turns_from : List BlifModel → List Frame → ℕ
turns_from models frames = sum_by (λ f. 1 + 2 * call_count models (calls_in f.rest.now)) frames

-- the wire of the first model itself that has this name
abbrev pub is_own : List ℕ → Place → Bool
is_own name place = same_wire (wire 0 name) (wire_of place)
