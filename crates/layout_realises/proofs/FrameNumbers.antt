-- The numbers of the frames of a drawing, by the cells of the placed net.
use Rattle.std.specs.Prelude.{ℕ, suc, ◌==◌, ◌&&◌, Bool, false, cond, List, [], ◌∷◌, length, map}
use Rattle.std.specs.List.{flat_map}
use Rattle.circuit.specs.CellKinds.{number_of}
use Rattle.sorting.specs.Numbers.{numbers}
use Rattle.rowed.specs.PlacedNets.{PlacedView}
use Rattle.cell_library.specs.Library.{LibraryView}
use Rattle.layout_make.specs.Sheet.{Tag, Frame, InPin, OutPin, Lead, Bar, Rise, Fall, Across, FromVia, ToVia}
use Rattle.layout_make.specs.Spots.{spots}
use Rattle.layout_make.specs.declared.spots.Spot.{Spot}
use Rattle.layout_make.specs.Tags.{tags}

abbrev pub is_frame_of : ℕ → Spot → Tag → Bool
is_frame_of r x (Frame q slot k) = q == r && slot == x.slot && number_of k == number_of x.cell.kind
is_frame_of r x (InPin q c i) = false
is_frame_of r x (OutPin q c i) = false
is_frame_of r x (Lead q) = false
is_frame_of r x (Bar q) = false
is_frame_of r x (Rise q c) = false
is_frame_of r x (Fall q c) = false
is_frame_of r x (Across q c) = false
is_frame_of r x (FromVia q c) = false
is_frame_of r x (ToVia q c) = false

abbrev pub first_place : (Tag → Bool) → List Tag → ℕ
first_place test [] = 0
first_place test (t ∷ ts) = cond (test t) 0 (suc (first_place test ts))

abbrev pub frame_number : PlacedView → LibraryView → ℕ → Spot → ℕ
frame_number p l r x = first_place (is_frame_of r x) (tags p l)

abbrev pub frame_row : PlacedView → LibraryView → ℕ → List ℕ
frame_row p l r = map (frame_number p l r) (spots p r)

abbrev pub frame_numbers : PlacedView → LibraryView → List ℕ
frame_numbers p l = flat_map (frame_row p l) (numbers 0 (length p.net.rows))
