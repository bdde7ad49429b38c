-- The place of each frame among the frames in order, written frame by frame.
use Rattle.std.proofs.Common.{◌≡◌, ℕ, ◌+◌, ◌<◌, ◌≤◌, inl, inr, List, length, Some, sym, ap, ◌∙◌, arith}
use Rattle.std.specs.Prelude.{slice_get, slice_index, slice_set}
use Rattle.std.proofs.Math.ListN.{length-set}
use Rattle.std.proofs.lemmas.Bool.{cases_eq}
use Rattle.std.proofs.lemmas.List.{get_or-set_same, get_or-set_other}
use Rattle.std.proofs.lemmas.Option.{slice_get_within, slice_get-get_or, get_or_from_slice_get}
use Rattle.geom.specs.declared.shapes.Shape.{Shape}
use Rattle.shape_extract.specs.Frames.{AreFrames}
use Rattle.shape_extract.specs.Code.Corners.{ArePlaces}
use Rattle.shape_extract.proofs.OneOrder.{one_place}

-- the places of the first frames are written
pub record PlacesBelow (n : ℕ) (shapes : List Shape) (frames places : List ℕ) : Type 0 where
  pub long : length places ≡ length shapes
  pub at : (c f : ℕ) → c < n → slice_get frames c ≡ Some f → slice_get places f ≡ Some c

-- a frame is a shape
pub frame_within : (shapes : List Shape) (frames : List ℕ) → AreFrames shapes frames → (c : ℕ) → c < length frames
    → slice_index frames c < length shapes
frame_within shapes frames are c lt =
    let passes = are.only c (slice_index frames c) (slice_get-get_or frames c 0 lt) in
    slice_get_within shapes (slice_index frames c) passes.shape passes.shape_is

-- reads after a write
pub read_same : {X : Type 0} (xs : List X) (i j : ℕ) (v : X) → i < length xs → j ≡ i
    → slice_get (slice_set xs i v) j ≡ Some v
read_same xs i j v lt e = ap (slice_get (slice_set xs i v)) e
    ∙ (slice_get-get_or (slice_set xs i v) i v (omega (arith, length-set xs i v))
    ∙ ap Some (get_or-set_same xs i v v lt))

pub read_other : {X : Type 0} (xs : List X) (i j : ℕ) (v x : X) → (j ≡ i → ⊥) → slice_get xs j ≡ Some x
    → slice_get (slice_set xs i v) j ≡ Some x
read_other xs i j v x ne is =
    let lt : j < length xs = slice_get_within xs j x is in
    slice_get-get_or (slice_set xs i v) j v (omega (arith, length-set xs i v))
    ∙ ap Some (get_or-set_other xs i j v v ne ∙ get_or_from_slice_get xs j x v is)

pub places_more : (shapes : List Shape) (frames places : List ℕ) (n : ℕ) → AreFrames shapes frames → n < length frames
    → PlacesBelow n shapes frames places → PlacesBelow (n + 1) shapes frames (slice_set places (slice_index frames n) n)
places_more shapes frames places n are lt below =
    let here : slice_get frames n ≡ Some (slice_index frames n) = slice_get-get_or frames n 0 lt in
    let within : slice_index frames n < length places =
    omega (arith, frame_within shapes frames are n lt, below.long) in
    record {
      long = length-set places (slice_index frames n) n ∙ below.long;
      at = λ c f c_lt is. elim (cases_eq c n) [
        | inl e ↦ (let same : f ≡ slice_index frames n = sym (get_or_from_slice_get frames c f 0 is)
            ∙ ap (slice_index frames) e in read_same places (slice_index frames n) f n within same ∙ ap Some (sym e))
        | inr ne ↦ read_other places (slice_index frames n) f n c
            (λ e. ne (one_place shapes frames are c n f is (here ∙ ap Some (sym e)))) (below.at c f (omega arith) is)
      ];
    }

pub places_all : (shapes : List Shape) (frames places : List ℕ) (n : ℕ) → length frames ≤ n
    → PlacesBelow n shapes frames places → ArePlaces frames places
places_all shapes frames places n all below c f is =
    (let lt : c < length frames = slice_get_within frames c f is in below.at c f (omega arith) is)
