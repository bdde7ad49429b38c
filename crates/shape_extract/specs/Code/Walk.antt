-- The walk that finds nets: a label for each shape, where a number of no shape means none yet, and the labelled shapes
-- in the order in which they were labelled. It is the search by connected components of circuit extractors.
use Rattle.std.specs.Prelude.{◌≡◌, ◌≢◌, ℕ, ◌+◌, ◌*◌, ◌<◌, ◌≤◌, ◌&&◌, Bool, false, cond}
use Rattle.std.specs.Prelude.{List, [], length, slice_index, slice_index_or, sum}
use Rattle.geom.specs.declared.shapes.Shape.{Shape}
use Rattle.layout_rules.specs.Touch.{touch, Touching, Joined}
use Rattle.shape_extract.specs.declared.planes.Plane.{Plane}
use Rattle.shape_extract.specs.declared.connectivity.net_walk.Walk.{Walk}
use Rattle.shape_extract.specs.Planes.{in_plane}
use Rattle.shape_extract.specs.Searches.{SaysWhether}

-- the numbers are those of the shapes that touch shape `from`
pub record AreTouching (shapes : List Shape) (from : ℕ) (numbers : List ℕ) : Type 0 where
  pub each : (p : ℕ) → p < length numbers → Touching shapes from (slice_index numbers p)
  pub complete : (j : ℕ) → Touching shapes from j → (p : ℕ) × ((p < length numbers) × (slice_index numbers p ≡ j))

-- a shape of the plane touches the first, where such are wanted
abbrev pub touches_in : Bool → Plane → Shape → Shape → Bool
touches_in wanted plane from s = wanted && (in_plane plane s && touch from s)

-- a labelled shape is joined to the shape of its label, which is not above it, and has a place in the order; and all in
-- the order are labelled
pub record IsWalk (shapes : List Shape) (labels order : List ℕ) : Type 0 where
  pub long : length labels ≡ length shapes
  pub joined : (k : ℕ) → k < length shapes → slice_index labels k < length shapes
      → Joined shapes k (slice_index labels k)
  pub lower : (k : ℕ) → k < length shapes → slice_index labels k < length shapes → slice_index labels k ≤ k
  pub ordered : (k : ℕ) → k < length shapes → slice_index labels k < length shapes
      → (p : ℕ) × ((p < length order) × (slice_index order p ≡ k))
  pub within : (p : ℕ) → p < length order → slice_index order p < length shapes
  pub labelled : (p : ℕ) → p < length order → slice_index labels (slice_index order p) < length shapes

-- the first n of these numbers are labelled, all new ones as shape `from` is
pub record IsSpreadTo (n : ℕ) (shapes : List Shape) (numbers labels order new more : List ℕ) (from : ℕ) : Type 0 where
  pub walk : IsWalk shapes new more
  pub kept : (k : ℕ) → slice_index labels k < length shapes → slice_index new k ≡ slice_index labels k
  pub reached : (p : ℕ) → p < n → slice_index new (slice_index numbers p) < length shapes
  pub longer : length order ≤ length more
  pub prefix : (p : ℕ) → p < length order → slice_index more p ≡ slice_index order p
  pub marked : (p : ℕ) → length order ≤ p → p < length more
      → slice_index new (slice_index more p) ≡ slice_index labels from
  pub less : 2 * sum new + length more ≤ 2 * sum labels + length order

-- the first shapes of the order have all that they touch labelled as they are
abbrev pub IsDone : List Shape → List ℕ → List ℕ → ℕ → Type 0
IsDone shapes labels order done = (p j : ℕ) → p < done → Touching shapes (slice_index order p) j
    → slice_index labels j ≡ slice_index labels (slice_index order p)

-- the others have this label
abbrev pub AreMarked : List ℕ → List ℕ → ℕ → ℕ → Type 0
AreMarked labels order done mark = (p : ℕ) → done ≤ p → p < length order
    → slice_index labels (slice_index order p) ≡ mark

-- no shape below the label lacks one
abbrev pub IsLowest : List Shape → List ℕ → ℕ → Type 0
IsLowest shapes labels mark = (k : ℕ) → k < mark → slice_index labels k < length shapes

-- some shape touches the one of this number
abbrev pub HasTouching : List Shape → ℕ → Type 0
HasTouching shapes d = (j : ℕ) × Touching shapes d j

-- what was told of shape d: whether some shape touches it; false where nothing was told
abbrev pub is_touched : List Bool → ℕ → Bool
is_touched touched d = slice_index_or touched d false

-- of shape `from` it is told whether some shape touches it, and of the others what was told before
pub record IsTold (shapes : List Shape) (from : ℕ) (touched new : List Bool) : Type 0 where
  pub long : length new ≡ length touched
  pub here : SaysWhether (is_touched new from) (HasTouching shapes from)
  pub kept : (d : ℕ) → d ≢ from → is_touched new d ≡ is_touched touched d

-- of the first n shapes of the order it is told
pub record AreToldTo (n : ℕ) (shapes : List Shape) (order : List ℕ) (touched : List Bool) : Type 0 where
  pub long : length touched ≡ length shapes
  pub each : (p : ℕ) → p < n
      → SaysWhether (is_touched touched (slice_index order p)) (HasTouching shapes (slice_index order p))

-- of each shape it is told whether some shape touches it
pub record AreTold (shapes : List Shape) (touched : List Bool) : Type 0 where
  pub long : length touched ≡ length shapes
  pub each : (d : ℕ) → d < length shapes → SaysWhether (is_touched touched d) (HasTouching shapes d)

-- the net of shape n: by the label of its kind, where some shape touches it, and else itself alone
abbrev pub net_at : List ℕ → List ℕ → List ℕ → List Bool → ℕ → ℕ
net_at numbers places labels touched n =
    cond (is_touched touched (slice_index places n)) (slice_index numbers (slice_index labels (slice_index places n))) n

-- all that touches shape `from` is labelled, new ones as that shape is
pub record IsReached (shapes : List Shape) (labels order new more : List ℕ) (from : ℕ) : Type 0 where
  pub walk : IsWalk shapes new more
  pub kept : (k : ℕ) → slice_index labels k < length shapes → slice_index new k ≡ slice_index labels k
  pub all_reached : (j : ℕ) → Touching shapes from j → slice_index new j < length shapes
  pub longer : length order ≤ length more
  pub prefix : (p : ℕ) → p < length order → slice_index more p ≡ slice_index order p
  pub marked : (p : ℕ) → length order ≤ p → p < length more
      → slice_index new (slice_index more p) ≡ slice_index labels from
  pub less : 2 * sum new + length more ≤ 2 * sum labels + length order

-- a walk over so many shapes has labelled none, and told of none
pub record IsUnbegun (count : ℕ) (w : Walk) : Type 0 where
  pub long : length w.labels.items ≡ count
  pub none : (k : ℕ) → k < count → slice_index w.labels.items k ≡ count
  pub touched : length w.touched.items ≡ count
  pub order : w.order.items ≡ []

-- the walk is done with the first shapes of its order and has told of them, and the others have this label
pub record IsDoneTo (done mark : ℕ) (shapes : List Shape) (w : Walk) : Type 0 where
  pub walk : IsWalk shapes w.labels.items w.order.items
  pub all_done : IsDone shapes w.labels.items w.order.items done
  pub marks : AreMarked w.labels.items w.order.items done mark
  pub within : done ≤ length w.order.items
  pub told : AreToldTo done shapes w.order.items w.touched.items

-- the walk is done with its whole order and has told of it, and what was labelled is still
pub record IsGrown (shapes : List Shape) (before after : Walk) : Type 0 where
  pub grown : IsWalk shapes after.labels.items after.order.items
  pub all_done : IsDone shapes after.labels.items after.order.items (length after.order.items)
  pub told : AreToldTo (length after.order.items) shapes after.order.items after.touched.items
  pub still : (k : ℕ) → slice_index before.labels.items k < length shapes
      → slice_index after.labels.items k < length shapes
