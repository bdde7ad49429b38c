-- Shapes filed by kinds: equal shapes are of one kind, which goes by its least number.
use Rattle.std.specs.Prelude.{◌≡◌, ℕ, ◌<◌, ◌≤◌, List, length, slice_index}
use Rattle.geom.specs.declared.shapes.Shape.{Shape}
use Rattle.shape_extract.specs.Chains.{AreChains}
use Rattle.shape_extract.specs.Distinct.{ArePlaces, IsDistinct, kinds_at}
use Rattle.shape_extract.specs.Planes.{ArePlanes}
use Rattle.shape_extract.specs.declared.filed_shapes.FiledShapes.{FiledShapes}

-- the numbers, rising, are the least of their kinds; each shape has the place of its kind among them
pub record AreFirsts (numbers places : List ℕ) : Type 0 where
  pub below : (k : ℕ) → k < length numbers → slice_index numbers k < length places
  pub rising : (j k : ℕ) → j < k → k < length numbers → slice_index numbers j < slice_index numbers k
  pub own : (k : ℕ) → k < length numbers → slice_index places (slice_index numbers k) ≡ k
  pub within : (n : ℕ) → n < length places → slice_index places n < length numbers
  pub least : (n : ℕ) → n < length places → slice_index numbers (slice_index places n) ≤ n

-- the shapes are filed
pub record IsFiled (shapes : List Shape) (filed : FiledShapes) : Type 0 where
  pub distinct : IsDistinct shapes filed.kinds.numbers.items (kinds_at shapes filed.kinds.numbers.items)
  pub places : ArePlaces shapes filed.kinds.numbers.items filed.kinds.places.items
  pub firsts : AreFirsts filed.kinds.numbers.items filed.kinds.places.items
  pub planes : ArePlanes (kinds_at shapes filed.kinds.numbers.items) filed.planes
  pub next : AreChains filed.kinds.places.items filed.next.items
