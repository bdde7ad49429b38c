-- The skew of a drawing is within a limit that its width and its channels give.
use Rattle.std.proofs.Common.{◌≡◌, ℕ, zero, suc, ◌+◌, ◌<◌, ◌≤◌, sym, ap, subst, ◌∙◌, arith, inl, inr, refl, List, []}
use Rattle.std.proofs.Common.{◌∷◌}
use Rattle.std.proofs.Common.{Some, slice_get, length}
use Rattle.std.specs.List.{AllZip}
use Rattle.std.proofs.lemmas.Bool.{eqb-true}
use Rattle.std.proofs.lemmas.Option.{same_Some, slice_get_cases}
use Rattle.cell_library.specs.Library.{LibraryView}
use Rattle.geom.specs.declared.shapes.Shape.{Shape}
use Rattle.layout_rules.specs.LinePlaces.{IsPlaced}
use Rattle.layout_rules.specs.Rows.{row_of}
use Rattle.rowed.specs.PlacedNets.{PlacedView}
use Rattle.circuit_extracted.specs.declared.cells.ExCell.{ExCell}
use Rattle.circuit_extracted.specs.declared.cells.Feed.TheVariants.{Pin}
use Rattle.circuit_extracted.specs.Circuits.{CircuitView, IsCellAt, IsFed, IsFeedOf, IsOutputBelow, KeepsFacts}
use Rattle.shape_extract.specs.CellPlaces.{AreCellPlaces}
use Rattle.shape_extract.specs.Extraction.{IsCellFrom, IsCircuitOf}
use Rattle.shape_extract.proofs.OneOrder.{one_order}
use Rattle.pulse_sim.specs.Travelling.{IsSkewAtMost}
use Rattle.layout_make.specs.CellsAreDrawn.{CellsAreDrawn}
use Rattle.layout_make.specs.Laws.{Is, flat_shapes, FrameAt}
use Rattle.layout_make.specs.LineWays.{way_to, skew_limit}
use Rattle.layout_make.specs.MayDraw.{MayDraw}
use Rattle.layout_make.specs.Tags.{sheet}
use Rattle.layout_make.proofs.Ready.{TracksLaw, may_ready, lawful}
use Rattle.layout_make.proofs.Whole.{spot_row}
use Rattle.layout_make.proofs.Wiring.{flat, frame_row}

-- what is said of the ways along the lines of a drawing
pub record WayLaws (p : PlacedView) (l : LibraryView) : Type 0 where
  pub cells : (r n f near far : ℕ) (frame : Shape) → FrameAt p l r n f → Is (flat_shapes p l) f frame
      → IsPlaced (flat_shapes p l) frame near far
      → (way_to (sheet p l) (suc r) ≤ near) × (far ≤ way_to (sheet p l) (suc r) + (sheet p l).right)
  pub rows : (r : ℕ) → r < length p.net.rows
      → (way_to (sheet p l) (suc r) + (sheet p l).right ≤ way_to (sheet p l) (suc (suc r)) + skew_limit (sheet p l))
      × (way_to (sheet p l) (suc (suc r)) + (sheet p l).right ≤ way_to (sheet p l) (suc r) + skew_limit (sheet p l))

beside : {A B : Type 0} (R : A → B → Type 0) (xs : List A) (ys : List B) → AllZip R xs ys → (c : ℕ) (x : A)
    → slice_get xs c ≡ Some x → (y : B) × (slice_get ys c ≡ Some y) × R x y
beside R [] ys all c x e = absurd cc
beside R (a ∷ xs) [] all c x e = absurd all
beside R (a ∷ xs) (b ∷ ys) all zero x e = (b, refl, subst (λ (z : _). R z b) (same_Some _ _ e) all.0)
beside R (a ∷ xs) (b ∷ ys) all (suc c) x e = beside R xs ys all.1 c x e

module _ (p : PlacedView) (l : LibraryView) (law : TracksLaw) (cells : CellsAreDrawn p l) (ways : WayLaws p l)
    (may : MayDraw p l) (circuit : CircuitView) (near far : ℕ → ℕ) (is : IsCircuitOf (flat p l) circuit)
    (places : AreCellPlaces (flat_shapes p l) near far) (keeps : KeepsFacts circuit) where
  -- the row of a frame, and where its cell lies
  record Lies (c f : ℕ) : Type 0 where
    row : ℕ
    shape : Shape
    there : Is (flat_shapes p l) f shape
    below : row < length p.net.rows
    row_is : row_of (flat_shapes p l) shape.rect.y0 ≡ row
    low : way_to (sheet p l) (suc row) ≤ near c
    high : far c ≤ way_to (sheet p l) (suc row) + (sheet p l).right

  lies : (c f : ℕ) → slice_get places.frames c ≡ Some f → Lies c f
  lies c f e =
      let passes = places.are_frames.only c f e in
      let of = cells.each_frame f passes.shape passes.shape_is (eqb-true passes.shape.layer 20 passes.passes_so) in
      let at = of.2 in
      let way = ways.cells of.0 of.1 f (near c) (far c) passes.shape at passes.shape_is
      (places.placed c f passes.shape e passes.shape_is) in
      record {
        row = of.0;
        shape = passes.shape;
        there = passes.shape_is;
        below = spot_row p of.0 at.spot (of.1, at.place);
        row_is = frame_row p l (may_ready p l law may) (lawful l may.library) f of.0 at.spot.slot
            at.spot.cell.kind passes.shape at.at passes.shape_is;
        low = way.0;
        high = way.1;
      }

  -- where a cell of the circuit lies
  record Stands (c : ℕ) (cell : ExCell) : Type 0 where
    below : cell.row < length p.net.rows
    low : way_to (sheet p l) (suc cell.row) ≤ near c
    high : far c ≤ way_to (sheet p l) (suc cell.row) + (sheet p l).right

  stands : (c : ℕ) (cell : ExCell) → IsCellAt circuit c cell → Stands c cell
  stands c cell e =
      let b = beside (IsCellFrom (flat p l) is.frames) circuit.cells is.frames is.cells c cell e in
      let same : is.frames ≡ places.frames = one_order (flat_shapes p l) is.frames places.frames is.are_frames
      places.are_frames in
      let at = lies c b.0 (ap (λ (fs : List ℕ). slice_get fs c) (sym same) ∙ b.1) in
      let shape : at.shape ≡ b.2.frame = same_Some _ _ (sym at.there ∙ b.2.frame_is) in
      let row : at.row ≡ cell.row = sym at.row_is ∙ ap (λ (s : Shape). row_of (flat_shapes p l) s.rect.y0) shape
      ∙ sym b.2.row_is in
      record {
        below = subst (λ (r : ℕ). r < length p.net.rows) row at.below;
        low = subst (λ (r : ℕ). way_to (sheet p l) (suc r) ≤ near c) row at.low;
        high = subst (λ (r : ℕ). far c ≤ way_to (sheet p l) (suc r) + (sheet p l).right) row at.high;
      }

  own : (c : ℕ) → far c ≤ near c + skew_limit (sheet p l)
  own c = elim (slice_get_cases places.frames c).1 [
    | inl there ↦ let at = lies c there.0 there.2 in omega (arith, at.low, at.high)
    | inr past ↦ let none = places.no_more c past.0 in omega (arith, none.0, none.1)
  ]

  -- a cell and the cell that feeds it stand in neighbouring rows
  fed_near : (c i d output : ℕ) → IsFed circuit c i (Pin d output)
      → (far d ≤ near c + skew_limit (sheet p l)) × (far c ≤ near d + skew_limit (sheet p l))
  fed_near c i d output fed =
      let from : IsOutputBelow circuit fed.cell.row (record { cell = d; output = output }) =
      subst (IsFeedOf circuit fed.cell.row) fed.feed_is ((keeps.cells c fed.cell fed.cell_is).each_feed i) in
      let upper = stands c fed.cell fed.cell_is in
      let lower = stands d from.cell from.cell_is in
      let next : suc from.cell.row ≡ fed.cell.row = omega (arith, from.just_below) in
      let rows = ways.rows from.cell.row lower.below in
      let there : way_to (sheet p l) (suc (suc from.cell.row)) ≡ way_to (sheet p l) (suc fed.cell.row) =
      ap (λ (n : ℕ). way_to (sheet p l) (suc n)) next in (
        omega (arith, lower.high, rows.0, there, upper.low),
        omega (arith, upper.high, rows.1, there, lower.low),
      )

  pub at_most : IsSkewAtMost circuit near far (skew_limit (sheet p l))
  at_most = record {
    own = own;
    up = λ c i d output fed. (fed_near c i d output fed).0;
    down = λ c i d output fed. (fed_near c i d output fed).1;
  }
