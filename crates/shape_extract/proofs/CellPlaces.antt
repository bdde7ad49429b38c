-- Each cell of a layout lies in one place along its excitation line.
use Rattle.std.proofs.Common.{◌≡◌, ℕ, ◌≤◌, inl, inr, true, List, length, Some, refl, sym, ap, subst, ◌∙◌, arith}
use Rattle.std.specs.Prelude.{slice_get}
use Rattle.std.proofs.lemmas.Option.{same_Some, slice_get_cases, slice_get_within}
use Rattle.geom.specs.declared.shapes.Shape.{Shape}
use Rattle.geom.specs.declared.shapes.Flat.{Flat}
use Rattle.geom.specs.Rectangle.{overlap}
use Rattle.layout_rules.specs.Layers.{is_frame}
use Rattle.layout_rules.specs.Reports.{ReportsNone, Alone, Passes}
use Rattle.layout_rules.specs.ExcitationLines.{BarHasPhase}
use Rattle.layout_rules.specs.ExcitationRule.{ExcitationBroken, IsCutOff, AreLaidOut, IsExcited}
use Rattle.layout_rules.specs.LinePlaces.{IsPlaced}
use Rattle.layout_rules.proofs.LinesAgree.{laid_out, none_cut_off, each_excited}
use Rattle.layout_rules.proofs.Deciding.{settled}
use Rattle.circuit_extracted.specs.Circuits.{CircuitView}
use Rattle.shape_extract.specs.Extraction.{IsCellFrom, IsCircuitOf}
use Rattle.shape_extract.specs.CellPlaces.{AreCellPlaces}
use Rattle.shape_extract.proofs.KeptFacts.{Beside, beside, zip_long}
use Rattle.shape_extract.proofs.OneOrder.{one_order}

-- what the rules say of a frame under a bar
abbrev pub HavePlaces : List Shape → Type 0
HavePlaces shapes = (frame : Shape) (bar phase : ℕ) (has : BarHasPhase shapes bar phase)
    → overlap has.is_bar.shape.rect frame.rect ≡ true → (near : ℕ) × (far : ℕ) × IsPlaced shapes frame near far

abbrev pub HaveOnePlace : List Shape → Type 0
HaveOnePlace shapes = (frame : Shape) (near far other_near other_far : ℕ) → AreLaidOut shapes
    → ReportsNone (Alone (IsCutOff shapes)) → IsExcited shapes frame → IsPlaced shapes frame near far
    → IsPlaced shapes frame other_near other_far → (near ≡ other_near) × (far ≡ other_far)

-- the place of the cell of one number
record PlaceOf (shapes : List Shape) (frames : List ℕ) (c : ℕ) : Type 0 where
  near : ℕ
  far : ℕ
  placed : (f : ℕ) (frame : Shape) → slice_get frames c ≡ Some f → slice_get shapes f ≡ Some frame
      → IsPlaced shapes frame near far
  no_more : length frames ≤ c → (near ≡ 0) × (far ≡ 0)

module _ (flat : Flat) (circuit : CircuitView) (is : IsCircuitOf flat circuit) where
  module _ (have : HavePlaces flat.shapes) where
    place_of : (c : ℕ) → PlaceOf flat.shapes is.frames c
    place_of c = elim (slice_get_cases is.frames c).1 [
      | inl there ↦
          let b : Beside (IsCellFrom flat is.frames) circuit.cells is.frames c =
          beside (IsCellFrom flat is.frames) circuit.cells is.frames is.cells c
          (omega (arith, there.1, zip_long (IsCellFrom flat is.frames) circuit.cells is.frames is.cells)) in
          let p = have b.holds.frame b.holds.excited.number b.left.phase b.holds.excited.bar b.holds.excited.over in
          record {
            near = p.0;
            far = p.1;
            placed = λ f frame at got.
                let number : b.right ≡ f = same_Some b.right f (sym b.right_is ∙ at) in
                let shape : b.holds.frame ≡ frame = same_Some b.holds.frame frame
                (sym b.holds.frame_is ∙ ap (λ (n : ℕ). slice_get flat.shapes n) number ∙ got) in
                subst (λ (s : Shape). IsPlaced flat.shapes s p.0 p.1) shape p.2;
            no_more = λ le. absurd (omega (arith, there.1));
          }
      | inr past ↦ record {
        near = 0;
        far = 0;
        placed = λ f frame at got. absurd (omega (arith, slice_get_within is.frames c f at, past.0));
        no_more = λ le. (refl, refl);
      }
    ]

    pub some_places : (near : ℕ → ℕ) × (far : ℕ → ℕ) × AreCellPlaces flat.shapes near far
    some_places = (
      λ c. (place_of c).near,
      λ c. (place_of c).far,
      record {
        frames = is.frames;
        are_frames = is.are_frames;
        placed = λ c. (place_of c).placed;
        no_more = λ c. (place_of c).no_more;
      },
    )

  pub none_past : (near far : ℕ → ℕ) → AreCellPlaces flat.shapes near far → (c : ℕ) → length circuit.cells ≤ c
      → (near c ≡ 0) × (far c ≡ 0)
  none_past near far places c le =
      let long = zip_long (IsCellFrom flat is.frames) circuit.cells is.frames is.cells in
      let same : length is.frames ≡ length places.frames =
      ap (λ (fs : List ℕ). length fs) (one_order flat.shapes is.frames places.frames is.are_frames places.are_frames) in
      places.no_more c (omega arith)

module _ (shapes : List Shape) where
  pub in_turn : (near far : ℕ → ℕ) → AreCellPlaces shapes near far → (c : ℕ) → near c ≤ far c
  in_turn near far places c = elim (slice_get_cases places.frames c).1 [
    | inl there ↦
        let passes = places.are_frames.only c there.0 there.2 in
        omega (arith, (places.placed c there.0 passes.shape there.2 passes.shape_is).far_is)
    | inr past ↦ (let none = places.no_more c past.0 in omega (arith, none.0, none.1))
  ]

  module _ (kept : ReportsNone (ExcitationBroken shapes)) (have : HaveOnePlace shapes) where
    -- what would follow for excited frames follows for all, since none is found that is not excited
    one_frame_place : (f : ℕ) (passes : Passes is_frame shapes f) (near far other_near other_far : ℕ)
        → IsPlaced shapes passes.shape near far → IsPlaced shapes passes.shape other_near other_far
        → (near ≡ other_near) × (far ≡ other_far)
    one_frame_place f passes near far other_near other_far first second = (
      settled near other_near (λ ne. none (λ e. ne (same e).0)),
      settled far other_far (λ ne. none (λ e. ne (same e).1)),
    )
      where
        none : (IsExcited shapes passes.shape → ⊥) → ⊥
        none not_so = each_excited shapes kept f (record { frame = passes; not_so = not_so })

        same : IsExcited shapes passes.shape → (near ≡ other_near) × (far ≡ other_far)
        same excited = have passes.shape near far other_near other_far (laid_out shapes kept) (none_cut_off shapes kept)
            excited first second

    pub one_places : (near far other_near other_far : ℕ → ℕ) → AreCellPlaces shapes near far
        → AreCellPlaces shapes other_near other_far → (c : ℕ) → (near c ≡ other_near c) × (far c ≡ other_far c)
    one_places near far other_near other_far p q c =
        let same : p.frames ≡ q.frames = one_order shapes p.frames q.frames p.are_frames q.are_frames in
        elim (slice_get_cases p.frames c).1 [
          | inl there ↦
              let passes = p.are_frames.only c there.0 there.2 in
              one_frame_place there.0 passes (near c) (far c) (other_near c) (other_far c)
              (p.placed c there.0 passes.shape there.2 passes.shape_is)
              (q.placed c there.0 passes.shape
              (ap (λ (fs : List ℕ). slice_get fs c) (sym same) ∙ there.2) passes.shape_is)
          | inr past ↦
              let a = p.no_more c past.0 in
              let b = q.no_more c (subst (λ (fs : List ℕ). length fs ≤ c) same past.0) in
              (a.0 ∙ sym b.0, a.1 ∙ sym b.1)
        ]
