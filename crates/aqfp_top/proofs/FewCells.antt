-- A chip of a flat form that is taken has few inputs and cells.
use Rattle.std.proofs.Common.{ℕ, ℤ, ◌≡◌, ◌<◌, ◌≤◌, ◌+◌, ◌^◌, true, false, List, length, get_or, eqb, Some, inl, inr}
use Rattle.std.proofs.Common.{sym, subst, arith}
use Rattle.std.specs.Prelude.{slice_get, int_lt, nat_lt}
use Rattle.std.specs.List.{list_any}
use Rattle.std.proofs.lemmas.Bool.{and_parts, or_cases, false_from_ne_true, eqb-true}
use Rattle.std.proofs.lemmas.Option.{slice_get-get_or, slice_get_within}
use Rattle.std.proofs.lemmas.List.Sums.{count_by-le-length}
use Rattle.std.proofs.lemmas.Map.Keys.{IsDistinct-from_apart}
use Rattle.std.proofs.lemmas.Map.Steps.{length-le_from_distinct_below}
use Rattle.std.proofs.lemmas.Slice.Zip.{AllZip-long}
use Rattle.geom.specs.declared.shapes.Shape.{Shape}
use Rattle.geom.specs.declared.shapes.Flat.{Flat}
use Rattle.geom.specs.FlatForm.{flat_count, shape_limit}
use Rattle.poly_cut.specs.FlatForm.{wide_flat}
use Rattle.layout_rules.specs.Pins.{is_entry}
use Rattle.layout_rules.proofs.PlaceLaws.{list_any-place}
use Rattle.circuit_extracted.specs.Circuits.{CircuitView}
use Rattle.shape_extract.specs.Extraction.{IsCircuitOf, IsCellFrom}
use Rattle.shape_extract.specs.Frames.{comes_before, AreFrames}
use Rattle.aqfp_top.specs.Checks.{MakesCircuit}

not_less : (x : ℤ) → int_lt x x ≡ true → ⊥
not_less x less = grind arith

not_below : (f : ℕ) → nat_lt f f ≡ true → ⊥
not_below f less = grind arith

-- no frame comes before itself
not_before : (s : Shape) (f : ℕ) → comes_before s f s f ≡ true → ⊥
not_before s f before = elim (or_cases _ _ before) [
  | inl less ↦ not_less s.rect.y0 less
  | inr rest ↦ elim (or_cases _ _ (and_parts _ _ rest).1) [
    | inl less ↦ not_less s.rect.x0 less
    | inr last ↦ not_below f (and_parts _ _ last).1
  ]
]

module _ (shapes : List Shape) (frames : List ℕ) (are : AreFrames shapes frames) where
  -- frames at two places differ
  apart : (i j : ℕ) (d : ℕ) → i < j → j < length frames → eqb (get_or frames i d) (get_or frames j d) ≡ false
  apart i j d less within = false_from_ne_true _ (λ same.
      let f = get_or frames i d in
      let g = get_or frames j d in
      let at_i : slice_get frames i ≡ Some f = slice_get-get_or frames i d (omega arith) in
      let at_j : slice_get frames j ≡ Some g = slice_get-get_or frames j d within in
      let is : g ≡ f = sym (eqb-true f g same) in
      let first = are.only i f at_i in
      not_before first.shape f
      (subst (λ n. comes_before first.shape f first.shape n ≡ true) is
      (are.in_order i j f g first.shape first.shape less at_i at_j first.shape_is
      (subst (λ n. slice_get shapes n ≡ Some first.shape) (sym is) first.shape_is))))

  -- and each is a shape
  within : (q : ℕ) → list_any (eqb q) frames ≡ true → q < length shapes
  within q found =
      let place = list_any-place (eqb q) frames found in
      let passes = are.only place.place place.item place.item_is in
      subst (λ n. n < length shapes) (sym (eqb-true q place.item place.passes_so))
      (slice_get_within shapes place.item passes.shape passes.shape_is)

  frames_few : length frames ≤ length shapes
  frames_few = length-le_from_distinct_below frames (length shapes) (IsDistinct-from_apart eqb frames apart) within

cells_few : (flat : Flat) (circuit : CircuitView) → IsCircuitOf flat circuit → flat_count flat ≤ shape_limit
    → circuit.inputs + length circuit.cells < 2 ^ 32
cells_few flat circuit is few =
    let inputs : circuit.inputs ≤ length flat.shapes = subst (λ n. n ≤ length flat.shapes) (sym is.inputs)
    (count_by-le-length (is_entry flat.shapes) flat.shapes) in
    let frames : length is.frames ≤ length flat.shapes = frames_few flat.shapes is.frames is.are_frames in
    let cells : length is.frames ≡ length circuit.cells = AllZip-long
    (IsCellFrom flat is.frames) circuit.cells is.frames is.cells in
    omega (arith, inputs, frames, cells, few)

pub few : (gds lib : List ℕ) (circuit : CircuitView) → MakesCircuit gds lib circuit
    → circuit.inputs + length circuit.cells < 2 ^ 32
few gds lib circuit makes = cells_few (wide_flat makes.layout) circuit makes.circuit_is makes.read.within
