-- The cells of a circuit, made frame by frame.
use Rattle.std.proofs.Common.{◌≡◌, ℕ, zero, suc, ◌+◌, ◌<◌, ◌≤◌, ◌%◌, inl, inr, Bool, true, false, ◌&&◌, List, [], ◌∷◌}
use Rattle.std.proofs.Common.{◌++◌, length, Some, ℤ, refl, sym, ap, subst, ◌∙◌, arith}
use Rattle.std.specs.Prelude.{slice_get, slice_index, not, int_lt}
use Rattle.std.specs.List.{AllZip}
use Rattle.std.proofs.Math.ListN.{length-append}
use Rattle.std.proofs.lemmas.List.Sums.{count_by-le-length}
use Rattle.std.proofs.lemmas.Option.{same_Some, get_or_from_slice_get}
use Rattle.geom.specs.declared.shapes.Shape.{Shape}
use Rattle.geom.specs.declared.shapes.Flat.{Flat}
use Rattle.circuit.specs.declared.cell_kind.CellKind.{CellKind}
use Rattle.circuit.specs.declared.cell_kind.CellKind.TheVariants.{Buffer}
use Rattle.circuit.specs.CellKinds.{number_of, inputs_of}
use Rattle.layout_rules.specs.Layers.{is_frame}
use Rattle.layout_rules.specs.Reports.{ReportsNone, Passes}
use Rattle.layout_rules.specs.Rows.{has_edge, lower_edges, row_of, AreRows}
use Rattle.layout_rules.proofs.RowLaws.{row_of-certified}
use Rattle.layout_rules.specs.CircuitRules.{CellsBroken}
use Rattle.circuit_extracted.specs.declared.cells.Feed.{Feed}
use Rattle.circuit_extracted.specs.declared.cells.Feed.TheVariants.{Nothing}
use Rattle.circuit_extracted.specs.declared.cells.ExCell.{ExCell}
use Rattle.circuit_extracted.specs.Circuits.{feed_at}
use Rattle.shape_extract.specs.Extraction.{IsFeedAt, IsInPhase, IsCellFrom}
use Rattle.shape_extract.specs.Code.Tables.{IsFrameOf, IsFeedOfInput}
use Rattle.layout_rules.specs.ExcitationRule.{IsExcitedAt}
use Rattle.shape_extract.proofs.ExcitedEach.{excited_in_phase}
use Rattle.shape_extract.proofs.Kept.{no_fault}
use Rattle.shape_extract.proofs.RowEdges.{push_cases}

-- ---- rows are at most as many as shapes

edges_new : (s : Shape) (ss : List Shape) → (is_frame s && not (has_edge ss s.rect.y0)) ≡ true
    → lower_edges (s ∷ ss) ≡ s.rect.y0 ∷ lower_edges ss
edges_new s ss e = rw (e, lower_edges) refl

edges_known : (s : Shape) (ss : List Shape) → (is_frame s && not (has_edge ss s.rect.y0)) ≡ false
    → lower_edges (s ∷ ss) ≡ lower_edges ss
edges_known s ss e = rw (e, lower_edges) refl

pub few_edges : (shapes : List Shape) → length (lower_edges shapes) ≤ length shapes
few_edges [] = omega arith
few_edges (s ∷ ss) = by_test (few_edges ss) (is_frame s && not (has_edge ss s.rect.y0)) refl
  where
    by_test : length (lower_edges ss) ≤ length ss → (b : Bool) → (is_frame s && not (has_edge ss s.rect.y0)) ≡ b
        → length (lower_edges (s ∷ ss)) ≤ suc (length ss)
    by_test less true e = (let h : length (lower_edges (s ∷ ss)) ≡ suc (length (lower_edges ss)) = ap length
        (edges_new s ss e) in omega arith)
    by_test less false e = (let h : length (lower_edges (s ∷ ss)) ≡ length (lower_edges ss) = ap length
        (edges_known s ss e) in omega arith)

row_small : (shapes : List Shape) (y : ℤ) → row_of shapes y ≤ length shapes
row_small shapes y =
    let h : row_of shapes y ≤ length (lower_edges shapes) = count_by-le-length
    (λ edge. int_lt edge y) (lower_edges shapes) in
    let k : length (lower_edges shapes) ≤ length shapes = few_edges shapes in
    omega arith

module _ (shapes : List Shape) (edges : List ℤ) (rows : AreRows shapes edges) (f : ℕ) (s : Shape)
    (got : slice_get shapes f ≡ Some s) (passes : Passes is_frame shapes f) where
  frame_so : is_frame s ≡ true
  frame_so = ap is_frame (same_Some s passes.shape (sym got ∙ passes.shape_is)) ∙ passes.passes_so

  pub row_there : (r : ℕ) → slice_get edges r ≡ Some s.rect.y0 → (t : Shape) → slice_get shapes f ≡ Some t
      → r ≡ row_of shapes t.rect.y0
  row_there r at t is = sym (row_of-certified shapes edges rows r s.rect.y0 at)
      ∙ ap (λ (x : Shape). row_of shapes x.rect.y0) (same_Some s t (sym got ∙ is))

  pub row_fits : (r : ℕ) → slice_get edges r ≡ Some s.rect.y0 → r ≤ length shapes
  row_fits r at = (let e : row_of shapes s.rect.y0 ≡ r =
      row_of-certified shapes edges rows r s.rect.y0 at in let h : row_of shapes s.rect.y0 ≤ length shapes =
      row_small shapes s.rect.y0 in omega arith)

-- ---- kinds

pub no_kind : (flat : Flat) → ReportsNone (CellsBroken flat.shapes)
    → (f : ℕ) (passes : Passes is_frame flat.shapes f) (s : Shape) → slice_get flat.shapes f ≡ Some s
    → ((kind : CellKind) → s.datatype ≡ number_of kind → ⊥) → ⊥
no_kind flat kept f passes s got none = no_fault flat kept f (inl (record {
  frame = passes;
  not_so = λ cell. none cell.kind
      (ap (λ (x : Shape). x.datatype) (same_Some s passes.shape (sym got ∙ passes.shape_is)) ∙ cell.kind_is);
}))

pub kind_there : (flat : Flat) (f : ℕ) (passes : Passes is_frame flat.shapes f) (s : Shape) (kind : CellKind)
    → slice_get flat.shapes f ≡ Some s → s.datatype ≡ number_of kind → IsFrameOf flat.shapes kind f
kind_there flat f passes s kind got e =
    record {
      frame = s;
      frame_is = got;
      frame_so = ap is_frame (same_Some s passes.shape (sym got ∙ passes.shape_is)) ∙ passes.passes_so;
      kind_is = e;
    }

pub few_inputs : (kind : CellKind) → inputs_of kind ≤ 3
few_inputs Buffer = omega arith
few_inputs k = omega arith

-- ---- a cell from its parts

abbrev cell_from : CellKind → ℕ → ℕ → Feed → Feed → Feed → ExCell
cell_from kind row phase a b d = record { kind = kind; row = row; phase = phase; feed0 = a; feed1 = b; feed2 = d }

module _ (flat : Flat) (frames : List ℕ) (kind : CellKind) (f : ℕ) (of : IsFrameOf flat.shapes kind f)
    (row phase : ℕ) (a b d : Feed)
    (row_is : (t : Shape) → slice_get flat.shapes f ≡ Some t → row ≡ row_of flat.shapes t.rect.y0)
    (phase_is : phase ≡ row % 4) (excited : IsExcitedAt flat.shapes f)
    (fed0 : IsFeedOfInput flat frames kind f 0 a) (fed1 : IsFeedOfInput flat frames kind f 1 b)
    (fed2 : IsFeedOfInput flat frames kind f 2 d) where
  fed_at : (i : ℕ) → i < inputs_of kind → IsFeedAt flat frames f i (feed_at (cell_from kind row phase a b d) i)
  fed_at zero lt = fed0.within lt
  fed_at (suc zero) lt = fed1.within lt
  fed_at (suc (suc zero)) lt = fed2.within lt
  fed_at (suc (suc (suc i))) lt = absurd (let h : inputs_of kind ≤ 3 = few_inputs kind in omega arith)

  past_at : (i : ℕ) → inputs_of kind ≤ i → feed_at (cell_from kind row phase a b d) i ≡ Nothing
  past_at zero ge = fed0.past ge
  past_at (suc zero) ge = fed1.past ge
  past_at (suc (suc zero)) ge = fed2.past ge
  past_at (suc (suc (suc i))) ge = refl

  in_phase : IsInPhase flat.shapes of.frame phase
  in_phase =
      let e : row_of flat.shapes of.frame.rect.y0 % 4 ≡ phase = ap (λ (r : ℕ). r % 4)
      (sym (row_is of.frame of.frame_is)) ∙ sym phase_is in
      subst (IsInPhase flat.shapes of.frame) e
      (excited_in_phase flat.shapes of.frame (excited of.frame of.frame_is of.frame_so))

  pub cell_made : IsCellFrom flat frames (cell_from kind row phase a b d) f
  cell_made = record {
    frame = of.frame;
    frame_is = of.frame_is;
    kind_is = of.kind_is;
    row_is = row_is of.frame of.frame_is;
    excited = in_phase;
    feeds = fed_at;
    no_more = past_at;
  }

-- ---- all cells

-- the cells of the first frames
pub record CellsBelow (n : ℕ) (flat : Flat) (frames : List ℕ) (cells : List ExCell) : Type 0 where
  pub long : length cells ≡ n
  pub each : (k f : ℕ) (cell : ExCell) → slice_get cells k ≡ Some cell → slice_get frames k ≡ Some f
      → IsCellFrom flat frames cell f

pub cells_more : (flat : Flat) (frames : List ℕ) (n : ℕ) (cells : List ExCell) (here : ExCell)
    → CellsBelow n flat frames cells → IsCellFrom flat frames here (slice_index frames n)
    → CellsBelow (n + 1) flat frames (cells ++ here ∷ [])
cells_more flat frames n cells here below from = record {
  long = omega (arith, length-append cells (here ∷ []), below.long);
  each = λ k f cell at is. elim (push_cases cells here cell k at) [
    | inl old ↦ below.each k f cell old is
    | inr new ↦
        let place : slice_index frames n ≡ f = ap (slice_index frames) (sym (new.0 ∙ below.long))
        ∙ get_or_from_slice_get frames k f 0 is in
        subst (λ (x : ExCell). IsCellFrom flat frames x f) new.1 (subst (IsCellFrom flat frames here) place from)
  ];
}

pub all_zip : {A B : Type 0} (R : A → B → Type 0) (xs : List A) (ys : List B) → length xs ≡ length ys
    → ((k : ℕ) (x : A) (y : B) → slice_get xs k ≡ Some x → slice_get ys k ≡ Some y → R x y) → AllZip R xs ys
all_zip R [] [] e h = tt
all_zip R [] (y ∷ ys) e h = absurd (omega arith)
all_zip R (x ∷ xs) [] e h = absurd (omega arith)
all_zip R (x ∷ xs) (y ∷ ys) e h = (h 0 x y refl refl, all_zip R xs ys (omega arith) (λ k u v p q. h (suc k) u v p q))

pub cells_all : (flat : Flat) (frames : List ℕ) (n : ℕ) (cells : List ExCell) → n ≡ length frames
    → CellsBelow n flat frames cells → AllZip (IsCellFrom flat frames) cells frames
cells_all flat frames n cells e below = all_zip (IsCellFrom flat frames) cells frames (below.long ∙ e)
    (λ k cell f at is. below.each k f cell at is)
