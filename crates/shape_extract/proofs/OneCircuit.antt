-- A flat form that keeps the rules of cells, of excitation lines and of labels has one circuit.
use Rattle.std.proofs.Common.{◌≡◌, ℕ, suc, ◌+◌, inl, inr, true, List, [], ◌∷◌, length, Some, refl, sym, ap}
use Rattle.std.proofs.Common.{subst, ◌∙◌, arith}
use Rattle.std.specs.Prelude.{slice_get}
use Rattle.std.specs.List.{AllZip}
use Rattle.std.proofs.lemmas.Bool.{cases_lt}
use Rattle.std.proofs.lemmas.Option.{same_Some}
use Rattle.geom.specs.declared.shapes.Shape.{Shape}
use Rattle.geom.specs.declared.shapes.Flat.{Flat}
use Rattle.circuit.specs.declared.cell_kind.CellKind.{CellKind}
use Rattle.circuit.specs.CellKinds.{inputs_of}
use Rattle.layout_rules.specs.declared.layers.TheConstants.{OUTPUT_PIN}
use Rattle.layout_rules.specs.Layers.{is_frame}
use Rattle.layout_rules.proofs.NetLaws.{AreNets-once}
use Rattle.layout_rules.proofs.PlaceLaws.{list_any-at}
use Rattle.layout_rules.specs.Rows.{row_of}
use Rattle.layout_rules.specs.Reports.{ReportsNone}
use Rattle.layout_rules.specs.Labels.{letter_i, letter_o, marks, is_labelled}
use Rattle.layout_rules.specs.CircuitRules.{CellsBroken, LabelsBroken}
use Rattle.layout_rules.specs.ExcitationRule.{ExcitationBroken}
use Rattle.rowed.specs.declared.source.Source.{Source}
use Rattle.circuit_extracted.specs.declared.cells.Feed.{Feed}
use Rattle.circuit_extracted.specs.declared.cells.Feed.TheVariants.{Nothing, Pin, Label}
use Rattle.circuit_extracted.specs.declared.cells.ExCell.{ExCell}
use Rattle.circuit_extracted.specs.Circuits.{CircuitView, feed_at}
use Rattle.shape_extract.specs.Frames.{AreFrames}
use Rattle.shape_extract.specs.Extraction.{IsNamed, IsOutputPin, IsDrivenBy, FeedsPin, IsFeedAt, IsCellFrom}
use Rattle.shape_extract.specs.Extraction.{IsOutputFrom, IsCircuitOf}
use Rattle.shape_extract.proofs.Kept.{one_input, one_frame, one_named, one_number_of}
use Rattle.shape_extract.proofs.Marked.{one_kind}
use Rattle.shape_extract.proofs.OneLine.{one_phase}
use Rattle.shape_extract.proofs.OneOrder.{one_order, one_place}

-- ---- values from their parts

abbrev cell_from : CellKind → ℕ → ℕ → Feed → Feed → Feed → ExCell
cell_from k r p a b c = record { kind = k; row = r; phase = p; feed0 = a; feed1 = b; feed2 = c }

same_cell : (x y : ExCell) → x.kind ≡ y.kind → x.row ≡ y.row → x.phase ≡ y.phase → x.feed0 ≡ y.feed0 → x.feed1 ≡ y.feed1
    → x.feed2 ≡ y.feed2 → x ≡ y
same_cell x y k r p a b c =
    let same : cell_from x.kind x.row x.phase x.feed0 x.feed1 x.feed2 ≡ y = rw (k, r, p, a, b, c) refl in same

abbrev source_from : ℕ → ℕ → Source
source_from c o = record { cell = c; output = o }

same_source : (s t : Source) → s.cell ≡ t.cell → s.output ≡ t.output → s ≡ t
same_source s t c o = let same : source_from s.cell s.output ≡ t = rw (c, o) refl in same

abbrev circuit_from : List ExCell → ℕ → List Source → ℕ → ℕ → List ℕ → CircuitView
circuit_from cells inputs outputs rows wires nets =
    record { cells = cells; inputs = inputs; outputs = outputs; rows = rows; wires = wires; nets = nets }

same_circuit : (x y : CircuitView) → x.cells ≡ y.cells → x.inputs ≡ y.inputs → x.outputs ≡ y.outputs → x.rows ≡ y.rows
    → x.wires ≡ y.wires → x.nets ≡ y.nets → x ≡ y
same_circuit x y a b c d e f =
    let same : circuit_from x.cells x.inputs x.outputs x.rows x.wires x.nets ≡ y = rw (a, b, c, d, e, f) refl in same

same_list : (xs ys : List Source) → length xs ≡ length ys
    → ((n : ℕ) (x y : Source) → slice_get xs n ≡ Some x → slice_get ys n ≡ Some y → x ≡ y) → xs ≡ ys
same_list [] [] e h = refl
same_list [] (y ∷ ys) e h = absurd (omega arith)
same_list (x ∷ xs) [] e h = absurd (omega arith)
same_list (x ∷ xs) (y ∷ ys) e h = ap (λ (v : Source). v ∷ xs) (h 0 x y refl refl)
    ∙ ap (λ (vs : List Source). y ∷ vs) (same_list xs ys (omega arith) (λ n v w p q. h (suc n) v w p q))

-- ---- the parts of a circuit

module _ (flat : Flat) (cells_kept : ReportsNone (CellsBroken flat.shapes))
    (lines_kept : ReportsNone (ExcitationBroken flat.shapes)) (labels_kept : ReportsNone (LabelsBroken flat))
    (frames : List ℕ) (are : AreFrames flat.shapes frames) where
  pub one_source : (s t : Source) (p q : ℕ) → p ≡ q → IsOutputPin flat frames s p → IsOutputPin flat frames t q → s ≡ t
  one_source s t p q e first other =
      let second : IsOutputPin flat frames t p = subst (IsOutputPin flat frames t) (sym e) other in
      let frame : first.frame ≡ second.frame =
      one_frame flat cells_kept first.frame second.frame OUTPUT_PIN OUTPUT_PIN s.output t.output
      p first.pin second.pin in
      let pin : first.pin.pin ≡ second.pin.pin = same_Some first.pin.pin second.pin.pin
      (sym first.pin.pin_is ∙ second.pin.pin_is) in
      same_source s t
      (one_place flat.shapes frames are s.cell t.cell second.frame (first.frame_is ∙ ap Some frame) second.frame_is)
      (sym first.pin.of_number ∙ ap (λ (x : Shape). x.datatype) pin ∙ second.pin.of_number)

  pub no_label : (p letter n : ℕ) (source : Source) → IsDrivenBy flat frames source p → IsNamed flat letter n p → ⊥
  no_label p letter n source driven named =
      let pin : named.mark.pin ≡ driven.input.pin = same_Some named.mark.pin driven.input.pin (sym named.mark.pin_is
      ∙ driven.input.pin_is) in
      let yes : is_labelled flat driven.input.pin ≡ true =
      list_any-at (λ label. marks label driven.input.pin) flat.labels named.place named.mark.label named.mark.label_is
      (ap (λ (x : Shape). marks named.mark.label x) (sym pin) ∙ named.mark.marks_so) in
      let no = driven.input.labelled_so in
      cc

  one_feed : (p : ℕ) (a b : Feed) → FeedsPin flat frames p a → FeedsPin flat frames p b → a ≡ b
  one_feed p Nothing b first second = absurd first
  one_feed p (Pin c o) Nothing first second = absurd second
  one_feed p (Label n) Nothing first second = absurd second
  one_feed p (Label n) (Label m) first second = ap Label (one_number_of flat labels_kept letter_i n m p first second)
  one_feed p (Pin c o) (Label n) first second = absurd (no_label p letter_i n (source_from c o) first second)
  one_feed p (Label n) (Pin c o) first second = absurd (no_label p letter_i n (source_from c o) second first)
  one_feed p (Pin c o) (Pin d u) first second =
      ap (λ (s : Source). Pin s.cell s.output)
      (one_source (source_from c o) (source_from d u) first.driver second.driver
      (second.only first.driver first.driver_is) first.output second.output)

  one_feed_at : (f i : ℕ) (a b : Feed) → IsFeedAt flat frames f i a → IsFeedAt flat frames f i b → a ≡ b
  one_feed_at f i a b first second =
      let pins : first.number ≡ second.number =
      one_input flat cells_kept f i first.number second.number first.pin second.pin in
      one_feed second.number a b (rw pins at first.feeds) second.feeds

  one_cell : (f c : ℕ) (x y : ExCell) → slice_get frames c ≡ Some f → IsCellFrom flat frames x f
      → IsCellFrom flat frames y f → x ≡ y
  one_cell f c x y at first second =
      let frame : first.frame ≡ second.frame = same_Some first.frame second.frame
      (sym first.frame_is ∙ second.frame_is) in
      let kind : x.kind ≡ y.kind = one_kind x.kind y.kind (sym first.kind_is
      ∙ ap (λ (s : Shape). s.datatype) frame ∙ second.kind_is) in
      let passes = are.only c f at in
      let is_one : is_frame second.frame ≡ true = ap is_frame
      (same_Some second.frame passes.shape (sym second.frame_is ∙ passes.shape_is)) ∙ passes.passes_so in
      let feed : (i : ℕ) → feed_at x i ≡ feed_at y i = λ i. elim (cases_lt i (inputs_of x.kind)) [
        | inl lt ↦ one_feed_at f i (feed_at x i) (feed_at y i) (first.feeds i lt)
            (second.feeds i (rw kind at lt))
        | inr le ↦ first.no_more i le ∙ sym (second.no_more i (rw kind at le))
      ] in
      same_cell x y kind
      (first.row_is ∙ ap (λ (s : Shape). row_of flat.shapes s.rect.y0) frame ∙ sym second.row_is)
      (one_phase flat.shapes lines_kept f second.frame x.phase y.phase second.frame_is is_one
      (rw frame at first.excited) second.excited)
      (feed 0) (feed 1) (feed 2)

  -- these frames stand in the list from place k on
  abbrev StandFrom : ℕ → List ℕ → Type 0
  StandFrom k fs = (i f : ℕ) → slice_get fs i ≡ Some f → slice_get frames (k + i) ≡ Some f

  same_cells : (k : ℕ) (fs : List ℕ) (xs ys : List ExCell) → StandFrom k fs → AllZip (IsCellFrom flat frames) xs fs
      → AllZip (IsCellFrom flat frames) ys fs → xs ≡ ys
  same_cells k [] [] [] stand first second = refl
  same_cells k [] (x ∷ xs) ys stand first second = absurd first
  same_cells k [] [] (y ∷ ys) stand first second = absurd second
  same_cells k (f ∷ fs) [] ys stand first second = absurd first
  same_cells k (f ∷ fs) (x ∷ xs) [] stand first second = absurd second
  same_cells k (f ∷ fs) (x ∷ xs) (y ∷ ys) stand first second =
      ap (λ (v : ExCell). v ∷ xs) (one_cell f (k + 0) x y (stand 0 f refl) first.0 second.0)
      ∙ ap (λ (vs : List ExCell). y ∷ vs)
      (same_cells (suc k) fs xs ys
      (λ i g e. let n : k + suc i ≡ suc k + i = omega arith in rw n at (stand (suc i) g e)) first.1 second.1)

  one_output : (n : ℕ) (s t : Source) → IsOutputFrom flat frames n s → IsOutputFrom flat frames n t → s ≡ t
  one_output n s t first second = one_source s t first.number second.number
      (one_named flat labels_kept letter_o n first.number second.number first.named second.named)
      first.output second.output

pub one_circuit : (flat : Flat) → ReportsNone (CellsBroken flat.shapes) → ReportsNone (ExcitationBroken flat.shapes)
    → ReportsNone (LabelsBroken flat)
    → (x y : CircuitView) → IsCircuitOf flat x → IsCircuitOf flat y → x ≡ y
one_circuit flat cells_kept lines_kept labels_kept x y first second =
    let frames : second.frames ≡ first.frames =
    one_order flat.shapes second.frames first.frames second.are_frames first.are_frames in
    let cells : AllZip (IsCellFrom flat first.frames) y.cells first.frames =
    rw frames at second.cells in
    same_circuit x y
    (same_cells flat cells_kept lines_kept labels_kept first.frames first.are_frames 0 first.frames x.cells y.cells
    (λ i f e. let n : i ≡ 0 + i =
    omega arith in rw n at e) first.cells cells)
    (first.inputs ∙ sym second.inputs)
    (same_list x.outputs y.outputs (first.output_count ∙ sym second.output_count)
    (λ n s t p q. one_output flat cells_kept lines_kept labels_kept first.frames first.are_frames n s t
    (first.outputs n s p) (rw frames at (second.outputs n t q))))
    (first.rows ∙ sym second.rows)
    (first.wires ∙ sym second.wires)
    (AreNets-once flat.shapes x.nets y.nets first.nets second.nets)
