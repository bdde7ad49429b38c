-- Each structure of a drawing can be written.
use Rattle.std.proofs.Common.{◌≡◌, ℕ, zero, suc, ◌+◌, ◌-◌, ◌*◌, ◌/◌, ◌<◌, ◌≤◌, ◌^◌, refl, sym, subst, arith, lit<, lit≤}
use Rattle.std.proofs.Common.{T, ltb, leb, inl, inr, List, [], ◌∷◌, ◌++◌, length, length-append, map, Bool, true, false}
use Rattle.std.proofs.Common.{ap, ◌==◌, Some, None, slice_get, cond, All, pos, FitsSigned}
use Rattle.std.specs.Int.{w32}
use Rattle.std.specs.Fmt.{decimal}
use Rattle.std.specs.List.{flat_map, AllByRecursion}
use Rattle.std.proofs.Math.Nat.{mul-le-mul_right}
use Rattle.std.proofs.lemmas.Fmt.{length-decimal-le, decimal_digit, decimal-digits_of}
use Rattle.std.proofs.lemmas.List.{length-map}
use Rattle.circuit.specs.CellKinds.{number_of, slots_of}
use Rattle.circuit.specs.declared.cell_kind.CellKind.{CellKind}
use Rattle.circuit.specs.declared.cell_kind.CellKind.TheVariants.{Buffer}
use Rattle.geom.specs.declared.shapes.Label.{Label}
use Rattle.geom.specs.declared.layout.Element.{Element}
use Rattle.geom.specs.declared.layout.Element.TheVariants.{Box, Text}
use Rattle.geom.specs.declared.layout.Structure.{Structure}
use Rattle.geom.specs.Writable.{IsWritableText, IsWritableShape, IsWritableLabel, IsWritableElement}
use Rattle.geom.specs.Writable.{IsWritableStructure}
use Rattle.layout_rules.specs.Labels.{letter_i, letter_o}
use Rattle.rowed.specs.declared.row_cell.RowCell.{RowCell}
use Rattle.rowed.specs.declared.wire.Wire.{Wire}
use Rattle.sorting.specs.Numbers.{numbers, place_of}
use Rattle.rowed.specs.Slots.{span_of, AreSeated, EachSeated}
use Rattle.rowed.specs.PlacedNets.{PlacedView, paired, placed_rows}
use Rattle.rowed.specs.Extent.{widest}
use Rattle.rowed.specs.Limits.{width_limit}
use Rattle.cell_library.specs.Kinds.{all_kinds}
use Rattle.cell_library.specs.Library.{LibraryView, input_column_of, output_column_of}
use Rattle.layout_make.specs.Sheet.{Tag, Lead, Bar, Over, RightOf, shape_of, centre, lower_edge, lead_first, lead_flank}
use Rattle.layout_make.specs.Sheet.{step_low, step_high, step_right}
use Rattle.layout_make.proofs.SheetKeeps.{IsStep}
use Rattle.std.proofs.lemmas.Bool.{cases_lt}
use Rattle.layout_make.proofs.LineShapes.{lead_low}
use Rattle.layout_make.specs.Spots.{Spot, spots}
use Rattle.layout_make.specs.Channel.{channel}
use Rattle.layout_make.specs.Tags.{sheet, cell_tags, wire_tags, line_tags, lag_tags}
use Rattle.layout_make.specs.Draw as Draw
use Rattle.layout_make.specs.MayDraw.{MayDraw}
use Rattle.layout_make.proofs.Columns.{next_edge, edges_apart}
use Rattle.layout_make.proofs.FlatLaw.{kinds_same}
use Rattle.layout_make.proofs.Heights.{stands_low}
use Rattle.layout_make.proofs.Member.{In, in_head, in_append, in_map, in_flat_map, in_upto, in_all, not_in_nil}
use Rattle.layout_make.proofs.Origins.{WirePart, cell_part, wire_part, lag_part}
use Rattle.layout_make.proofs.Ready.{TracksLaw, may_ready, lawful, last_suc}
use Rattle.layout_make.proofs.PinCounts.{slots_some}
use Rattle.layout_make.proofs.SizesKept.{are_sizes}
use Rattle.layout_make.proofs.Sound.{frame_fits, wire_is}
use Rattle.layout_make.proofs.TopDrawn.{passes, some_such, tells, where_small, used_given, right_some}
use Rattle.layout_make.proofs.Whole.{wire_row}
use Rattle.layout_make.proofs.Written.{wire_right, wire_written, flank_written, area_writable, use_small, cell_written}
use Rattle.layout_make.proofs.Written.{fits_pos, AreHeights, row_heights, lag_heights, link_heights}

pub all_of : {X : Type 0} (P : X → Type 0) (xs : List X) → AllByRecursion P xs → All P xs
all_of P [] all k d h = absurd (omega arith)
all_of P (x ∷ xs) all zero d h = all.0
all_of P (x ∷ xs) all (suc k) d h = all_of P xs all.1 k d (omega arith)

text_of : (t : List ℕ) → T (ltb 0 (length t)) → T (leb (length t) 512) → AllByRecursion (λ b. 0 < b) t
    → IsWritableText t
text_of t p q all = record { some = lit< p; short = lit≤ q; without_zeros = all_of (λ b. 0 < b) t all }

abbrev are_positive : List ℕ → Bool
are_positive [] = true
are_positive (zero ∷ t) = false
are_positive (suc b ∷ t) = are_positive t

positive : (t : List ℕ) → T (are_positive t) → AllByRecursion (λ b. 0 < b) t
positive [] e = tt
positive (zero ∷ t) e = absurd e
positive (suc b ∷ t) e = (omega arith, positive t e)

named : (k : CellKind) → IsWritableText (Draw.kind_name k)
named Buffer = text_of _ tt tt (positive (Draw.kind_name Buffer) tt)
named k = text_of _ tt tt (positive (Draw.kind_name k) tt)

digits : (n : ℕ) → n < 2 ^ 32 → AllByRecursion (λ b. 0 < b) (decimal n)
digits zero lt = subst (AllByRecursion (λ b. 0 < b)) (sym (decimal_digit 0 (omega arith))) (omega arith, tt)
digits (suc n) lt = subst (AllByRecursion (λ b. 0 < b)) (sym (decimal-digits_of (suc n) (omega arith) (omega arith)))
    (in_all (λ b. 0 < b) _ (λ b h. let k = in_map _ b _ h in let e : b ≡ 48 + k.0 = k.2 in omega arith))

label_text : (letter n : ℕ) → 0 < letter → n < 2 ^ 32 → IsWritableText (letter ∷ decimal n)
label_text letter n some lt = record {
  some = omega arith;
  short = (let k = length-decimal-le 10 n (omega arith) (omega arith) (omega arith) in omega arith);
  without_zeros = all_of (λ b. 0 < b) (letter ∷ decimal n) (some, digits n lt);
}

-- the kinds that are used are not too wide

cells_fit : (b w : ℕ) (cells : List RowCell) (slots : List ℕ) → AreSeated b cells slots → span_of cells slots ≤ w
    → AllByRecursion (λ (cell : RowCell). slots_of cell.kind ≤ w) cells
cells_fit b w [] slots seats le = tt
cells_fit b w (c ∷ cells) [] seats le = absurd seats
cells_fit b w (c ∷ cells) (s ∷ slots) seats le =
    (omega arith, cells_fit (s + slots_of c.kind) w cells slots seats.2 (omega arith))

rows_fit : (w : ℕ) (rows : List (List RowCell)) (slots : List (List ℕ)) → EachSeated rows slots
    → widest (paired rows slots) ≤ w
    → AllByRecursion (λ (row : List RowCell). AllByRecursion (λ (cell : RowCell). slots_of cell.kind ≤ w) row) rows
rows_fit w [] slots seats le = tt
rows_fit w (row ∷ rows) [] seats le = absurd seats
rows_fit w (row ∷ rows) (s ∷ slots) seats le =
    (cells_fit 0 w row s seats.0 (omega arith), rows_fit w rows slots seats.1 (omega arith))

module _ (p : PlacedView) (l : LibraryView) (law : TracksLaw) (may : MayDraw p l) where
  abbrev kinds : List CellKind
  kinds = Draw.used_kinds p

  abbrev count : ℕ
  count = suc (length kinds)

  kind_fits : (n : ℕ) (k : CellKind) → slice_get kinds n ≡ Some k → slots_of k * (l.columns * l.pitch) ≤ width_limit
  kind_fits n k at =
      let w = widest (placed_rows p) in
      let used = passes (Draw.uses p) all_kinds n k at in
      let fits : slots_of k ≤ w = some_such (Draw.row_has k)
      (λ (row : List RowCell). AllByRecursion (λ (cell : RowCell). slots_of cell.kind ≤ w) row)
      (λ (row : List RowCell). slots_of k ≤ w) p.net.rows
      (rows_fit w p.net.rows p.slots may.placed.seated (omega arith)) (λ row own e.
      some_such (λ (cell : RowCell). Draw.same_kind k cell.kind) (λ (cell : RowCell). slots_of cell.kind ≤ w)
      (λ (cell : RowCell). slots_of k ≤ w) row own
      (λ cell le f. subst (λ (j : CellKind). slots_of j ≤ w)
      (kinds_same cell.kind k (tells (number_of k) (number_of cell.kind) f)) le) (slots_of k ≤ w) (λ cell g. g)
      e)
      (slots_of k ≤ w) (λ row g. g) used in
      let m : slots_of k * (l.columns * l.pitch) ≤ w * (l.columns * l.pitch) = mul-le-mul_right (l.columns * l.pitch)
      fits in
      let narrow = may.narrow in
      omega arith

  structure_written : (n : ℕ) (k : CellKind) → slice_get kinds n ≡ Some k
      → IsWritableStructure count (Draw.cell_structure l k)
  structure_written n k at = record {
    name = named k;
    elements = all_of (IsWritableElement count) (Draw.boxes (Draw.alone l) (cell_tags l 0 0 k))
        (in_all (IsWritableElement count) (Draw.boxes (Draw.alone l) (cell_tags l 0 0 k)) (λ e h.
        let t = in_map (λ (u : Tag). Box (shape_of (Draw.alone l) u)) e (cell_tags l 0 0 k) h in
        let x : Spot = record {
          cell = record {
            kind = k;
            source0 = None;
            source1 = None;
            source2 = None;
            input = None;
            output = None;
          };
          slot = 0;
        } in
        subst (IsWritableElement count) (sym t.2)
        (cell_written l (lawful l may.library) (are_sizes l may.library) k
        (used_given p l may.given kinds refl n k at) (kind_fits n k at) x refl refl t.0
        (cell_part l 0 x t.0 t.1))));
  }

  place_most : (xs : List ℕ) (c : ℕ) → place_of xs c ≤ length xs
  place_most [] c = omega arith
  place_most (x ∷ xs) c = go (x == c) (place_most xs c)
    where
      go : (b : Bool) → place_of xs c ≤ length xs → cond b 0 (suc (place_of xs c)) ≤ suc (length xs)
      go true k = omega arith
      go false k = omega arith

  -- a row's elements

  place_written : (r : ℕ) → r < length p.net.rows → (x : Spot) → In x (spots p r)
      → IsWritableElement count (Draw.place_of_spot p l r x)
  place_written r lt x h =
      let m = place_most (map number_of kinds) (number_of x.cell.kind) in
      let n = length-map kinds number_of in
      let fits = frame_fits p l r x h in
      let part : x.slot * (l.columns * l.pitch) ≤ (x.slot + slots_of x.cell.kind) * (l.columns * l.pitch)
      = mul-le-mul_right (l.columns * l.pitch) (let k : x.slot ≤ x.slot + slots_of x.cell.kind = omega arith in
      k) in
      let narrow = may.narrow in
      let low = stands_low p l law may r lt in (
        omega arith,
        fits_pos (x.slot * (l.columns * l.pitch)) (omega arith),
        fits_pos (lower_edge (sheet p l) r)
            (omega arith),
      )

  step_narrow : (n : ℕ) → IsStep (sheet p l) n
      → (0 < step_right (sheet p l) n) × (step_right (sheet p l) n ≤ width_limit)
  unfolding sheet
  step_narrow zero step = (step.lagged refl, may.lag)
  step_narrow (suc r) step = (right_some p l (may_ready p l law may) (lawful l may.library), may.narrow)

  -- from a step up to a row that is not below it
  step_heights : (n r : ℕ) → n ≤ suc r → r < length p.net.rows
      → AreHeights (step_low (sheet p l) n) (step_high (sheet p l) (suc r))
  unfolding sheet
  step_heights zero r le lt =
      let sizes = are_sizes l may.library in let laws = lawful l may.library in
      let low = stands_low p l law may r lt in let a = laws.tall in let b = laws.space_some in
      link_heights l (lower_edge (sheet p l) r + l.height) (omega arith) sizes.height_most low
  step_heights (suc q) r le lt =
      let laws = lawful l may.library in
      let low = stands_low p l law may r lt in let a = laws.tall in let b = laws.space_some in
      let rise = edge_rises q r (omega arith) in
      row_heights (lower_edge (sheet p l) q) (lower_edge (sheet p l) r + l.height) (omega arith) low
    where
      edge_rises : (q r : ℕ) → q ≤ r → lower_edge (sheet p l) q ≤ lower_edge (sheet p l) r
      edge_rises q r le =
          elim (cases_lt q r) [
            | inl less ↦ (let a = next_edge l (sheet p l).used q in
                let b = edges_apart l (sheet p l).used q r less in omega arith)
            | inr ge ↦ (let e = ap (lower_edge (sheet p l)) (let h : q ≡ r = omega arith in h) in omega arith)
          ]

  row_step : (r : ℕ) → r < length p.net.rows → IsStep (sheet p l) (suc r)
  unfolding sheet
  row_step r lt = record { below = omega arith; lagged = λ z. absurd (omega arith) }

  lead_written : (r : ℕ) → r < length p.net.rows → IsWritableShape (shape_of (sheet p l) (Lead (suc r)))
  unfolding sheet
  lead_written r lt =
      let sizes = are_sizes l may.library in let laws = lawful l may.library in
      let b = laws.space_some in let c = laws.spaced in
      let step : IsStep (sheet p l) (suc r) = row_step r lt in
      let wide = step_narrow (suc r) step in
      flank_written l _ _ (step_right (sheet p l) (suc r)) _ _ (lead_flank (suc r)) (omega arith)
      (use_small (sheet p l).lag (suc r)) (omega arith) sizes.pitch_most wide.0 wide.1
      (step_heights (lead_first (sheet p l).lag (suc r)) r (lead_low (sheet p l).lag (suc r)).1 lt)

  bar_written : (r : ℕ) → r < length p.net.rows → IsWritableShape (shape_of (sheet p l) (Bar (suc r)))
  unfolding sheet
  bar_written r lt =
      let sizes = are_sizes l may.library in let laws = lawful l may.library in
      let b = laws.space_some in let c = laws.spaced in
      let wide = step_narrow (suc r) (row_step r lt) in
      flank_written l _ _ (step_right (sheet p l) (suc r)) _ _ Over (omega arith) (omega arith) (omega arith)
      sizes.pitch_most wide.0 wide.1 (step_heights (suc r) r (omega arith) lt)

  lag_written : (t : Tag) → In t (lag_tags p.lag) → IsWritableShape (shape_of (sheet p l) t)
  unfolding sheet
  lag_written t h =
      let sizes = are_sizes l may.library in let laws = lawful l may.library in
      let a = laws.tall in let b = laws.space_some in let c = laws.spaced in
      let part = lag_part p.lag t h in
      let heights = lag_heights l (omega arith) sizes.height_most in
      elim part.1 [
        | inl e ↦ subst (λ (u : Tag). IsWritableShape (shape_of (sheet p l) u)) (sym e)
            (flank_written l _ _ p.lag _ _ RightOf (omega arith) (omega arith) (omega arith) sizes.pitch_most part.0
            may.lag heights)
        | inr e ↦ subst (λ (u : Tag). IsWritableShape (shape_of (sheet p l) u)) (sym e)
            (flank_written l _ _ p.lag _ _ Over (omega arith) (omega arith) (omega arith) sizes.pitch_most part.0
            may.lag heights)
      ]

  wire_shape : (r : ℕ) (w : Wire) (t : Tag) → In w (channel p l r) → WirePart r w.from_column t
      → IsWritableShape (shape_of (sheet p l) t)
  unfolding sheet
  wire_shape r w t h part =
      let laws = lawful l may.library in
      let is = may_ready p l law may in
      let right = wire_right p l is laws may.narrow r w h in
      let wire = wire_is p l is laws r w h in
      let low = stands_low p l law may (suc r) (wire_row p l is r w h).1 in
      wire_written (sheet p l) laws (are_sizes l may.library) r w.from_column t part wire.0 right.0
      (subst (λ (c : ℕ). (c + 1) * l.pitch ≤ width_limit) (sym wire.1) right.1) low

  tag_written : (r : ℕ) → r < length p.net.rows → (t : Tag)
      → In t (line_tags r ++ flat_map (wire_tags r) (channel p l r)) → IsWritableShape (shape_of (sheet p l) t)
  tag_written r lt t h = elim (in_head t (Lead (suc r)) (Bar (suc r) ∷ flat_map (wire_tags r) (channel p l r)) h) [
    | inl e ↦ subst (λ (u : Tag). IsWritableShape (shape_of (sheet p l) u)) (sym e) (lead_written r lt)
    | inr k ↦ elim (in_head t (Bar (suc r)) (flat_map (wire_tags r) (channel p l r)) k) [
      | inl e ↦ subst (λ (u : Tag). IsWritableShape (shape_of (sheet p l) u)) (sym e) (bar_written r lt)
      | inr m ↦ let w = in_flat_map (wire_tags r) t (channel p l r) m in wire_shape r w.0 t w.1 (wire_part r w.0 t w.2)
    ]
  ]

  row_written : (r : ℕ) → r < length p.net.rows → (e : Element) → In e (Draw.row_elements p l r)
      → IsWritableElement count e
  row_written r lt e h =
      elim (in_append e (map (Draw.place_of_spot p l r) (spots p r))
      (Draw.boxes (sheet p l) (line_tags r ++ flat_map (wire_tags r) (channel p l r))) h) [
        | inl k ↦ let x = in_map (Draw.place_of_spot p l r) e (spots p r) k in
            subst (IsWritableElement count) (sym x.2) (place_written r lt x.0 x.1)
        | inr k ↦ let t = in_map (λ (u : Tag). Box (shape_of (sheet p l) u)) e
            (line_tags r ++ flat_map (wire_tags r) (channel p l r)) k in
            subst (IsWritableElement count) (sym t.2) (tag_written r lt t.0 t.1)
      ]

  -- labels

  column_in : (s m column : ℕ) → s + 1 ≤ m → m * (l.columns * l.pitch) ≤ width_limit → column < l.columns
      → (s * l.columns + column + 1) * l.pitch ≤ width_limit
  column_in s m column le fits lt =
      let a : (s + 1) * l.columns ≤ m * l.columns = mul-le-mul_right l.columns le in
      let b : (s * l.columns + column + 1) * l.pitch ≤ (m * l.columns) * l.pitch = mul-le-mul_right l.pitch
      (let h : s * l.columns + column + 1 ≤ m * l.columns = omega arith in h) in
      omega arith

  abbrev ColumnFits : ℕ → ℕ → Type 0
  ColumnFits column s = (s * l.columns + column + 1) * l.pitch ≤ width_limit

  spot_fits : (r : ℕ) (x : Spot) → In x (spots p r) → (s : ℕ) → s ≤ x.slot → (column : ℕ) → column < l.columns
      → ColumnFits column s
  spot_fits r x h s le column lt =
      let fits = frame_fits p l r x h in let narrow = may.narrow in let some = slots_some x.cell.kind in
      column_in s (x.slot + slots_of x.cell.kind) column (omega arith) (omega arith) lt

  label_x : (r column : ℕ) (test : RowCell → Bool) → column < l.columns
      → FitsSigned w32 (pos (centre l (Draw.slot_where test (spots p r) * l.columns + column)))
  unfolding centre
  label_x r column test lt =
      let first = (may_ready p l law may).some_cell 0 (let two = may.placed.net_keeps.two_rows in omega arith) in
      let most = where_small (ColumnFits column) test (spots p r)
      (spot_fits 0 first.0 (0, first.1) 0 (omega arith) column lt)
      (λ n x at. spot_fits r x (n, at) x.slot (omega arith) column lt) in
      fits_pos _ (omega arith)

  input_written : (n : ℕ) → n < p.net.inputs → IsWritableLabel (Draw.input_label p l n)
  input_written n lt =
      let few = may.few_inputs in let pin = (are_sizes l may.library).pin_most in
      record {
        layer = omega arith;
        x = label_x 0 (input_column_of l Buffer 0) _
            (let k = (lawful l may.library).input_most Buffer 0 (may.library.given Buffer (λ e. cc)) (omega arith) in
            omega arith);
        y = fits_pos (l.pin / 2) (omega arith);
        written = label_text letter_i n (omega arith) (omega arith);
      }

  output_written : (n : ℕ) → n < p.net.outputs → IsWritableLabel (Draw.output_label p l n)
  output_written n lt =
      let few = may.few_outputs in
      let low = stands_low p l law may (Draw.last_row p) (let two = may.placed.net_keeps.two_rows in
      let k = last_suc p (omega arith) in omega arith) in
      record {
        layer = omega arith;
        x = label_x (Draw.last_row p) (output_column_of l Buffer 0) _
            (let k = (lawful l may.library).output_most Buffer 0 (may.library.given Buffer (λ e. cc)) (omega arith) in
            omega arith);
        y = fits_pos (lower_edge (sheet p l) (Draw.last_row p) + l.height - l.pin / 2) (omega arith);
        written = label_text letter_o n (omega arith) (omega arith);
      }

  text_written : (b : Label) → In b (Draw.labels p l) → IsWritableLabel b
  text_written b h =
      elim (in_append b (map (Draw.input_label p l) (numbers 0 p.net.inputs))
      (map (Draw.output_label p l) (numbers 0 p.net.outputs)) h) [
        | inl k ↦ let n = in_map (Draw.input_label p l) b (numbers 0 p.net.inputs) k in
            subst IsWritableLabel (sym n.2) (input_written n.0 (in_upto p.net.inputs n.0 n.1))
        | inr k ↦ let n = in_map (Draw.output_label p l) b (numbers 0 p.net.outputs) k in
            subst IsWritableLabel (sym n.2) (output_written n.0 (in_upto p.net.outputs n.0 n.1))
      ]

  element_written : (e : Element) → In e (Draw.top_elements p l) → IsWritableElement count e
  element_written e h =
      elim (in_append e (Draw.shape_elements p l) (map (λ (b : Label). Text b) (Draw.labels p l)) h) [
        | inl k ↦ elim (in_append e (flat_map (Draw.row_elements p l) (numbers 0 (length p.net.rows)))
            (Draw.boxes (sheet p l) (lag_tags p.lag)) k) [
              | inl m ↦ let r = in_flat_map (Draw.row_elements p l) e (numbers 0 (length p.net.rows)) m in
                  row_written r.0 (in_upto (length p.net.rows) r.0 r.1) e r.2
              | inr m ↦ let t = in_map (λ (u : Tag). Box (shape_of (sheet p l) u)) e (lag_tags p.lag) m in
                  subst (IsWritableElement count) (sym t.2) (lag_written t.0 t.1)
            ]
        | inr k ↦ let b = in_map (λ (b : Label). Text b) e (Draw.labels p l) k in
            subst (IsWritableElement count) (sym b.2) (text_written b.0 b.1)
      ]

  top_written : IsWritableStructure count (Draw.top_of p l)
  top_written = record {
    name = text_of _ tt tt (lit< tt, (lit< tt, (lit< tt, tt)));
    elements = all_of (IsWritableElement count) (Draw.top_elements p l)
        (in_all (IsWritableElement count) (Draw.top_elements p l) element_written);
  }

  abbrev all : List Structure
  all = map (Draw.cell_structure l) kinds ++ Draw.top_of p l ∷ []

  any_written : (s : Structure) → In s all → IsWritableStructure count s
  any_written s h = elim (in_append s (map (Draw.cell_structure l) kinds) (Draw.top_of p l ∷ []) h) [
    | inl k ↦ let m = in_map (Draw.cell_structure l) s kinds k in
        subst (IsWritableStructure count) (sym m.2) (structure_written m.1.0 m.0 m.1.1)
    | inr k ↦ elim (in_head s (Draw.top_of p l) [] k)
        [ inl e ↦ subst (IsWritableStructure count) (sym e) top_written | inr n ↦ absurd (not_in_nil s n) ]
  ]

  count_is : length all ≡ count
  count_is = let a = length-append (map (Draw.cell_structure l) kinds) (Draw.top_of p l ∷ []) in
      let b = length-map kinds (Draw.cell_structure l) in omega arith

  -- every structure can be written, its references name structures, and the top is one of them
  pub each_written : All (IsWritableStructure (length (Draw.draw p l).structures)) (Draw.draw p l).structures
      × ((Draw.draw p l).top < length (Draw.draw p l).structures)
  unfolding Draw.draw
  each_written = (
    subst (λ (n : ℕ). All (IsWritableStructure n) all) (sym count_is)
        (all_of (IsWritableStructure count) all (in_all (IsWritableStructure count) all any_written)),
    omega
        (arith, count_is),
  )
