-- The sheet of a placed net keeps what the drawing laws need of its wires and cells.
use Rattle.std.proofs.Common.{◌≡◌, ℕ, zero, suc, ◌+◌, ◌*◌, ◌%◌, ◌/◌, ◌<◌, ◌≤◌, max, true, ◌&&◌, leb, refl, sym, ap}
use Rattle.std.proofs.Common.{subst, ◌∙◌, arith, inl, inr, List, [], ◌∷◌, length, map, Some}
use Rattle.std.specs.Prelude.{slice_get, nat_lt, slice_index_or}
use Rattle.std.proofs.Math.Nat.{mul-le-mul_right}
use Rattle.std.proofs.lemmas.Option.{same_Some, slice_get_within, get_or_from_slice_get}
use Rattle.std.proofs.lemmas.Bool.{cases_eq, eq-eqb, ne_eqb}
use Rattle.std.proofs.lemmas.Bool.Decides.{nat_tests}
use Rattle.circuit.specs.CellKinds.{inputs_of, outputs_of, slots_of}
use Rattle.rowed.specs.declared.wire.Wire.{Wire}
use Rattle.rowed.specs.declared.row_cell.RowCell.{RowCell}
use Rattle.rowed.specs.RowNets.{row_at}
use Rattle.rowed.specs.Slots.{span_of}
use Rattle.rowed.specs.PlacedNets.{PlacedView, paired, placed_rows}
use Rattle.rowed.specs.Extent.{widest}
use Rattle.sorting.specs.Numbers.{place_of}
use Rattle.sorting.specs.Sorting.{EachPair}
use Rattle.channel_route.specs.Crossing.{low, high, crosses, Apart, EndsApart}
use Rattle.channel_route.specs.Tracks.{route_of, tracks_used, AreApart}
use Rattle.cell_library.specs.Library.{LibraryView}
use Rattle.layout_make.proofs.Lawful.{IsLawful}
use Rattle.layout_make.proofs.SheetKeeps.{IsWire, IsRouted}
use Rattle.layout_make.specs.Spots.{Spot, spots_of, spots}
use Rattle.layout_make.proofs.ReadyNets.{IsReady}
use Rattle.layout_make.specs.Channel.{in_column, out_column, from_of, channel}
use Rattle.layout_make.specs.Tags.{wire_place, end_of, sheet}
use Rattle.layout_make.proofs.Member.{In, in_head, not_in_nil, all_in, in_all}
use Rattle.layout_make.proofs.Joins.{from_map, to_map}
use Rattle.layout_make.proofs.PinCounts.{slots_some}
use Rattle.layout_make.proofs.ChannelWires.{wire_of, from_tells, to_tells, channel_pairs}

even_times : (s c : ℕ) → c % 2 ≡ 0 → s * c % 2 ≡ 0
even_times s c e =
    let h : c ≡ 2 * (c / 2) = omega arith in
    let k : s * c ≡ s * (2 * (c / 2)) = ap (λ (x : ℕ). s * x) h in
    let m : s * (2 * (c / 2)) ≡ 2 * (s * (c / 2)) = omega arith in
    let n : s * c ≡ 2 * (s * (c / 2)) = k ∙ m in
    omega arith

pub in_odd : (p : PlacedView) (l : LibraryView) → IsReady p l → IsLawful l → (r n : ℕ) (x : Spot) (i : ℕ)
    → slice_get (spots p r) n ≡ Some x → i < inputs_of x.cell.kind → in_column l x i % 2 ≡ 1
in_odd p l is laws r n x i at lt = let e = even_times x.slot l.columns laws.columns_even in
    let f = laws.input_odd x.cell.kind i (is.given r n x at) lt in omega arith

pub out_even : (p : PlacedView) (l : LibraryView) → IsReady p l → IsLawful l → (r n : ℕ) (x : Spot) (o : ℕ)
    → slice_get (spots p r) n ≡ Some x → o < outputs_of x.cell.kind → out_column l x o % 2 ≡ 0
out_even p l is laws r n x o at lt = let e = even_times x.slot l.columns laws.columns_even in
    let f = laws.output_even x.cell.kind o (is.given r n x at) lt in omega arith

-- the wire at a column

pub at_place : (xs : List ℕ) (c : ℕ) → In c xs → slice_get xs (place_of xs c) ≡ Some c
at_place [] c h = absurd (not_in_nil c h)
at_place (x ∷ xs) c h = elim (cases_eq x c) [
  | inl e ↦ rw (eq-eqb x c e) (ap (λ (n : ℕ). Some n) e)
  | inr ne ↦ elim (in_head c x xs h) [ inl e ↦ absurd (ne (sym e)) | inr k ↦ rw (ne_eqb x c ne) (at_place xs c k) ]
]

pub place_within : (xs : List ℕ) (c : ℕ) → place_of xs c < length xs → In c xs
place_within [] c lt = absurd (omega arith)
place_within (x ∷ xs) c lt = elim (cases_eq x c) [
  | inl e ↦ (0, ap (λ (n : ℕ). Some n) e)
  | inr ne ↦ let k = place_within xs c (let e : place_of (x ∷ xs) c ≡ suc (place_of xs c) = rw (ne_eqb x c ne) refl in
      omega arith) in (suc k.0, k.1)
]

pub wire_at : (p : PlacedView) (l : LibraryView) → IsReady p l → IsLawful l → (r : ℕ) (w : Wire) → In w (channel p l r)
    → slice_get (channel p l r) (wire_place (channel p l r) w.from_column) ≡ Some w
wire_at p l is laws r w h =
    let ws = channel p l r in
    let at = at_place (map from_of ws) w.from_column (h.0, to_map from_of ws h.0 w h.1) in
    let v = from_map from_of ws (wire_place ws w.from_column) w.from_column at in
    v.1 ∙ ap (λ (z : Wire). Some z) (from_tells p l is laws r v.0 w (wire_place ws w.from_column, v.1) h v.2)

within_test : (a b : ℕ) → a < b → nat_lt a b ≡ true
within_test a b lt = grind (arith, nat_tests)

test_within : (a b : ℕ) → nat_lt a b ≡ true → a < b
test_within a b e = grind (arith, nat_tests)

-- all end columns are distinct

pub pairs_with : (R S : Wire → Wire → Type 0) (ws : List Wire) → EachPair R ws
    → ((v w : Wire) → In v ws → In w ws → R v w → S v w) → EachPair S ws
pairs_with R S [] all f = tt
pairs_with R S (v ∷ ws) all f = (
  in_all (S v) ws (λ w h. f v w (0, refl) (suc h.0, h.1) (all_in (R v) w ws all.0 h)),
  pairs_with R S ws all.1
      (λ a b ha hb. f a b (suc ha.0, ha.1) (suc hb.0, hb.1)),
)

pub wire_ends : (p : PlacedView) (l : LibraryView) → IsReady p l → IsLawful l → (r : ℕ) (w : Wire)
    → In w (channel p l r) → (w.from_column % 2 ≡ 0) × (w.to_column % 2 ≡ 1)
wire_ends p l is laws r w h =
    let a = wire_of p l is r w h in (
      ap (λ (z : Wire). z.from_column % 2) a.wire_is ∙ out_even p l is laws r a.source.cell a.from a.source.output
          a.from_at a.output_below,
      ap (λ (z : Wire). z.to_column % 2) a.wire_is ∙ in_odd p l is laws (suc r) a.cell a.spot a.pin a.at a.pin_below,
    )

parity_apart : (a b : ℕ) → a % 2 ≡ 0 → b % 2 ≡ 1 → a ≡ b → ⊥
parity_apart a b p q e = let k : a % 2 ≡ b % 2 = ap (λ (n : ℕ). n % 2) e in omega arith

pub ends_apart : (p : PlacedView) (l : LibraryView) → IsReady p l → IsLawful l → (r : ℕ) → EndsApart (channel p l r)
ends_apart p l is laws r = record {
  own = in_all (λ (w : Wire). w.from_column ≡ w.to_column → ⊥) (channel p l r)
      (λ w h. let k = wire_ends p l is laws r w h in parity_apart w.from_column w.to_column k.0 k.1);
  others = pairs_with (λ (v : Wire) (w : Wire). v.to_slot ≡ w.to_slot → ⊥) Apart (channel p l r)
      (channel_pairs p l is r) (λ v w hv hw ne.
      let a = wire_ends p l is laws r v hv in
      let b = wire_ends p l is laws r w hw in
      record {
        from_from = λ e. ne (ap (λ (z : Wire). z.to_slot) (from_tells p l is laws r v w hv hw e));
        from_to = λ e. parity_apart v.from_column w.to_column a.0 b.1 e;
        to_from = λ e. parity_apart w.from_column v.to_column b.0 a.1 (sym e);
        to_to = λ e. ne (ap (λ (z : Wire). z.to_slot) (to_tells p l is laws r v w hv hw e));
      });
}

pub tracks_apart : (p : PlacedView) (l : LibraryView) → IsReady p l → IsLawful l → (r : ℕ)
    → AreApart (channel p l r) (route_of (channel p l r)) (tracks_used (channel p l r))
tracks_apart p l is laws r = (is.routes (channel p l r) (ends_apart p l is laws r)).apart

pub wire_is : (p : PlacedView) (l : LibraryView) → IsReady p l → IsLawful l → (r : ℕ) (w : Wire) → In w (channel p l r)
    → IsWire (sheet p l) r w.from_column × ((sheet p l).to r w.from_column ≡ w.to_column)
unfolding sheet
wire_is p l is laws r w h =
    let ws = channel p l r in
    let k = wire_place ws w.from_column in
    let at = wire_at p l is laws r w h in
    let within = slice_get_within ws k w at in
    let to : slice_index_or (map end_of ws) k 0 ≡ w.to_column = get_or_from_slice_get (map end_of ws) k w.to_column 0
    (to_map end_of ws k w at) in
    let ends = wire_ends p l is laws r w h in (
      record {
        wired_so = within_test k (length ws) within;
        even = ends.0;
        odd = ap (λ (n : ℕ). n % 2) to ∙ ends.1;
        tracked = (tracks_apart p l is laws r).below_used k within;
      },
      to,
    )

pub wired_column : (p : PlacedView) (l : LibraryView) (r c : ℕ) → (sheet p l).wired r c ≡ true
    → (w : Wire) × In w (channel p l r) × (w.from_column ≡ c)
unfolding sheet
wired_column p l r c e =
    let ws = channel p l r in
    let k = place_within (map from_of ws) c (let lt = test_within (wire_place ws c) (length ws) e in
    subst (λ (n : ℕ). place_of (map from_of ws) c < n) (sym (length_map from_of ws)) lt) in
    let v = from_map from_of ws k.0 c k.1 in
    (v.0, (k.0, v.1), v.2)
  where
    length_map : {A B : Type 0} (f : A → B) (xs : List A) → length (map f xs) ≡ length xs
    length_map f [] = refl
    length_map f (x ∷ xs) = let k = length_map f xs in omega arith

pub wired_wire : (p : PlacedView) (l : LibraryView) (r c : ℕ) → IsWire (sheet p l) r c
    → (w : Wire) × In w (channel p l r) × (w.from_column ≡ c)
wired_wire p l r c w = wired_column p l r c w.wired_so

-- wires of one track that cross a column are one

low_crosses : (w v : Wire) → low w ≤ high v → low v ≤ high w → (x : ℕ) × (crosses x w ≡ true) × (crosses x v ≡ true)
low_crosses w v a b = (
  max (low w) (low v),
  plain (low w) (high w) (max (low w) (low v)) (omega arith) (omega arith),
  plain (low v)
      (high v) (max (low w) (low v)) (omega arith) (omega arith),
)
  where
    plain : (a b x : ℕ) → a ≤ x → x ≤ b → (leb a x && leb x b) ≡ true
    plain a b x p q = grind (arith, nat_tests)

one_wire : (p : PlacedView) (l : LibraryView) → IsReady p l → IsLawful l → (r : ℕ) (w v : Wire) → In w (channel p l r)
    → In v (channel p l r) → slice_index_or (route_of (channel p l r)) (wire_place (channel p l r) w.from_column)
    0 ≡ slice_index_or (route_of (channel p l r)) (wire_place (channel p l r) v.from_column) 0 → low w ≤ high v
    → low v ≤ high w → w.from_column ≡ v.from_column
one_wire p l is laws r w v hw hv e a b =
    let ws = channel p l r in
    let i = wire_place ws w.from_column in
    let j = wire_place ws v.from_column in
    let aw = wire_at p l is laws r w hw in
    let av = wire_at p l is laws r v hv in
    let x = low_crosses w v a b in
    elim (cases_eq i j) [
      | inl same ↦ ap from_of (same_Some _ _ (sym aw ∙ ap (λ (n : ℕ). slice_get ws n) same ∙ av))
      | inr ne ↦ absurd ((tracks_apart p l is laws r).distinct x.0 i j w (slice_get_within ws i w aw)
          (slice_get_within ws j v av) ne
          (ap (crosses x.0) (get_or_from_slice_get ws i w w aw) ∙ x.1)
          (ap (crosses x.0) (get_or_from_slice_get ws j v w av) ∙ x.2)
          e)
    ]

-- frames stand left of the right edge

span_most : (cells : List RowCell) (slots : List ℕ) (x : Spot) → In x (spots_of cells slots)
    → x.slot + slots_of x.cell.kind ≤ span_of cells slots
span_most [] slots x h = absurd (not_in_nil x h)
span_most (c ∷ cells) [] x h = absurd (not_in_nil x h)
span_most (c ∷ cells) (s ∷ slots) x h = elim (in_head x (record { cell = c; slot = s }) (spots_of cells slots) h) [
  | inl e ↦ let k : x.slot + slots_of x.cell.kind ≡ s + slots_of
      c.kind = ap (λ (z : Spot). z.slot + slots_of z.cell.kind) e in omega arith
  | inr k ↦ let m = span_most cells slots x k in omega arith
]

pub widest_most : (rows : List (List RowCell)) (slots : List (List ℕ)) (r : ℕ) (x : Spot)
    → In x (spots_of (row_at rows r) (slice_index_or slots r [])) → x.slot + slots_of x.cell.kind ≤ widest
    (paired rows slots)
widest_most [] slots r x h = absurd (not_in_nil x h)
widest_most (row ∷ rows) [] r x h = absurd (none (row_at (row ∷ rows) r) x h)
  where
    none : (cells : List RowCell) (x : Spot) → In x (spots_of cells []) → ⊥
    none [] x h = not_in_nil x h
    none (c ∷ cells) x h = not_in_nil x h
widest_most (row ∷ rows) (s ∷ slots) zero x h = let m = span_most row s x h in omega arith
widest_most (row ∷ rows) (s ∷ slots) (suc r) x h = let m = widest_most rows slots r x h in omega arith

pub frame_fits : (p : PlacedView) (l : LibraryView) (r : ℕ) (x : Spot) → In x (spots p r)
    → (x.slot + slots_of x.cell.kind) * (l.columns * l.pitch) ≤ widest (placed_rows p) * (l.columns * l.pitch)
frame_fits p l r x h = mul-le-mul_right (l.columns * l.pitch) (widest_most p.net.rows p.slots r x h)

pub routed : (p : PlacedView) (l : LibraryView) → IsReady p l → IsLawful l → IsRouted (sheet p l)
unfolding sheet
routed p l is laws = record {
  laws = laws;
  right_some =
      let x = is.some_cell 0 (let k = is.rows_some in omega arith) in
      let fits = frame_fits p l 0 x.0 (0, x.1) in
      let some = slots_some x.0.cell.kind in
      let wide = slot_some l laws in
      let one : 1 * (l.columns * l.pitch) ≤ (x.0.slot + slots_of x.0.cell.kind) * (l.columns * l.pitch)
      = mul-le-mul_right (l.columns * l.pitch) (let k : 1 ≤ x.0.slot + slots_of x.0.cell.kind = omega arith in k) in
      omega arith;
  rows_some = is.rows_some;
  one_end = λ r c d w v e.
      let a = wired_wire p l r c w in
      let b = wired_wire p l r d v in
      let ta = (wire_is p l is laws r a.0 a.1).1 in
      let tb = (wire_is p l is laws r b.0 b.1).1 in
      let same : a.0.to_column ≡ b.0.to_column = sym ta ∙ ap (λ (n : ℕ). (sheet p l).to r n) a.2 ∙ e
      ∙ ap (λ (n : ℕ). (sheet p l).to r n) (sym b.2) ∙ tb in
      sym a.2 ∙ ap from_of (to_tells p l is laws r a.0 b.0 a.1 b.1 same) ∙ b.2;
  one_wire = λ r c d w v e x y.
      let a = wired_wire p l r c w in
      let b = wired_wire p l r d v in
      let ta : (sheet p l).to r c ≡ a.0.to_column = ap (λ (n : ℕ). (sheet p l).to r n) (sym a.2)
      ∙ (wire_is p l is laws r a.0 a.1).1 in
      let tb : (sheet p l).to r d ≡ b.0.to_column = ap (λ (n : ℕ). (sheet p l).to r n) (sym b.2)
      ∙ (wire_is p l is laws r b.0 b.1).1 in
      let fa = a.2 in let fb = b.2 in
      let track : (sheet p l).track r a.0.from_column ≡ (sheet p l).track r
      b.0.from_column = ap (λ (n : ℕ). (sheet p l).track r n) a.2 ∙ e ∙ ap (λ (n : ℕ). (sheet p l).track r n)
      (sym b.2) in
      sym a.2 ∙ one_wire p l is laws r a.0 b.0 a.1 b.1 track (omega arith) (omega arith) ∙ b.2;
}
  where
    slot_some : (l : LibraryView) → IsLawful l → 1 ≤ l.columns * l.pitch
    slot_some l laws = let a = laws.columns_some in let b = laws.spaced in let c = laws.space_some in
        let h : 1 * l.pitch ≤ l.columns * l.pitch = mul-le-mul_right l.pitch a in omega arith
