-- The circuit of a drawing counts the wires of its placed net: each fed pin is an input pin that no label marks.
use Rattle.std.proofs.Common.{◌≡◌, ℕ, zero, suc, ◌+◌, ◌*◌, ◌%◌, Bool, true, false, not, ◌&&◌, ◌==◌, cond, refl, sym, ap}
use Rattle.std.proofs.Common.{subst, ◌∙◌, arith, List, [], ◌∷◌, ◌++◌, length, map, Option, Some, None}
use Rattle.std.specs.Prelude.{slice_get, count_by}
use Rattle.std.specs.List.{flat_map}
use Rattle.std.proofs.lemmas.Bool.{ne_eqb, false_from_ne_true}
use Rattle.std.proofs.lemmas.List.Sums.{sum_by-cons, sum_by-append}
use Rattle.std.proofs.lemmas.Option.{same_Some}
use Rattle.circuit.specs.CellKinds.{inputs_of, outputs_of}
use Rattle.circuit.specs.declared.cell_kind.CellKind.{CellKind}
use Rattle.cell_library.specs.Library.{LibraryView, input_column_of, output_column_of}
use Rattle.geom.specs.declared.shapes.Shape.{Shape}
use Rattle.layout_rules.specs.Labels.{is_labelled}
use Rattle.sorting.specs.Numbers.{numbers}
use Rattle.rowed.specs.PlacedNets.{PlacedView, IsPlaced}
use Rattle.rowed.specs.RowNets.{row_at}
use Rattle.rowed.specs.declared.row_cell.RowCell.{RowCell}
use Rattle.rowed.specs.declared.source.Source.{Source}
use Rattle.rowed.specs.declared.wire.Wire.{Wire}
use Rattle.rowed.specs.Counts.{fed, cell_feeds, row_feeds, wires_in}
use Rattle.shape_extract.specs.Extraction.{is_wired}
use Rattle.layout_make.specs.Channel.{channel}
use Rattle.layout_make.proofs.Lawful.{IsLawful}
use Rattle.layout_make.specs.Laws.{flat_shapes, InAt}
use Rattle.layout_make.specs.Tags.{At, sheet, tags, cell_tags, spot_tags, wire_tags, line_tags, row_tags, lag_tags}
use Rattle.layout_make.specs.Sheet.{Tag, Frame, InPin, OutPin, Lead, Bar, Rise, Fall, Across, FromVia, ToVia, shape_of}
use Rattle.layout_make.specs.Spots.{spots}
use Rattle.layout_make.proofs.ReadyNets.{IsReady}
use Rattle.layout_make.specs.declared.spots.Spot.{Spot}
use Rattle.layout_make.proofs.FlatLaw.{flat_is_tags}
use Rattle.layout_make.proofs.Joins.{to_map}
use Rattle.layout_make.proofs.Ready.{stands_at}
use Rattle.layout_make.proofs.Wiring.{flat, Ports, input_number, row_labelled, labelled_row}
use Rattle.layout_realises.proofs.Counts.{spot_feeds, feeds_at, row_feeds_are}

-- input pins above the first row
abbrev is_upper_pin : Tag → Bool
is_upper_pin (Frame r slot kind) = false
is_upper_pin (InPin zero c i) = false
is_upper_pin (InPin (suc r) c i) = true
is_upper_pin (OutPin r c i) = false
is_upper_pin (Lead r) = false
is_upper_pin (Bar r) = false
is_upper_pin (Rise r c) = false
is_upper_pin (Fall r c) = false
is_upper_pin (Across r c) = false
is_upper_pin (FromVia r c) = false
is_upper_pin (ToVia r c) = false

-- ---- which shapes are wired

line_layer : (r : ℕ) → (14 + r % 2 == 21) ≡ false
line_layer r = ne_eqb (14 + r % 2) 21 (λ e. omega arith)

rows_same : (r q c d i j : ℕ) → InPin r c i ≡ InPin q d j → r ≡ q
rows_same r q c d i j e = cc

module _ (p : PlacedView) (l : LibraryView) (is : IsReady p l) (laws : IsLawful l) (ports : Ports p) where
  labelled_so : (r c i m : ℕ) → At (tags p l) m (InPin r c i)
      → not (is_labelled (flat p l) (shape_of (sheet p l) (InPin r c i))) ≡ is_upper_pin (InPin r c i)
  labelled_so r c i m at = go r at
    where
      shape_there : (r : ℕ) → At (tags p l) m (InPin r c i)
          → slice_get (flat_shapes p l) m ≡ Some (shape_of (sheet p l) (InPin r c i))
      shape_there r at = ap (λ (ss : List Shape). slice_get ss m) (flat_is_tags p l laws)
          ∙ to_map (shape_of (sheet p l)) (tags p l) m (InPin r c i) at

      go : (r : ℕ) → At (tags p l) m (InPin r c i)
          → not (is_labelled (flat p l) (shape_of (sheet p l) (InPin r c i))) ≡ is_upper_pin (InPin r c i)
      go zero at =
          let pin = shape_of (sheet p l) (InPin zero c i) in
          let n = input_number p l laws m pin (shape_there zero at) refl in
          let row : n.row ≡ 0 = rows_same _ _ _ _ _ _ (same_Some _ _ (sym n.in_at.at ∙ at)) in
          ap not
          (row_labelled p l is laws ports n.cell n.pin m pin
          (subst (λ (q : ℕ). InAt p l q n.cell n.pin m) row n.in_at) (shape_there zero at))
      go (suc r) at =
          let pin = shape_of (sheet p l) (InPin (suc r) c i) in
          let n = input_number p l laws m pin (shape_there (suc r) at) refl in
          let row : n.row ≡ suc r = rows_same _ _ _ _ _ _ (same_Some _ _ (sym n.in_at.at ∙ at)) in
          ap not (false_from_ne_true (is_labelled (flat p l) pin) (λ e. (
          let first : n.row ≡ 0 = labelled_row p l is laws ports n.row n.cell n.pin m pin n.in_at
          (shape_there (suc r) at) refl e in
          omega arith)))

  wired_so : (m : ℕ) (t : Tag) → At (tags p l) m t → is_wired (flat p l) (shape_of (sheet p l) t) ≡ is_upper_pin t
  wired_so m (Frame r slot kind) at = refl
  wired_so m (InPin r c i) at = labelled_so r c i m at
  wired_so m (OutPin r c i) at = refl
  wired_so m (Lead r) at = ap (λ (b : Bool). b && not (is_labelled (flat p l) (shape_of (sheet p l) (Lead r))))
      (line_layer (suc r))
  wired_so m (Bar r) at = ap (λ (b : Bool). b && not (is_labelled (flat p l) (shape_of (sheet p l) (Bar r))))
      (line_layer (suc r))
  wired_so m (Rise r c) at = refl
  wired_so m (Fall r c) at = refl
  wired_so m (Across r c) at = refl
  wired_so m (FromVia r c) at = refl
  wired_so m (ToVia r c) at = refl

-- ---- how many tags are those of such pins

upper_pins : List Tag → ℕ
upper_pins ts = count_by is_upper_pin ts

pins-cons : (t : Tag) (ts : List Tag) → upper_pins (t ∷ ts) ≡ cond (is_upper_pin t) 1 0 + upper_pins ts
unfolding upper_pins
pins-cons t ts = sum_by-cons (λ u. cond (is_upper_pin u) 1 0) t ts

pins-append : (ts us : List Tag) → upper_pins (ts ++ us) ≡ upper_pins ts + upper_pins us
unfolding upper_pins
pins-append ts us = sum_by-append (λ u. cond (is_upper_pin u) 1 0) ts us

pins-none : upper_pins [] ≡ 0
unfolding upper_pins
pins-none = refl

no_pins : (f : ℕ → Tag) (k n : ℕ) → ((i : ℕ) → is_upper_pin (f i) ≡ false) → upper_pins (map f (numbers k n)) ≡ 0
no_pins f k zero none = pins-none
no_pins f k (suc n) none =
    let a = pins-cons (f k) (map f (numbers (suc k) n)) in
    let b : cond {A = ℕ} (is_upper_pin (f k)) 1 0 ≡ 0 = ap (λ (t : Bool). cond {A = ℕ} t 1 0) (none k) in
    let c = no_pins f (suc k) n none in
    omega arith

all_pins : (f : ℕ → Tag) (k n : ℕ) → ((i : ℕ) → is_upper_pin (f i) ≡ true) → upper_pins (map f (numbers k n)) ≡ n
all_pins f k zero all = pins-none
all_pins f k (suc n) all =
    let a = pins-cons (f k) (map f (numbers (suc k) n)) in
    let b : cond {A = ℕ} (is_upper_pin (f k)) 1 0 ≡ 1 = ap (λ (t : Bool). cond {A = ℕ} t 1 0) (all k) in
    let c = all_pins f (suc k) n all in
    omega arith

-- a cell above the first row has its inputs, and one of the first row none
abbrev pins_of : ℕ → CellKind → ℕ
pins_of zero k = 0
pins_of (suc r) k = inputs_of k

cell_pins : (l : LibraryView) (r slot : ℕ) (k : CellKind) → upper_pins (cell_tags l r slot k) ≡ pins_of r k
cell_pins l r slot k =
    let ins = map (λ i. InPin r (slot * l.columns + input_column_of l k i) i) (numbers 0 (inputs_of k)) in
    let outs = map (λ o. OutPin r (slot * l.columns + output_column_of l k o) o) (numbers 0 (outputs_of k)) in
    let a = pins-cons (Frame r slot k) (ins ++ outs) in
    let b = pins-append ins outs in
    let c = no_pins (λ o. OutPin r (slot * l.columns + output_column_of l k o) o) 0 (outputs_of k) (λ o. refl) in
    let d : upper_pins ins ≡ pins_of r k = inputs r in
    omega arith
  where
    inputs : (r : ℕ)
        → upper_pins (map (λ i. InPin r (slot * l.columns + input_column_of l k i) i) (numbers 0 (inputs_of k))) ≡
        pins_of r k
    inputs zero = no_pins (λ i. InPin 0 (slot * l.columns + input_column_of l k i) i) 0 (inputs_of k) (λ i. refl)
    inputs (suc r) = all_pins (λ i. InPin (suc r) (slot * l.columns + input_column_of l k i) i) 0 (inputs_of k)
        (λ i. refl)

spots_pins : (l : LibraryView) (r : ℕ) (xs : List Spot)
    → ((n : ℕ) (x : Spot) → slice_get xs n ≡ Some x → cell_feeds x.cell ≡ pins_of r x.cell.kind)
    → upper_pins (flat_map (spot_tags l r) xs) ≡ spot_feeds xs
spots_pins l r [] fed_so = pins-none
spots_pins l r (x ∷ xs) fed_so =
    let a = pins-append (spot_tags l r x) (flat_map (spot_tags l r) xs) in
    let b = cell_pins l r x.slot x.cell.kind in
    let c = fed_so 0 x refl in
    let d = spots_pins l r xs (λ n y e. fed_so (suc n) y e) in
    omega arith

wires_pins : (r : ℕ) (ws : List Wire) → upper_pins (flat_map (wire_tags r) ws) ≡ 0
wires_pins r [] = pins-none
wires_pins r (w ∷ ws) =
    let a = pins-append (wire_tags r w) (flat_map (wire_tags r) ws) in
    let b = five r w.from_column in
    let c = wires_pins r ws in
    omega arith
  where
    five : (r c : ℕ) → upper_pins (Rise r c ∷ Fall r c ∷ Across r c ∷ FromVia r c ∷ ToVia r c ∷ []) ≡ 0
    five r c =
        let a = pins-cons (Rise r c) (Fall r c ∷ Across r c ∷ FromVia r c ∷ ToVia r c ∷ []) in
        let b = pins-cons (Fall r c) (Across r c ∷ FromVia r c ∷ ToVia r c ∷ []) in
        let d = pins-cons (Across r c) (FromVia r c ∷ ToVia r c ∷ []) in
        let e = pins-cons (FromVia r c) (ToVia r c ∷ []) in
        let f = pins-cons (ToVia r c) [] in
        let g = pins-none in
        omega arith

lines_pins : (r : ℕ) → upper_pins (line_tags r) ≡ 0
lines_pins r = let a = pins-cons (Lead (suc r)) (Bar (suc r) ∷ []) in let b = pins-cons (Bar (suc r)) [] in
    let c = pins-none in omega arith

lag_pins : (lag : ℕ) → upper_pins (lag_tags lag) ≡ 0
lag_pins zero = pins-none
lag_pins (suc lag) = let a = pins-cons (Lead 0) (Bar 0 ∷ []) in let b = pins-cons (Bar 0) [] in
    let c = pins-none in omega arith

-- ---- row by row

module _ (p : PlacedView) (known : IsPlaced p) where
  no_source : (o : Option Source) → ((s : Source) → o ≡ Some s → ⊥) → fed o ≡ 0
  no_source None none = refl
  no_source (Some s) none = absurd (none s refl)

  -- nothing feeds the first row
  first_row : (n : ℕ) (x : Spot) → slice_get (spots p 0) n ≡ Some x → cell_feeds x.cell ≡ 0
  first_row n x e =
      let before = (stands_at p known 0 n x e).before in
      let a = no_source x.cell.source0 (before 0) in
      let b = no_source x.cell.source1 (before 1) in
      let c = no_source x.cell.source2 (before 2) in
      omega arith

  fed_pins : (r n : ℕ) (x : Spot) → slice_get (spots p r) n ≡ Some x → cell_feeds x.cell ≡ pins_of r x.cell.kind
  fed_pins zero n x e = first_row n x e
  fed_pins (suc r) n x e = feeds_at p known (suc r) n x e

  row_pins : (l : LibraryView) (r : ℕ) → upper_pins (row_tags p l r) ≡ row_feeds (row_at p.net.rows r)
  row_pins l r =
      let wires = flat_map (wire_tags r) (channel p l r) in
      let a = pins-append (flat_map (spot_tags l r) (spots p r)) (line_tags r ++ wires) in
      let b = pins-append (line_tags r) wires in
      let c = lines_pins r in
      let d = wires_pins r (channel p l r) in
      let e = spots_pins l r (spots p r) (fed_pins r) in
      let f = row_feeds_are p known r in
      omega arith

rows_pins : (T : ℕ → List Tag) (k : ℕ) (rows : List (List RowCell))
    → ((r : ℕ) → upper_pins (T (k + r)) ≡ row_feeds (row_at rows r))
    → upper_pins (flat_map T (numbers k (length rows))) ≡ wires_in rows
rows_pins T k [] each = pins-none
rows_pins T k (row ∷ rows) each =
    let a = pins-append (T k) (flat_map T (numbers (suc k) (length rows))) in
    let b : upper_pins (T k) ≡ upper_pins (T (k + 0)) = ap (λ (n : ℕ). upper_pins (T n)) (omega arith) in
    let c = each 0 in
    let d = rows_pins T (suc k) rows
    (λ r. ap (λ (n : ℕ). upper_pins (T n)) (let h : suc k + r ≡ k + suc r = omega arith in h) ∙ each (suc r)) in
    omega arith

-- ---- the drawing

count_map : {A B : Type 0} (test : B → Bool) (f : A → B) (other : A → Bool) (xs : List A)
    → ((n : ℕ) (x : A) → slice_get xs n ≡ Some x → test (f x) ≡ other x) → count_by test (map f xs) ≡ count_by other xs
count_map test f other [] same = refl
count_map test f other (x ∷ xs) same =
    sum_by-cons (λ y. cond (test y) 1 0) (f x) (map f xs)
    ∙ ap (λ (b : Bool). cond b 1 0 + count_by test (map f xs)) (same 0 x refl)
    ∙ ap (λ (n : ℕ). cond (other x) 1 0 + n) (count_map test f other xs (λ n y e. same (suc n) y e))
    ∙ sym (sum_by-cons (λ y. cond (other y) 1 0) x xs)

-- the wires that are counted are the net's
pub wires_are : (p : PlacedView) (l : LibraryView) → IsReady p l → IsLawful l → Ports p → IsPlaced p
    → count_by (is_wired (flat p l)) (flat_shapes p l) ≡ wires_in p.net.rows
unfolding upper_pins
wires_are p l is laws ports known =
    ap (count_by (is_wired (flat p l))) (flat_is_tags p l laws)
    ∙ count_map (is_wired (flat p l)) (shape_of (sheet p l)) is_upper_pin (tags p l) (wired_so p l is laws ports)
    ∙ pins-append (flat_map (row_tags p l) (numbers 0 (length p.net.rows))) (lag_tags p.lag)
    ∙ ap (λ (n : ℕ). upper_pins (flat_map (row_tags p l) (numbers 0 (length p.net.rows))) + n) (lag_pins p.lag)
    ∙ (let z : upper_pins (flat_map (row_tags p l) (numbers 0 (length p.net.rows))) + 0 ≡ upper_pins
    (flat_map (row_tags p l) (numbers 0 (length p.net.rows))) = omega arith in z)
    ∙ rows_pins (row_tags p l) 0 p.net.rows
    (λ r. ap (λ (n : ℕ). upper_pins (row_tags p l n)) (let h : 0 + r ≡ r = omega arith in h) ∙ row_pins p known l r)
