-- The wires that leave the rows are all wires, each once.
use Rattle.std.proofs.Common.{◌≡◌, ℕ, zero, suc, ◌+◌, ◌<◌, ◌≤◌, Bool, true, false, cond, ◌&&◌, List, [], ◌∷◌}
use Rattle.std.proofs.Common.{length, Some, ℤ, refl, sym, ap, subst, ◌∙◌, arith, inl, inr, eq-eqb}
use Rattle.std.specs.Prelude.{slice_get, slice_index, filter, count_by, zip, int_lt, not, ◌==◌, ◌⊎◌}
use Rattle.std.specs.List.{list_any}
use Rattle.std.specs.Ordering.{int_eq}
use Rattle.std.proofs.lemmas.Bool.{cases_eq, both_ways, not-true, and_parts, and_from, or_cases, eqb-true}
use Rattle.std.proofs.lemmas.Bool.{false_from_ne_true}
use Rattle.std.proofs.lemmas.Bool.Decides.{Decides-int_eq}
use Rattle.std.proofs.lemmas.Int.{ints}
use Rattle.std.proofs.lemmas.List.Sums.{sum_by-cons, length-filter, count_by-le-length}
use Rattle.std.proofs.lemmas.Option.{slice_get_within}
use Rattle.shape_extract.proofs.SameShapes.{int_itself}
use Rattle.geom.specs.declared.shapes.Shape.{Shape}
use Rattle.geom.specs.declared.shapes.Flat.{Flat}
use Rattle.layout_rules.specs.declared.layers.TheConstants.{INPUT_PIN, OUTPUT_PIN}
use Rattle.layout_rules.specs.declared.rule.Rule.TheVariants.{E1, E3, G5}
use Rattle.layout_rules.specs.Labels.{is_labelled}
use Rattle.layout_rules.specs.Layers.{is_frame, is_pin}
use Rattle.layout_rules.specs.Limits.{Limits}
use Rattle.layout_rules.specs.Pins.{lies_in, LiesIn}
use Rattle.layout_rules.specs.Reports.{Passes}
use Rattle.layout_rules.specs.Rows.{has_edge, lower_edges, row_of, row_count}
use Rattle.layout_rules.specs.Rules.{KeepsRules}
use Rattle.layout_rules.specs.CircuitRules.{IsInput, IsSource}
use Rattle.layout_rules.proofs.NetLaws.{one_number}
use Rattle.layout_rules.proofs.PlaceLaws.{PassesAt, list_any-at, list_any-place}
use Rattle.layout_rules.proofs.Places.{zip_at as zip_put}
use Rattle.circuit_extracted.specs.Circuits.{CircuitView}
use Rattle.shape_extract.specs.Extraction.{IsCircuitOf, is_wired}
use Rattle.text_report.specs.Wires.{wires, wires_from, wires_of_rows, leaves, shapes_in_nets}
use Rattle.text_report.specs.Code.Sources.{AreInOrder, HasSource}
use Rattle.text_report.proofs.PinRows.{pin_so, frame_of}
use Rattle.text_report.proofs.Wired.{leaves_q, leaves_one}
use Rattle.text_report.proofs.Zipped.{zip_at}
use Rattle.shape_extract.specs.Code.PinRows.{IsRowOf}

-- ---- items that are of one row each

-- how many of the items are of the first n rows
abbrev rows_total : {X : Type 0} → (ℕ → X → Bool) → List X → ℕ → ℕ
rows_total of items zero = 0
rows_total of items (suc row) = rows_total of items row + length (filter (of row) items)

-- how many of the first n rows an item is of
abbrev hits : {X : Type 0} → (ℕ → X → Bool) → X → ℕ → ℕ
hits of x zero = 0
hits of x (suc row) = hits of x row + cond (of row x) 1 0

-- the item is of one row, which is among the first n
record HasOneRow {X : Type 0} (of : ℕ → X → Bool) (n : ℕ) (x : X) : Type 0 where
  row : ℕ
  within : row < n
  is_of : of row x ≡ true
  one : (other : ℕ) → of other x ≡ true → other ≡ row

filter_one : {X : Type 0} (p : X → Bool) (x : X) (xs : List X)
    → length (filter p (x ∷ xs)) ≡ cond (p x) 1 0 + length (filter p xs)
filter_one p x xs =
    length-filter p (x ∷ xs) ∙ (sum_by-cons (λ y. cond (p y) 1 0) x xs
    ∙ ap (λ (k : ℕ). cond (p x) 1 0 + k) (sym (length-filter p xs)))

total_cons : {X : Type 0} (of : ℕ → X → Bool) (x : X) (xs : List X) (n : ℕ)
    → rows_total of (x ∷ xs) n ≡ hits of x n + rows_total of xs n
total_cons of x xs zero = refl
total_cons of x xs (suc row) =
    let before : rows_total of (x ∷ xs) row ≡ hits of x row + rows_total of xs row = total_cons of x xs row in
    omega (arith, filter_one (of row) x xs)

total_none : {X : Type 0} (of : ℕ → X → Bool) (n : ℕ) → rows_total of [] n ≡ 0
total_none of zero = refl
total_none of (suc row) = omega (arith, total_none of row)

hits_none : {X : Type 0} (of : ℕ → X → Bool) (x : X) (q n : ℕ) → ((row : ℕ) → of row x ≡ true → row ≡ q) → n ≤ q
    → hits of x n ≡ 0
hits_none of x q zero one le = refl
hits_none of x q (suc row) one le =
    let before : hits of x row ≡ 0 = hits_none of x q row one (omega arith) in
    let no : of row x ≡ false =
    false_from_ne_true (of row x) (λ e. (let same : row ≡ q = one row e in omega arith)) in
    ap (λ (b : Bool). hits of x row + cond b 1 0) no ∙ omega (arith, before)

hits_one : {X : Type 0} (of : ℕ → X → Bool) (x : X) (q n : ℕ) → ((row : ℕ) → of row x ≡ true → row ≡ q) → q < n
    → of q x ≡ true → hits of x n ≡ 1
hits_one of x q zero one lt so = absurd (omega arith)
hits_one of x q (suc row) one lt so = elim (cases_eq row q) [
  | inl same ↦
      let none : hits of x row ≡ 0 = hits_none of x q row one (omega arith) in
      let here : of row x ≡ true = subst (λ (r : ℕ). of r x ≡ true) (sym same) so in
      ap (λ (b : Bool). hits of x row + cond b 1 0) here ∙ omega (arith, none)
  | inr ne ↦
      let before : hits of x row ≡ 1 = hits_one of x q row one (omega arith) so in
      let no : of row x ≡ false = false_from_ne_true (of row x) (λ e. ne (one row e)) in
      ap (λ (b : Bool). hits of x row + cond b 1 0) no ∙ omega (arith, before)
]

-- where each item that is kept is of one row, the rows have them all
total_kept : {X : Type 0} (of : ℕ → X → Bool) (kept : X → Bool) (items : List X) (n : ℕ)
    → ((k : ℕ) (x : X) → slice_get items k ≡ Some x → kept x ≡ true → HasOneRow of n x)
    → rows_total of (filter kept items) n ≡ length (filter kept items)
total_kept of kept [] n each = total_none of n
total_kept {X} of kept (x ∷ xs) n each =
    by_test (kept x) refl (total_kept of kept xs n (λ k y at so. each (suc k) y at so))
  where
    by_test : (b : Bool) → kept x ≡ b → rows_total of (filter kept xs) n ≡ length (filter kept xs)
        → rows_total of (filter kept (x ∷ xs)) n ≡ length (filter kept (x ∷ xs))
    by_test true e rest =
        let has : HasOneRow of n x = each 0 x refl e in
        let here : hits of x n ≡ 1 = hits_one of x has.row n has.one has.within has.is_of in
        let all : rows_total of (x ∷ filter kept xs) n ≡ length (x ∷ filter kept xs) =
        omega (arith, total_cons of x (filter kept xs) n) in
        subst (λ (l : List X). rows_total of l n ≡ length l)
        (sym (ap (λ (v : Bool). cond {A = List X} v (x ∷ filter kept xs) (filter kept xs)) e)) all
    by_test false e rest =
        subst (λ (l : List X). rows_total of l n ≡ length l)
        (sym (ap (λ (v : Bool). cond {A = List X} v (x ∷ filter kept xs) (filter kept xs)) e)) rest

-- ---- the row of a frame is one of the rows

edges_by : (s : Shape) (ss : List Shape) (b : Bool) → (is_frame s && not (has_edge ss s.rect.y0)) ≡ b
    → lower_edges (s ∷ ss) ≡ cond {A = List ℤ} b (s.rect.y0 ∷ lower_edges ss) (lower_edges ss)
edges_by s ss true e = rw (e, lower_edges) refl
edges_by s ss false e = rw (e, lower_edges) refl

abbrev AreSomeBelow : ℤ → List ℤ → Type 0
AreSomeBelow y edges = count_by (λ edge. int_lt edge y) edges < length edges

not_below : (x y : ℤ) → int_eq x y ≡ true → int_lt x y ≡ false
not_below x y h = grind (arith, ints)

one_more : (b : Bool) (e : ℤ) (edges : List ℤ) (y : ℤ) → int_lt e y ≡ b
    → count_by (λ edge. int_lt edge y) (e ∷ edges) ≡ cond b 1 0 + count_by (λ edge. int_lt edge y) edges
one_more b e edges y is =
    sum_by-cons (λ x. cond (int_lt x y) 1 0) e edges
    ∙ ap (λ (v : Bool). cond v 1 0 + count_by (λ edge. int_lt edge y) edges) is

first_here : (e : ℤ) (edges : List ℤ) (y : ℤ) → int_lt e y ≡ false → AreSomeBelow y (e ∷ edges)
first_here e edges y is =
    omega (arith, one_more false e edges y is, count_by-le-length (λ edge. int_lt edge y) edges)

later_here : (b : Bool) (e : ℤ) (edges : List ℤ) (y : ℤ) → int_lt e y ≡ b → AreSomeBelow y edges
    → AreSomeBelow y (e ∷ edges)
later_here true e edges y is some = omega (arith, one_more true e edges y is)
later_here false e edges y is some = omega (arith, one_more false e edges y is)

row_below : (shapes : List Shape) (y : ℤ) → has_edge shapes y ≡ true → AreSomeBelow y (lower_edges shapes)
row_below [] y h = absurd (both_ways (has_edge [] y) refl h)
row_below (s ∷ ss) y h =
    by_test (is_frame s && not (has_edge ss s.rect.y0)) refl (λ z some. row_below ss z some)
    (or_cases (is_frame s && int_eq s.rect.y0 y) (has_edge ss y) h)
  where
    old : (b c : Bool) → b ≡ true → (b && not c) ≡ false → c ≡ true
    old true true is none = refl
    old true false is none = absurd (both_ways (true && not false) none refl)
    old false c is none = absurd (both_ways false refl is)

    by_test : (b : Bool) → (is_frame s && not (has_edge ss s.rect.y0)) ≡ b
        → ((z : ℤ) → has_edge ss z ≡ true → AreSomeBelow z (lower_edges ss))
        → ((is_frame s && int_eq s.rect.y0 y) ≡ true) ⊎ (has_edge ss y ≡ true)
        → AreSomeBelow y (lower_edges (s ∷ ss))
    by_test true e below (inl here) =
        subst (AreSomeBelow y) (sym (edges_by s ss true e))
        (first_here s.rect.y0 (lower_edges ss) y
        (not_below s.rect.y0 y (and_parts (is_frame s) (int_eq s.rect.y0 y) here).1))
    by_test true e below (inr later) =
        subst (AreSomeBelow y) (sym (edges_by s ss true e))
        (later_here (int_lt s.rect.y0 y) s.rect.y0 (lower_edges ss) y refl (below y later))
    by_test false e below (inl here) =
        let parts : (is_frame s ≡ true) × (int_eq s.rect.y0 y ≡ true) =
        and_parts (is_frame s) (int_eq s.rect.y0 y) here in
        let same : s.rect.y0 ≡ y = (Decides-int_eq s.rect.y0 y).0 parts.1 in
        let some : has_edge ss s.rect.y0 ≡ true = old (is_frame s) (has_edge ss s.rect.y0) parts.0 e in
        subst (AreSomeBelow y) (sym (edges_by s ss false e))
        (below y (subst (λ (z : ℤ). has_edge ss z ≡ true) same some))
    by_test false e below (inr later) =
        subst (AreSomeBelow y) (sym (edges_by s ss false e)) (below y later)

frame_row : (shapes : List Shape) (f : ℕ) (frame : Shape) → slice_get shapes f ≡ Some frame → is_frame frame ≡ true
    → row_of shapes frame.rect.y0 < row_count shapes
frame_row shapes f frame is so =
    row_below shapes frame.rect.y0
    (list_any-at (λ s. is_frame s && int_eq s.rect.y0 frame.rect.y0) shapes f frame is
    (and_from (is_frame frame) (int_eq frame.rect.y0 frame.rect.y0) so (int_itself frame.rect.y0)))

-- ---- a wire leaves one row

module _ (flat : Flat) (circuit : CircuitView) (order : AreInOrder flat circuit.nets) (n : ℕ) (wire : Shape × ℕ)
    (is : slice_get (shapes_in_nets flat circuit) n ≡ Some wire) (wired : is_wired flat wire.0 ≡ true) where
  -- an output pin of the wire's net
  abbrev drives : Shape × ℕ → Bool
  drives source = source.0.layer == OUTPUT_PIN && source.1 == wire.1

  input : IsInput flat false n
  input =
      let parts : ((wire.0.layer == INPUT_PIN) ≡ true) × (not (is_labelled flat wire.0) ≡ true) =
      and_parts (wire.0.layer == INPUT_PIN) (not (is_labelled flat wire.0)) wired in
      record {
        pin = wire.0;
        pin_is = (zip_at flat.shapes circuit.nets n wire is).0;
        of_layer = eqb-true wire.0.layer INPUT_PIN parts.0;
        labelled_so = not-true (is_labelled flat wire.0) parts.1;
      }

  no_source : list_any drives (shapes_in_nets flat circuit) ≡ false → (b : ℕ) → IsSource flat.shapes n b → ⊥
  no_source none b source =
      let there = zip_at flat.shapes circuit.nets n wire is in
      let within : n < length flat.shapes = slice_get_within flat.shapes n wire.0 there.0 in
      let same : slice_index circuit.nets n ≡ slice_index circuit.nets b =
      one_number flat.shapes circuit.nets order.are_nets n b within source.joined in
      both_ways (list_any drives (shapes_in_nets flat circuit)) none
      (list_any-at drives (shapes_in_nets flat circuit) b (source.pin, slice_index circuit.nets b)
      (zip_put flat.shapes circuit.nets b source.pin order.are_nets.long source.pin_is)
      (and_from (source.pin.layer == OUTPUT_PIN) (slice_index circuit.nets b == wire.1)
      (eq-eqb source.pin.layer OUTPUT_PIN source.of_layer)
      (eq-eqb (slice_index circuit.nets b) wire.1 (sym same ∙ there.1))))

  source_found : (b : Bool) → list_any drives (shapes_in_nets flat circuit) ≡ b
      → PassesAt drives (shapes_in_nets flat circuit)
  source_found true e = list_any-place drives (shapes_in_nets flat circuit) e
  source_found false e = absurd (order.driven n n (inr (
    λ b rival. order.driven n b (inl rival),
    inl (record { input = input; none = no_source e }, refl),
  )))

  one_row : HasOneRow (leaves flat circuit) (row_count flat.shapes) wire
  one_row =
      let at : PassesAt drives (shapes_in_nets flat circuit) =
      source_found (list_any drives (shapes_in_nets flat circuit)) refl in
      let there : (slice_get flat.shapes at.place ≡ Some at.item.0)
      × (slice_index circuit.nets at.place ≡ at.item.1) =
      zip_at flat.shapes circuit.nets at.place at.item at.item_is in
      let parts : ((at.item.0.layer == OUTPUT_PIN) ≡ true) × ((at.item.1 == wire.1) ≡ true) =
      and_parts (at.item.0.layer == OUTPUT_PIN) (at.item.1 == wire.1) at.passes_so in
      let layer : at.item.0.layer ≡ OUTPUT_PIN = eqb-true at.item.0.layer OUTPUT_PIN parts.0 in
      let pin : Passes is_pin flat.shapes at.place =
      record { shape = at.item.0; shape_is = there.0; passes_so = pin_so at.item.0 layer } in
      let lies : (f : ℕ) × LiesIn flat.shapes at.place f = frame_of flat.shapes order.cells at.place pin in
      let row : ℕ = row_of flat.shapes lies.1.frame.rect.y0 in
      let stands : IsRowOf flat.shapes at.place row =
      record { frame = lies.0; lies = lies.1; row_is = refl } in
      let source : HasSource flat.shapes circuit.nets wire.1 row = record {
        number = at.place;
        pin = at.item.0;
        pin_is = there.0;
        of_layer = layer;
        net_is = there.1 ∙ eqb-true at.item.1 wire.1 parts.1;
        stands = stands;
      } in
      record {
        row = row;
        within = frame_row flat.shapes lies.0 lies.1.frame lies.1.frame_is
            (framed lies.1.pin lies.1.frame lies.1.lies_so);
        is_of = leaves_q flat circuit order n wire is row source;
        one = leaves_one flat circuit order n wire is row source;
      }
    where
      framed : (a frame : Shape) → lies_in a frame ≡ true → is_frame frame ≡ true
      framed a frame so =
          (and_parts (is_pin a) (is_frame frame) (and_parts (is_pin a && is_frame frame) _ so).0).1

-- ---- all wires

count_pairs : (test : Shape → Bool) (shapes : List Shape) (nets : List ℕ) → length nets ≡ length shapes
    → count_by (λ wire. test wire.0) (zip shapes nets) ≡ count_by test shapes
count_pairs test [] nets long = refl
count_pairs test (s ∷ ss) [] long = absurd (omega (arith, long))
count_pairs test (s ∷ ss) (m ∷ ms) long =
    sum_by-cons (λ wire. cond (test wire.0) 1 0) (s, m) (zip ss ms)
    ∙ (ap (λ (k : ℕ). cond (test s) 1 0 + k) (count_pairs test ss ms (omega (arith, long)))
    ∙ sym (sum_by-cons (λ t. cond (test t) 1 0) s ss))

rows_are : (flat : Flat) (circuit : CircuitView) (n : ℕ)
    → wires_of_rows flat circuit n ≡ rows_total (leaves flat circuit) (wires flat circuit) n
rows_are flat circuit zero = refl
rows_are flat circuit (suc row) =
    ap (λ (k : ℕ). k + length (wires_from flat circuit row)) (rows_are flat circuit row)

pub added_wires : (flat : Flat) (circuit : CircuitView) (limits : Limits) → IsCircuitOf flat circuit
    → KeepsRules flat limits → wires_of_rows flat circuit circuit.rows ≡ circuit.wires
added_wires flat circuit limits is kept =
    let order : AreInOrder flat circuit.nets =
    record { are_nets = is.nets; cells = kept E1; driven = kept E3; frames = kept G5 } in
    let all : rows_total (leaves flat circuit) (wires flat circuit) (row_count flat.shapes)
    ≡ length (wires flat circuit) =
    total_kept (leaves flat circuit) (λ wire. is_wired flat wire.0) (shapes_in_nets flat circuit)
    (row_count flat.shapes) (λ n wire at so. one_row flat circuit order n wire at so) in
    ap (wires_of_rows flat circuit) is.rows
    ∙ (rows_are flat circuit (row_count flat.shapes) ∙ (all
    ∙ (length-filter (λ wire. is_wired flat wire.0) (shapes_in_nets flat circuit)
    ∙ (count_pairs (is_wired flat) flat.shapes circuit.nets is.nets.long ∙ sym is.wires))))
