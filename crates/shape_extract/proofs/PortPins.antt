-- The ports of a layout, from the rows of its pins.
use Rattle.std.proofs.Common.{◌≡◌, ◌≢◌, ℕ, ◌+◌, ◌-◌, ◌<◌, Bool, true, false, cond, ◌&&◌, ◌||◌, List, [], ◌∷◌}
use Rattle.std.proofs.Common.{◌++◌, length, get_or, take, map, Some, refl, sym, ap, ◌∙◌, arith, inl, inr, eq-eqb}
use Rattle.std.specs.Prelude.{slice_get, slice_index, count_by, ◌==◌}
use Rattle.std.proofs.lemmas.Bool.{cases_eq, and_from, and_parts, eqb-true, ne_eqb, false_from_ne_true}
use Rattle.std.proofs.lemmas.List.{map_more}
use Rattle.std.proofs.lemmas.List.Sums.{sum_by-cons}
use Rattle.std.proofs.lemmas.Option.{same_Some, slice_get-get_or, slice_get-map}
use Rattle.geom.specs.declared.shapes.Shape.{Shape}
use Rattle.layout_rules.specs.declared.layers.TheConstants.{INPUT_PIN, OUTPUT_PIN}
use Rattle.layout_rules.specs.Layers.{is_pin}
use Rattle.layout_rules.proofs.PlaceLaws.{PassesAt, list_any-at, list_any-place}
use Rattle.layout_rules.specs.Rows.{row_of, row_count}
use Rattle.layout_rules.specs.Pins.{lies_in, LiesIn, stands_in, is_entry, is_exit, entry_count, exit_count}
use Rattle.layout_rules.specs.Reports.{ReportsNone, Passes}
use Rattle.layout_rules.specs.CircuitRules.{CellsBroken, is_port}
use Rattle.shape_extract.specs.Code.PinRows.{IsRowOf}
use Rattle.shape_extract.specs.Code.RowFaults.{ArePinRows}
use Rattle.shape_extract.specs.declared.tables.ports.Port.{Port}
use Rattle.shape_extract.specs.Code.Ports.{port_by, port_of, ports_of, enters, leaves, crosses}
use Rattle.shape_extract.proofs.Each.{item_at}
use Rattle.shape_extract.proofs.RowPins.{row_is, input_pin, output_pin}

module _ (shapes : List Shape) (kept : ReportsNone (CellsBroken shapes)) (rows : List ℕ) (are : ArePinRows shapes rows)
    (p : ℕ) (s : Shape) (got : slice_get shapes p ≡ Some s) where
  abbrev test : ℕ → Shape → Bool
  test r frame = lies_in s frame && row_of shapes frame.rect.y0 == r

  -- a pin stands in the row that is listed for it
  stands : is_pin s ≡ true → (row : ℕ) → stands_in shapes row s ≡ (slice_index rows p == row)
  stands pin_so row = elim (cases_eq (slice_index rows p) row) [
    | inl e ↦
        let known : IsRowOf shapes p (slice_index rows p) = are.each p pin in
        let same : known.lies.pin ≡ s = same_Some known.lies.pin s (sym known.lies.pin_is ∙ got) in
        list_any-at (test row) shapes known.frame known.lies.frame known.lies.frame_is
        (and_from (lies_in s known.lies.frame) (row_of shapes known.lies.frame.rect.y0 == row)
        (ap (λ (x : Shape). lies_in x known.lies.frame) (sym same) ∙ known.lies.lies_so)
        (eq-eqb (row_of shapes known.lies.frame.rect.y0) row (known.row_is ∙ e)))
        ∙ sym (eq-eqb (slice_index rows p) row e)
    | inr ne ↦ false_from_ne_true (stands_in shapes row s) (λ any. (
        let at : PassesAt (test row) shapes = list_any-place (test row) shapes any in
        let both : (lies_in s at.item ≡ true)
        × ((row_of shapes at.item.rect.y0 == row) ≡ true) = and_parts (lies_in s at.item)
        (row_of shapes at.item.rect.y0 == row) at.passes_so in
        let lies : LiesIn shapes p at.place =
        record { pin = s; frame = at.item; pin_is = got; frame_is = at.item_is; lies_so = both.0 } in
        let e : row_of shapes at.item.rect.y0 ≡ slice_index rows p = row_is shapes kept rows are p at.place pin lies in
        ne (sym e ∙ eqb-true (row_of shapes at.item.rect.y0) row both.1)
        )) ∙ sym (ne_eqb (slice_index rows p) row ne)
  ]
    where
      pin : Passes is_pin shapes p
      pin = record { shape = s; shape_is = got; passes_so = pin_so }

  entry_said : s.layer ≡ INPUT_PIN → is_entry shapes s ≡ (slice_index rows p == 0)
  entry_said e = ap (λ (b : Bool). b && stands_in shapes 0 s) (eq-eqb s.layer INPUT_PIN e) ∙ stands (input_pin s e) 0

  exit_said : (last : ℕ) → last ≡ row_count shapes - 1 → s.layer ≡ OUTPUT_PIN
      → is_exit shapes s ≡ (slice_index rows p == last)
  exit_said last is e = ap (λ (b : Bool). b && stands_in shapes (row_count shapes - 1) s) (eq-eqb s.layer OUTPUT_PIN e)
      ∙ (stands (output_pin s e) (row_count shapes - 1) ∙ ap (λ (r : ℕ). slice_index rows p == r) (sym is))

no_entry : (shapes : List Shape) (s : Shape) → s.layer ≢ INPUT_PIN → is_entry shapes s ≡ false
no_entry shapes s ne = rw (ne_eqb s.layer INPUT_PIN ne) refl

no_exit : (shapes : List Shape) (s : Shape) → s.layer ≢ OUTPUT_PIN → is_exit shapes s ≡ false
no_exit shapes s ne = rw (ne_eqb s.layer OUTPUT_PIN ne) refl

-- the same for the shape that is read
module _ (shapes : List Shape) (p : ℕ) (here : Shape) (lt : p < length shapes) (is : here ≡ get_or shapes p here) where
  same : (s : Shape) → slice_get shapes p ≡ Some s → here ≡ s
  same s got = same_Some here s (sym (slice_get-get_or shapes p here lt ∙ sym (ap Some is)) ∙ got)

  pub entry_read : ReportsNone (CellsBroken shapes) → (rows : List ℕ) → ArePinRows shapes rows → here.layer ≡ INPUT_PIN
      → (s : Shape) → slice_get shapes p ≡ Some s → (slice_index rows p == 0) ≡ is_entry shapes s
  entry_read kept rows are e s got =
      sym (entry_said shapes kept rows are p s got (ap (λ (x : Shape). x.layer) (sym (same s got)) ∙ e))

  pub exit_read : ReportsNone (CellsBroken shapes) → (rows : List ℕ) → ArePinRows shapes rows → (last : ℕ)
      → last ≡ row_count shapes - 1 → here.layer ≡ OUTPUT_PIN → (s : Shape) → slice_get shapes p ≡ Some s
      → (slice_index rows p == last) ≡ is_exit shapes s
  exit_read kept rows are last is_last e s got =
      sym (exit_said shapes kept rows are p s got last is_last (ap (λ (x : Shape). x.layer) (sym (same s got)) ∙ e))

  pub no_entry_read : here.layer ≢ INPUT_PIN → (s : Shape) → slice_get shapes p ≡ Some s
      → (here.layer == INPUT_PIN) ≡ is_entry shapes s
  no_entry_read ne s got = ne_eqb here.layer INPUT_PIN ne
      ∙ sym (no_entry shapes s (λ e. ne (ap (λ (x : Shape). x.layer) (same s got) ∙ e)))

  pub no_exit_read : here.layer ≢ OUTPUT_PIN → (s : Shape) → slice_get shapes p ≡ Some s
      → (here.layer == OUTPUT_PIN) ≡ is_exit shapes s
  no_exit_read ne s got = ne_eqb here.layer OUTPUT_PIN ne
      ∙ sym (no_exit shapes s (λ e. ne (ap (λ (x : Shape). x.layer) (same s got) ∙ e)))

-- ---- the ports of all shapes

pub ports_more : (shapes : List Shape) (ports : List Port) (i : ℕ) (port : Port) → i < length shapes
    → ports ≡ map (port_of shapes) (take i shapes)
    → ((s : Shape) → slice_get shapes i ≡ Some s → port ≡ port_of shapes s)
    → ports ++ port ∷ [] ≡ map (port_of shapes) (take (i + 1) shapes)
ports_more shapes ports i port lt are is =
    let item = item_at shapes i lt in
    let same : item.0 ≡ get_or shapes i item.0 = same_Some item.0 (get_or shapes i item.0)
    (sym item.1 ∙ slice_get-get_or shapes i item.0 lt) in
    let here : port ≡ port_of shapes (get_or shapes i item.0) = is item.0 item.1 ∙ ap (port_of shapes) same in
    ap (λ (l : List Port). l ++ port ∷ []) are
    ∙ (ap (λ (x : Port). map (port_of shapes) (take i shapes) ++ x ∷ []) here
    ∙ sym (map_more (port_of shapes) shapes i item.0 lt))

-- ---- counts of ports

count_map : (test : Port → Bool) (other : Shape → Bool) (f : Shape → Port) → ((s : Shape) → test (f s) ≡ other s)
    → (xs : List Shape) → count_by test (map f xs) ≡ count_by other xs
count_map test other f same [] = refl
count_map test other f same (x ∷ xs) =
    let a : count_by test (f x ∷ map f xs) ≡ cond (test (f x)) 1 0 + count_by test (map f xs) = sum_by-cons
    (λ y. cond (test y) 1 0) (f x) (map f xs) in
    let b : count_by other (x ∷ xs) ≡ cond (other x) 1 0 + count_by other xs = sum_by-cons
    (λ y. cond (other y) 1 0) x xs in
    let c : cond {A = ℕ} (test (f x)) 1 0 ≡ cond (other x) 1 0 = ap (λ (v : Bool). cond {A = ℕ} v 1 0) (same x) in
    omega (arith, count_map test other f same xs)

enters_is : (e x : Bool) → enters (port_by e x) ≡ e
enters_is true x = refl
enters_is false true = refl
enters_is false false = refl

leaves_is : (e x : Bool) → (e ≡ true → x ≡ false) → leaves (port_by e x) ≡ x
leaves_is true true h = sym (h refl)
leaves_is true false h = refl
leaves_is false true h = refl
leaves_is false false h = refl

crosses_is : (e x : Bool) → crosses (port_by e x) ≡ (e || x)
crosses_is true true = refl
crosses_is true false = refl
crosses_is false true = refl
crosses_is false false = refl

pub crosses_port : (shapes : List Shape) (s : Shape) → crosses (port_of shapes s) ≡ is_port shapes s
crosses_port shapes s = crosses_is (is_entry shapes s) (is_exit shapes s)

-- a shape has one layer
one_side : (shapes : List Shape) (s : Shape) → is_entry shapes s ≡ true → is_exit shapes s ≡ false
one_side shapes s e =
    let input : s.layer ≡ INPUT_PIN = eqb-true s.layer INPUT_PIN
    (and_parts (s.layer == INPUT_PIN) (stands_in shapes 0 s) e).0 in
    no_exit shapes s (λ output. (let both : INPUT_PIN ≡ OUTPUT_PIN = sym input ∙ output in omega (arith, both)))

pub entries_counted : (shapes : List Shape) → count_by enters (ports_of shapes) ≡ entry_count shapes
entries_counted shapes = count_map enters (is_entry shapes) (port_of shapes)
    (λ s. enters_is (is_entry shapes s) (is_exit shapes s)) shapes

pub exits_counted : (shapes : List Shape) → count_by leaves (ports_of shapes) ≡ exit_count shapes
exits_counted shapes = count_map leaves (is_exit shapes) (port_of shapes)
    (λ s. leaves_is (is_entry shapes s) (is_exit shapes s) (one_side shapes s)) shapes

-- the port of a shape, by its place
pub port_got : (shapes : List Shape) (p : ℕ) (s : Shape) → slice_get shapes p ≡ Some s
    → slice_get (ports_of shapes) p ≡ Some (port_of shapes s)
port_got shapes p s got = slice_get-map (port_of shapes) shapes p ∙ (rw got refl)
