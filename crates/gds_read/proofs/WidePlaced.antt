-- The items of a wide stream are as they may be.
use Rattle.std.proofs.Common.{◌≡◌, ℕ, zero, suc, ◌+◌, ◌/◌, ◌%◌, ◌^◌, ◌<◌, ◌≤◌, List, [], ◌∷◌, ◌++◌, map, drop, length}
use Rattle.std.proofs.Common.{Bool, true, false, eqb, ◌&&◌, Option, Some, None, refl, sym, ap, subst, ◌∙◌, arith, ℤ}
use Rattle.std.proofs.Common.{pos, negsuc, ◌+ℤ◌, ◌*ℤ◌, inl, inr, FitsSigned}
use Rattle.std.specs.Prelude.{not, nat_lt, nat_abs}
use Rattle.std.specs.Int.{w32, from_be_bytes, cast_signed, cast_unsigned}
use Rattle.std.specs.List.{flat_map, AllByRecursion}
use Rattle.std.proofs.lemmas.List.Elements.{All-from_recursion}
use Rattle.std.proofs.lemmas.List.Concat.{flat_map-cons}
use Rattle.std.proofs.lemmas.Int.{ints, of_z-to_z}
use Rattle.std.proofs.lemmas.Bool.{eqb-true, and_parts}
use Rattle.std.proofs.lemmas.Bool.Decides.{nat_tests}
use Rattle.poly_cut.specs.declared.layout.Point.{Point}
use Rattle.poly_cut.specs.declared.layout.Figure.{Figure}
use Rattle.poly_cut.specs.declared.layout.Figure.TheVariants.{Ring, Path}
use Rattle.poly_cut.specs.declared.layout.Grid.{Grid}
use Rattle.poly_cut.specs.declared.layout.Item.{Item}
use Rattle.poly_cut.specs.declared.layout.Item.TheVariants.{Draw, Place, Text}
use Rattle.poly_cut.specs.Turns.{point}
use Rattle.poly_cut.specs.Figures.{IsNarrow}
use Rattle.poly_cut.specs.Conditions.{far, IsGrid, IsItem, AreItems}
use Rattle.geom.specs.declared.shapes.Label.{Label}
use Rattle.gds_records.specs.declared.fault.StreamKind.{StreamKind}
use Rattle.gds_records.specs.Language.{Language, One, Speaks}
use Rattle.gds_records.specs.Grammar.{◌>>◌, maybe, flags, tail, turned, boundary, path, turned_reference, array, text}
use Rattle.gds_records.specs.Grammar.{wide_element}
use Rattle.gds_records.specs.Records.{Record, kinds, number, trimmed}
use Rattle.gds_records.specs.Table.{wide_table, has_length_in}
use Rattle.gds_records.specs.Values.{unsigned_value, rule}
use Rattle.gds_records.specs.WideValues.{some_points, points, is_ring, is_path, turns_from, turns, Way, Still, way}
use Rattle.gds_records.specs.WideValues.{is_same, is_width, quarters, columns, rows, is_count, is_colrow, is_multiple}
use Rattle.gds_records.specs.WideValues.{is_lattice, wide_fault_in}
use Rattle.gds_records.specs.WideDrawing.{point_at, step, turn_of, grid_of, figure_of, item_of, wide_structure_of}
use Rattle.gds_records.specs.Drawing.{field, has, coordinate, place_of, element_parts}
use Rattle.gds_records.specs.Steps.{is_listed}
use Rattle.gds_records.specs.Scan.{IsBytes}
use Rattle.gds_records.proofs.WideFigures.{ring_so, path_so, grid_so}
use Rattle.gds_read.proofs.Kept.{From, Kept, elements_kept}
use Rattle.gds_records.proofs.Sentences.{lacks}
use Rattle.gds_read.proofs.Words.{holds}
use Rattle.gds_read.proofs.Shaped.{headed, has_is, snames, SpokenIn, IsShapedIn, named_once}
use Rattle.gds_read.proofs.Valued.{State, next, IsValued, quiet, found, Opened, open_with, At, skip}
use Rattle.gds_read.proofs.Placed.{HasBytes, field_bytes, element_bytes, signed_fits, coordinate_fits, drop_is_bytes}
use Rattle.gds_read.proofs.Placed.{place_low}
use Rattle.gds_read.proofs.WideFields.{lattice_three, lattice_other}

-- ---- what a value says

rule_so : (good : Bool) (k : StreamKind) (others : Option StreamKind) → rule true good k others ≡ None → good ≡ true
rule_so true k others e = refl
rule_so false k others e = absurd cc

-- a record's fault by its kind
at_kind : (k o : ℕ) (colrow : List ℕ) (taken : Bool) (it : Record) → it.kind ≡ k
    → wide_fault_in o colrow taken it ≡ None
    → wide_fault_in o colrow taken (record { kind = k; form = it.form; content = it.content }) ≡ None
at_kind k o colrow taken it e v = subst
    (λ (x : ℕ). wide_fault_in o colrow taken (record { kind = x; form = it.form; content = it.content }) ≡ None) e v

-- ---- fields of an element

abbrev in_boundary : Language
in_boundary = flags >> One 0x0D >> One 0x0E >> One 0x10 >> tail

abbrev in_path : Language
in_path = flags >> One 0x0D >> One 0x0E >> maybe (One 0x21) >> One 0x0F >> One 0x10 >> tail

abbrev in_array : Language
in_array = flags >> One 0x12 >> turned >> One 0x13 >> One 0x10 >> tail

ring_field : (q : List Record) → Opened 8 in_boundary q → is_ring (points (field 16 q)) ≡ true
ring_field q o =
    let f = found 16 8 o.colrow o.rest o.good (quiet in_boundary o.rest refl o.others)
    (lacks 0x13 in_boundary (kinds o.rest) refl o.others) (holds 16 in_boundary (kinds o.rest) refl o.others) in
    ap (λ (x : List ℕ). is_ring (points x)) (o.same_field 16 refl ∙ f.content)
    ∙ rule_so (is_ring (points f.it.content)) _ _ (at_kind 16 8 o.colrow f.valued.taken f.it f.kind f.valued.value)

path_field : (q : List Record) → Opened 9 in_path q → is_path (points (field 16 q)) ≡ true
path_field q o =
    let f = found 16 9 o.colrow o.rest o.good (quiet in_path o.rest refl o.others)
    (lacks 0x13 in_path (kinds o.rest) refl o.others) (holds 16 in_path (kinds o.rest) refl o.others) in
    ap (λ (x : List ℕ). is_path (points x)) (o.same_field 16 refl ∙ f.content)
    ∙ rule_so (is_path (points f.it.content)) _ _ (at_kind 16 9 o.colrow f.valued.taken f.it f.kind f.valued.value)

record IsWidth (bytes : List ℕ) : Type 0 where
  good : is_width bytes ≡ true
  long : length bytes ≡ 4

four : (n : ℕ) → eqb (4 + n) 8 ≡ true → n ≡ 4
four n e = let h : 4 + n ≡ 8 = eqb-true (4 + n) 8 e in omega arith

width_field : (q : List Record) → Opened 9 in_path q → IsWidth (field 15 q)
width_field q o =
    let f = found 15 9 o.colrow o.rest o.good (quiet in_path o.rest refl o.others)
    (lacks 0x13 in_path (kinds o.rest) refl o.others) (holds 15 in_path (kinds o.rest) refl o.others) in
    let w : IsWidth f.it.content = record {
      good = rule_so (is_width f.it.content) _ _ (at_kind 15 9 o.colrow f.valued.taken f.it f.kind f.valued.value);
      long = four (length f.it.content) (long_at f.it f.kind f.valued.long);
    } in
    subst (λ (x : List ℕ). IsWidth x) (sym (o.same_field 15 refl ∙ f.content)) w
  where
    long_at : (it : Record) → it.kind ≡ 15 → has_length_in wide_table it.kind (4 + length it.content) ≡ true
        → eqb (4 + length it.content) 8 ≡ true
    long_at it e h = subst (λ (x : ℕ). has_length_in wide_table x (4 + length it.content) ≡ true) e h

record IsArray (q : List Record) : Type 0 where
  colrow : is_colrow (field 0x13 q) ≡ true
  lattice : is_lattice (columns (field 0x13 q)) (rows (field 0x13 q)) (points (field 16 q)) ≡ true

array_fields : (q : List Record) → Opened 11 in_array q → IsArray q
array_fields q o =
    let a : At 11 in_array q = record {
      rest = o.rest;
      others = o.others;
      colrow = o.colrow;
      good = o.good;
      counts = o.same_field 0x13 refl;
      points = o.same_field 16 refl;
    } in
    let b = skip 11 flags (One 0x12 >> turned >> One 0x13 >> One 0x10 >> tail) q refl refl refl a in
    let c = skip 11 (One 0x12) (turned >> One 0x13 >> One 0x10 >> tail) q refl refl refl b in
    let d = skip 11 turned (One 0x13 >> One 0x10 >> tail) q refl refl refl c in
    let h = headed 0x13 (One 0x10 >> tail) d.rest d.others in
    let g : From next IsValued (11, d.colrow) (h.head ∷ h.rest) = subst
    (λ (x : List Record). From next IsValued (11, d.colrow) x) h.whole d.good in
    let behind : next (11, d.colrow) h.head ≡ (11, h.head.content) = at_colrow d.colrow h.head h.kind in
    let good : From next IsValued (11, h.head.content) h.rest = subst
    (λ (s : State). From next IsValued s h.rest) behind g.1 in
    let f = found 16 11 h.head.content h.rest good (quiet (One 0x10 >> tail) h.rest refl h.others)
    (lacks 0x13 (One 0x10 >> tail) (kinds h.rest) refl h.others)
    (holds 16 (One 0x10 >> tail) (kinds h.rest) refl h.others) in
    let counts : field 0x13 q ≡ h.head.content = d.counts ∙ ap (λ (x : List Record). field 0x13 x) h.whole
    ∙ here h.head h.rest h.kind in
    let xy : field 16 q ≡ f.it.content = d.points ∙ ap (λ (x : List Record). field 16 x) h.whole
    ∙ later h.head h.rest h.kind ∙ f.content in
    record {
      colrow = ap (λ (x : List ℕ). is_colrow x) counts ∙ rule_so (is_colrow h.head.content) _ _
          (at_kind 0x13 11 d.colrow g.0.taken h.head h.kind g.0.value);
      lattice = (λ i. is_lattice (columns (counts i)) (rows (counts i)) (points (xy i)))
          ∙ rule_so (is_lattice (columns h.head.content) (rows h.head.content) (points f.it.content)) _ _
          (at_kind 16 11 h.head.content f.valued.taken f.it f.kind f.valued.value);
    }
  where
    at_colrow : (c : List ℕ) (r : Record) → r.kind ≡ 0x13 → next (11, c) r ≡ (11, r.content)
    at_colrow c r e = subst
        (λ (k : ℕ). next (11, c) (record { kind = k; form = r.form; content = r.content }) ≡ (11, r.content))
        (sym e) refl

    here : (r : Record) (rs : List Record) → r.kind ≡ 0x13 → field 0x13 (r ∷ rs) ≡ r.content
    here r rs e =
        ap (λ (k : ℕ). elim (eqb k 0x13) as (λ (_ : Bool). List ℕ) [ true ↦ r.content | false ↦ field 0x13 rs ]) e

    later : (r : Record) (rs : List Record) → r.kind ≡ 0x13 → field 16 (r ∷ rs) ≡ field 16 rs
    later r rs e = ap (λ (k : ℕ). elim (eqb k 16) as (λ (_ : Bool). List ℕ) [ true ↦ r.content | false ↦ field 16 rs ])
        e

-- ---- numbers

sizes : (z : ℤ) (n : ℕ) → FitsSigned w32 z → cast_unsigned w32 z ≡ n → n % 2 ≡ 0 → 0 < n
    → (0 < nat_abs z / 2) × (nat_abs z / 2 ≤ 2 ^ 30)
sizes (pos a) n f e p q = (omega (arith, ints), omega (arith, ints))
sizes (negsuc a) n f e p q = (omega (arith, ints), omega (arith, ints))

width_half : (w : List ℕ) → IsBytes w → IsWidth w → (0 < nat_abs (coordinate w 0) / 2)
    × (nat_abs (coordinate w 0) / 2 ≤ 2 ^ 30)
width_half [] f h = absurd (omega (arith, h.long))
width_half (a ∷ []) f h = absurd (omega (arith, h.long))
width_half (a ∷ b ∷ []) f h = absurd (omega (arith, h.long))
width_half (a ∷ b ∷ c ∷ []) f h = absurd (omega (arith, h.long))
width_half (a ∷ b ∷ c ∷ d ∷ []) f h = halves (from_be_bytes w32 (a ∷ b ∷ c ∷ d ∷ []))
    (unsigned_value 0 (a ∷ b ∷ c ∷ d ∷ [])) (same_value a b c d) (omega (arith, f 0, f 1, f 2, f 3)) h.good
  where
    same_value : (a b c d : ℕ) → from_be_bytes w32 (a ∷ b ∷ c ∷ d ∷ []) ≡ unsigned_value 0 (a ∷ b ∷ c ∷ d ∷ [])
    same_value a b c d = omega arith

    even_so : (v : ℕ) → (eqb (v % 2) 0 && not (eqb v 0)) ≡ true → (v % 2 ≡ 0) × (0 < v)
    even_so v e = grind (arith, nat_tests)

    halves : (n v : ℕ) → n ≡ v → n < 4294967296 → (eqb (v % 2) 0 && not (eqb v 0)) ≡ true
        → (0 < nat_abs (cast_signed w32 n) / 2) × (nat_abs (cast_signed w32 n) / 2 ≤ 2 ^ 30)
    halves n v e h g = let p = even_so v g in sizes (cast_signed w32 n) n (signed_fits n h) (of_z-to_z w32 n h)
        (omega (arith, p.0, e)) (omega (arith, p.1, e))
width_half (a ∷ b ∷ c ∷ d ∷ x ∷ w) f h = absurd (omega (arith, h.long))

quarter_small : (angle : List ℕ) → (elim (quarters angle) as (λ (_ : Option ℕ). ℕ) [ Some n ↦ n | None ↦ 0 ]) < 4
quarter_small angle = turn (eqb (unsigned_value 0 angle) 0) (eqb (unsigned_value 0 angle) 0x425A000000000000)
    (eqb (unsigned_value 0 angle) 0x42B4000000000000) (eqb (unsigned_value 0 angle) 0x4310E00000000000)
  where
    turn : (a b c d : Bool) → (elim (elim a as (λ (_ : Bool). Option ℕ) [
      | true ↦ Some 0
      | false ↦ elim b as (λ (_ : Bool). Option ℕ) [
        | true ↦ Some 1
        | false ↦ elim c as (λ (_ : Bool). Option ℕ) [
          | true ↦ Some 2
          | false ↦ elim d as (λ (_ : Bool). Option ℕ) [ true ↦ Some 3 | false ↦ None ]
        ]
      ]
    ]) as (λ (_ : Option ℕ). ℕ) [ Some n ↦ n | None ↦ 0 ]) < 4
    turn true b c d = omega arith
    turn false true c d = omega arith
    turn false false true d = omega arith
    turn false false false true = omega arith
    turn false false false false = omega arith

-- ---- points

point_narrow : (xy : List ℕ) (i j : ℕ) → IsBytes xy → IsNarrow (point (coordinate xy i) (coordinate xy j))
point_narrow xy i j f = (coordinate_fits xy i f, coordinate_fits xy j f)

points_narrow : (n : ℕ) (xy : List ℕ) → IsBytes xy → AllByRecursion IsNarrow (some_points n xy)
points_narrow zero xy f = tt
points_narrow (suc n) xy f = (point_narrow xy 0 1 f, points_narrow n (drop 8 xy) (drop_is_bytes 8 xy f))

turns_narrow : (w : Way) (p : Point) (qs : List Point) → IsNarrow p → AllByRecursion IsNarrow qs
    → AllByRecursion IsNarrow (turns_from w p qs)
turns_narrow w p [] h all = (h, tt)
turns_narrow w p (q ∷ qs) h all = turn (is_same w (way p q)) (turns_narrow (way p q) q qs all.0 all.1)
  where
    turn : (z : Bool) → AllByRecursion IsNarrow (turns_from (way p q) q qs)
        → AllByRecursion IsNarrow
        (elim z as (λ (_ : Bool). List Point) [
          | true ↦ turns_from (way p q) q qs
          | false ↦ p ∷ turns_from (way p q) q qs
        ])
    turn true r = r
    turn false r = (h, r)

kept_narrow : (ps : List Point) → AllByRecursion IsNarrow ps → AllByRecursion IsNarrow (turns ps)
kept_narrow [] all = tt
kept_narrow (p ∷ ps) all = turns_narrow Still p ps all.0 all.1

-- ---- items

count_so : (n : ℕ) → (not (eqb n 0) && nat_lt n 32768) ≡ true → (0 < n) × (n < 32768)
count_so n e = grind (arith, nat_tests)

record IsLattice (n m : ℕ) (xy : List ℕ) : Type 0 where
  column_x : is_multiple n (coordinate xy 0) (coordinate xy 2) ≡ true
  column_y : is_multiple n (coordinate xy 1) (coordinate xy 3) ≡ true
  row_x : is_multiple m (coordinate xy 0) (coordinate xy 4) ≡ true
  row_y : is_multiple m (coordinate xy 1) (coordinate xy 5) ≡ true

lattice_so : (n m : ℕ) (xy : List ℕ) → is_lattice n m (points xy) ≡ true → IsLattice n m xy
lattice_so n m xy e = turn (eqb (length xy / 8) 3) refl
  where
    three : length xy / 8 ≡ 3 → IsLattice n m xy
    three h =
        let p = and_parts (is_multiple n (coordinate xy 0) (coordinate xy 2)
        && is_multiple n (coordinate xy 1) (coordinate xy 3))
        (is_multiple m (coordinate xy 0) (coordinate xy 4) && is_multiple m (coordinate xy 1) (coordinate xy 5))
        (sym (lattice_three n m xy h) ∙ e) in
        let q = and_parts (is_multiple n (coordinate xy 0) (coordinate xy 2))
        (is_multiple n (coordinate xy 1) (coordinate xy 3)) p.0 in
        let r = and_parts (is_multiple m (coordinate xy 0) (coordinate xy 4))
        (is_multiple m (coordinate xy 1) (coordinate xy 5)) p.1 in
        record { column_x = q.0; column_y = q.1; row_x = r.0; row_y = r.1 }

    not_three : eqb (length xy / 8) 3 ≡ false → length xy / 8 ≡ 3 → ⊥
    not_three h f = grind (arith, nat_tests)

    turn : (z : Bool) → eqb (length xy / 8) 3 ≡ z → IsLattice n m xy
    turn true h = three (eqb-true (length xy / 8) 3 h)
    turn false h = absurd (let f : false ≡ true = lattice_other n m xy (not_three h) ∙ e in cc)

still : (z : ℤ) → z +ℤ pos 1 *ℤ pos 0 ≡ z
still z = omega (arith, ints)

plain_grid : (at : Point) → IsNarrow at
    → IsGrid at
    (record { columns = 1; rows = 1; column_step = point (pos 0) (pos 0); row_step = point (pos 0) (pos 0) })
plain_grid at h =
    let stays : far 1 (point (pos 0) (pos 0)) at ≡ at = λ i. point (still at.x i) (still at.y i) in
    record {
      narrow = h;
      columns = (omega arith, omega arith);
      rows = (omega arith, omega arith);
      column_end = subst (λ (p : Point). IsNarrow p) (sym stays) h;
      row_end = subst (λ (p : Point). IsNarrow p) (sym stays) h;
    }

one_grid : (q : List Record) → IsBytes (field 16 q) → has 0x13 q ≡ false → IsGrid (point_at (field 16 q) 0) (grid_of q)
one_grid q f c =
    let g : grid_of q ≡ record {
      columns = 1;
      rows = 1;
      column_step = point (pos 0) (pos 0);
      row_step = point (pos 0) (pos 0);
    } = rw (grid_of, c) refl in
    subst (λ (x : Grid). IsGrid (point_at (field 16 q) 0) x) (sym g)
    (plain_grid (point_at (field 16 q) 0) (point_narrow (field 16 q) 0 1 f))

array_grid : (q : List Record) → IsBytes (field 16 q) → has 0x13 q ≡ true → IsArray q
    → IsGrid (point_at (field 16 q) 0) (grid_of q)
array_grid q f c a =
    let xy = field 16 q in
    let n = columns (field 0x13 q) in
    let m = rows (field 0x13 q) in
    let g : grid_of q ≡ record {
      columns = n;
      rows = m;
      column_step = step n (point_at xy 0) (point_at xy 1);
      row_step = step m (point_at xy 0) (point_at xy 2);
    } = rw (grid_of, c) refl in
    let l = lattice_so n m xy a.lattice in
    let k = and_parts (is_count n) (is_count m) a.colrow in
    subst (λ (x : Grid). IsGrid (point_at xy 0) x) (sym g) (record {
      narrow = point_narrow xy 0 1 f;
      columns = count_so n k.0;
      rows = count_so m k.1;
      column_end = subst (λ (p : Point). IsNarrow p)
          (sym (grid_so n (point_at xy 0) (point_at xy 1) l.column_x l.column_y)) (point_narrow xy 2 3 f);
      row_end = subst (λ (p : Point). IsNarrow p) (sym (grid_so m (point_at xy 0) (point_at xy 2) l.row_x l.row_y))
          (point_narrow xy 4 5 f);
    })

pub all_split : {A : Type 0} (P : A → Type 0) (xs ys : List A) → AllByRecursion P (xs ++ ys)
    → AllByRecursion P xs × AllByRecursion P ys
all_split P [] ys all = (tt, all)
all_split P (x ∷ xs) ys all = let r = all_split P xs ys all.1 in ((all.0, r.0), r.1)

-- the name of a reference is among these
abbrev pub Known : List (List ℕ) → List Record → Type 0
Known names q = AllByRecursion (λ t. is_listed t names ≡ true) (snames q)

module _ (names : List (List ℕ)) where
  boundary_is : (q : List Record) → IsBytes (field 16 q) → has 8 q ≡ true → is_ring (points (field 16 q)) ≡ true
      → IsItem (length names) (item_of names q)
  boundary_is q f b r =
      let i : item_of names q ≡ Draw (number (field 13 q)) (number (field 14 q)) (figure_of q) = rw (item_of, b) refl in
      let g : figure_of q ≡ Ring (points (field 16 q)) = rw (figure_of, b) refl in
      subst (λ (x : Item). IsItem (length names) x)
      (sym (i ∙ ap (λ (x : Figure). Draw (number (field 13 q)) (number (field 14 q)) x) g))
      (record {
        figure = ring_so (points (field 16 q)) r;
        narrow = All-from_recursion IsNarrow (points (field 16 q))
            (points_narrow (length (field 16 q) / 8) (field 16 q) f);
      })

  path_is : (q : List Record) → IsBytes (field 16 q) → IsBytes (field 15 q) → has 8 q ≡ false → has 9 q ≡ true
      → is_path (points (field 16 q)) ≡ true → IsWidth (field 15 q) → IsItem (length names) (item_of names q)
  path_is q f w b p r h =
      let i : item_of names q ≡ Draw (number (field 13 q)) (number (field 14 q)) (figure_of q) =
      rw (item_of, b, p) refl in
      let g : figure_of q ≡ Path (eqb (unsigned_value 0 (field 0x21 q)) 2) (nat_abs (coordinate (field 15 q) 0) / 2)
      (turns (points (field 16 q))) = rw (figure_of, b) refl in
      let v = width_half (field 15 q) w h in
      subst (λ (x : Item). IsItem (length names) x)
      (sym (i ∙ ap (λ (x : Figure). Draw (number (field 13 q)) (number (field 14 q)) x) g))
      (record {
        figure = (v.0, v.1, path_so (points (field 16 q)) r);
        narrow = All-from_recursion IsNarrow (turns (points (field 16 q)))
            (kept_narrow (points (field 16 q)) (points_narrow (length (field 16 q) / 8) (field 16 q) f));
      })

  place_is : (q : List Record) → item_of names q ≡ Place (place_of (trimmed (field 18 q)) names)
      (point_at (field 16 q) 0) (turn_of q) (grid_of q) → is_listed (trimmed (field 18 q)) names ≡ true
      → IsGrid (point_at (field 16 q) 0) (grid_of q) → IsItem (length names) (item_of names q)
  place_is q i l g =
      subst (λ (x : Item). IsItem (length names) x) (sym i)
      (record {
        stands = place_low (trimmed (field 18 q)) names l;
        quarter = quarter_small (field 0x1C q);
        lattice = g;
      })

  text_is : (q : List Record) → IsBytes (field 16 q) → has 8 q ≡ false → has 9 q ≡ false → has 10 q ≡ false
      → has 11 q ≡ false → IsItem (length names) (item_of names q)
  text_is q f b p s a =
      let l : Label = record {
        layer = number (field 13 q);
        x = coordinate (field 16 q) 0;
        y = coordinate (field 16 q) 1;
        text = trimmed (field 25 q);
      } in
      let i : item_of names q ≡ Text l = rw (item_of, b, p, s, a) refl in
      subst (λ (x : Item). IsItem (length names) x) (sym i)
      (coordinate_fits (field 16 q) 0 f, coordinate_fits (field 16 q) 1 f)

  first_known : (q : List Record) → snames q ≡ trimmed (field 18 q) ∷ [] → Known names q
      → is_listed (trimmed (field 18 q)) names ≡ true
  first_known q e k = (subst (λ (ts : List (List ℕ)). AllByRecursion (λ t. is_listed t names ≡ true) ts) e k).0

  element_is : (q : List Record) → Kept next IsValued q → AllByRecursion HasBytes q → Known names q
      → Speaks wide_element (kinds q) → IsItem (length names) (item_of names q)
  element_is q g all k (inl h) =
      boundary_is q (field_bytes 16 q all) (has_is 8 q ∙ holds 8 boundary (kinds q) refl h)
      (ring_field q (open_with 8 in_boundary q refl g (headed 8 in_boundary q h)))
  element_is q g all k (inr (inl h)) =
      let o = open_with 9 in_path q refl g (headed 9 in_path q h) in
      path_is q (field_bytes 16 q all) (field_bytes 15 q all) (has_is 8 q ∙ lacks 8 path (kinds q) refl h)
      (has_is 9 q ∙ holds 9 path (kinds q) refl h) (path_field q o) (width_field q o)
  element_is q g all k (inr (inr (inl h))) =
      let b : has 8 q ≡ false = has_is 8 q ∙ lacks 8 turned_reference (kinds q) refl h in
      let p : has 9 q ≡ false = has_is 9 q ∙ lacks 9 turned_reference (kinds q) refl h in
      let s : has 10 q ≡ true = has_is 10 q ∙ holds 10 turned_reference (kinds q) refl h in
      place_is q (rw (item_of, b, p, s) refl)
      (first_known q (named_once 10 (turned >> One 0x10 >> tail) q refl refl h) k)
      (one_grid q (field_bytes 16 q all) (has_is 0x13 q ∙ lacks 0x13 turned_reference (kinds q) refl h))
  element_is q g all k (inr (inr (inr (inl h)))) =
      let b : has 8 q ≡ false = has_is 8 q ∙ lacks 8 array (kinds q) refl h in
      let p : has 9 q ≡ false = has_is 9 q ∙ lacks 9 array (kinds q) refl h in
      let s : has 10 q ≡ false = has_is 10 q ∙ lacks 10 array (kinds q) refl h in
      let a : has 11 q ≡ true = has_is 11 q ∙ holds 11 array (kinds q) refl h in
      place_is q (rw (item_of, b, p, s, a) refl)
      (first_known q (named_once 11 (turned >> One 0x13 >> One 0x10 >> tail) q refl refl h) k)
      (array_grid q (field_bytes 16 q all) (has_is 0x13 q ∙ holds 0x13 array (kinds q) refl h)
      (array_fields q (open_with 11 in_array q refl g (headed 11 in_array q h))))
  element_is q g all k (inr (inr (inr (inr h)))) =
      text_is q (field_bytes 16 q all) (has_is 8 q ∙ lacks 8 text (kinds q) refl h)
      (has_is 9 q ∙ lacks 9 text (kinds q) refl h) (has_is 10 q ∙ lacks 10 text (kinds q) refl h)
      (has_is 11 q ∙ lacks 11 text (kinds q) refl h)

  elements_are : (qs : List (List Record)) → AllByRecursion (Kept next IsValued) qs
      → AllByRecursion (AllByRecursion HasBytes) qs → AllByRecursion (Known names) qs
      → AllByRecursion (SpokenIn wide_element) qs
      → AllByRecursion (IsItem (length names)) (map (item_of names) qs)
  elements_are [] g b k s = tt
  elements_are (q ∷ qs) g b k s = (element_is q g.0 b.0 k.0 s.0, elements_are qs g.1 b.1 k.1 s.1)

  -- the names of a structure's references are among these
  abbrev pub KnownIn : List Record → Type 0
  KnownIn p = AllByRecursion (λ t. is_listed t names ≡ true) (flat_map snames (element_parts p))

  each_known : (qs : List (List Record)) → AllByRecursion (λ t. is_listed t names ≡ true) (flat_map snames qs)
      → AllByRecursion (Known names) qs
  each_known [] all = tt
  each_known (q ∷ qs) all =
      let s = all_split (λ t. is_listed t names ≡ true) (snames q) (flat_map snames qs)
      (subst (λ (ts : List (List ℕ)). AllByRecursion (λ t. is_listed t names ≡ true) ts)
      (flat_map-cons snames q qs) all) in
      (s.0, each_known qs s.1)

  pub structures_are : (ps : List (List Record)) → AllByRecursion (Kept next IsValued) ps
      → AllByRecursion (AllByRecursion HasBytes) ps → AllByRecursion KnownIn ps
      → AllByRecursion (IsShapedIn wide_element) ps
      → AreItems (length names) (map (wide_structure_of names) ps)
  structures_are [] g b k s = tt
  structures_are (p ∷ ps) g b k s = (
    elements_are (element_parts p) (elements_kept next IsValued p g.0) (element_bytes p b.0)
        (each_known (element_parts p) k.0) s.0.spoken,
    structures_are ps g.1 b.1 k.1 s.1,
  )
