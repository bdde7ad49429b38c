-- What reading a wide stream promises of its layout: that it has a flat form.
use Rattle.std.proofs.Common.{◌≡◌, ℕ, zero, suc, ◌+◌, ◌≤◌, List, [], ◌∷◌, ◌++◌, map, take, drop, length, Bool, true}
use Rattle.std.proofs.Common.{false, eqb, ◌||◌, Option, Some, None, refl, sym, ap, subst, ◌∙◌, arith, inl, inr}
use Rattle.std.specs.Prelude.{Result, Ok, Err, IfOk}
use Rattle.std.specs.List.{flat_map, AllByRecursion}
use Rattle.std.proofs.lemmas.List.{length-map, map-append}
use Rattle.std.proofs.lemmas.List.Concat.{flat_map-cons}
use Rattle.geom.specs.FlatForm.{shape_limit}
use Rattle.poly_cut.specs.declared.layout.Item.{Item}
use Rattle.poly_cut.specs.declared.layout.Item.TheVariants.{Draw, Place, Text}
use Rattle.poly_cut.specs.declared.layout.WideStructure.{WideStructure}
use Rattle.poly_cut.specs.declared.layout.WideLayout.{WideLayout}
use Rattle.poly_cut.specs.FlatForm.{items_at}
use Rattle.poly_cut.specs.Counts.{wide_count}
use Rattle.poly_cut.specs.Conditions.{AreItems, some_placed, goes_down, IsFlattenable}
use Rattle.gds_records.specs.declared.fault.StreamKind.{StreamKind}
use Rattle.gds_records.specs.Language.{One, Speaks}
use Rattle.gds_records.specs.Grammar.{◌>>◌, tail, turned, boundary, path, turned_reference, array, text, wide_element}
use Rattle.gds_records.specs.Grammar.{wide_stream}
use Rattle.gds_records.specs.Records.{Record, spelled, kinds, number, trimmed}
use Rattle.gds_records.specs.Drawing.{starts, field, has, place_of, name_of, names_of, coordinate, element_parts}
use Rattle.gds_records.specs.WideDrawing.{point_at, turn_of, grid_of, figure_of, item_of, wide_structure_of}
use Rattle.gds_records.specs.WideDrawing.{wide_structures_of}
use Rattle.gds_records.specs.Whole.{Use, Outline, uses_from, outlines, all_uses, unknown, is_defined, tops, top_of}
use Rattle.gds_records.specs.Whole.{last_place}
use Rattle.gds_records.specs.WideWhole.{first_of, first_long, wide_whole_fault}
use Rattle.gds_records.specs.Steps.{is_listed}
use Rattle.gds_records.specs.Scan.{IsBytes}
use Rattle.gds_records.specs.Stream.{wide_layout_of}
use Rattle.gds_records.specs.Profiles.{wide}
use Rattle.gds_records.specs.Profiled.{AreGoodIn}
use Rattle.gds_read.specs.declared.outline.NamedUse.{NamedUse}
use Rattle.gds_read.specs.declared.outline.NamedOutline.{NamedOutline}
use Rattle.gds_read.specs.Code.Outlining.{use_of, outline_of, names_in, AreOutlined}
use Rattle.gds_read.specs.Code.Graphs.{graph_by, graph_of, targets_at, some_target, descends, is_long}
use Rattle.gds_read.specs.declared.refusal.StreamRefusal.{StreamRefusal}
use Rattle.gds_read.specs.WideReading.{IsWideReadAs}
use Rattle.gds_read.specs.Code.Bodies.{IsBody}
use Rattle.gds_read.specs.Code.Decoding.{records_in}
use Rattle.gds_read.proofs.Kept.{starts_kept}
use Rattle.gds_records.proofs.Sentences.{lacks}
use Rattle.gds_read.proofs.Words.{holds}
use Rattle.gds_read.proofs.Shaped.{has_is, snames, snames_none, SpokenIn, IsShapedIn, named_once, shaped_in}
use Rattle.gds_read.proofs.Valued.{next, IsValued, all_valued}
use Rattle.gds_read.proofs.WidePlaced.{all_split, KnownIn, structures_are}
use Rattle.gds_read.proofs.Placed.{HasBytes, all_bytes, bytes_front, starts_bytes}
use Rattle.gds_read.proofs.Ends.{names_same, top_low}
use Rattle.gds_read.proofs.Numbering.{defined_listed}
use Rattle.gds_read.proofs.Distinct.{Fresh, fresh_names}
use Rattle.gds_read.proofs.Graphs.{all_short}

-- ---- references of structures, and the names in their elements

abbrev called : Outline → List (List ℕ)
called s = map (λ u. u.name) s.uses

abbrev calls : List Record → List (List ℕ)
calls p = flat_map snames (element_parts p)

told_names : (rs : List Record) (o : ℕ) → AllByRecursion (IsShapedIn wide_element) (starts rs)
    → map called (outlines o rs) ≡ map calls (starts rs)
told_names [] o all = refl
told_names (r ∷ rs) o all = turn (eqb r.kind 5) all (told_names rs (o + (4 + length r.content)))
  where
    turn : (z : Bool) → AllByRecursion (IsShapedIn wide_element)
        (elim z as (λ (x : Bool). List (List Record)) [ true ↦ rs ∷ starts rs | false ↦ starts rs ])
        → (AllByRecursion (IsShapedIn wide_element) (starts rs)
        → map called (outlines (o + (4 + length r.content)) rs) ≡ map calls (starts rs))
        → map called (elim z as (λ (x : Bool). List Outline) [
          | true ↦ record { place = o; name = name_of rs; uses = uses_from (o + (4 + length r.content)) rs }
              ∷ outlines (o + (4 + length r.content)) rs
          | false ↦ outlines (o + (4 + length r.content)) rs
        ]) ≡ map calls (elim z as (λ (x : Bool). List (List Record)) [ true ↦ rs ∷ starts rs | false ↦ starts rs ])
    turn true a f = λ i. a.0.names (o + (4 + length r.content)) i ∷ f a.1 i
    turn false a f = f a

module _ (names : List (List ℕ)) where
  named_uses : (us : List NamedUse) → map (λ u. place_of u.name.now names) us ≡ map (λ t. place_of t names)
      (map (λ u. u.name) (map use_of us))
  named_uses [] = refl
  named_uses (u ∷ us) = ap (λ (x : List ℕ). place_of u.name.now names ∷ x) (named_uses us)

  graph_called : (ss : List NamedOutline) → graph_by names ss ≡ map (λ ts. map (λ t. place_of t names) ts)
      (map called (map outline_of ss))
  graph_called [] = refl
  graph_called (s ∷ ss) = λ i. named_uses s.uses i ∷ graph_called ss i

  numbers_drawn : (ps : List (List Record)) → map (λ ts. map (λ t. place_of t names) ts) (map calls ps) ≡ map
      (λ p. map (λ t. place_of t names) (flat_map snames (element_parts p))) ps
  numbers_drawn [] = refl
  numbers_drawn (p ∷ ps) = ap (λ (x : List (List ℕ)). map (λ t. place_of t names) (flat_map snames (element_parts p))
      ∷ x) (numbers_drawn ps)

  -- ---- what the items of an element place

  none_placed : (test : ℕ → Bool) (q : List Record) (es : List Item) → snames q ≡ []
      → some_placed test es ≡ (some_target test (map (λ t. place_of t names) (snames q)) || some_placed test es)
  none_placed test q es e = ap (λ (ts : List (List ℕ)). some_target test (map (λ t. place_of t names) ts)
      || some_placed test es) (sym e)

  or_nothing : (a b : Bool) → (a || b) ≡ ((a || false) || b)
  or_nothing true b = refl
  or_nothing false b = refl

  one_placed : (test : ℕ → Bool) (q : List Record) (es : List Item) → snames q ≡ trimmed (field 18 q) ∷ []
      → (test (place_of (trimmed (field 18 q)) names) || some_placed test es) ≡ (some_target test
      (map (λ t. place_of t names) (snames q)) || some_placed test es)
  one_placed test q es e =
      or_nothing (test (place_of (trimmed (field 18 q)) names)) (some_placed test es)
      ∙ ap (λ (ts : List (List ℕ)). some_target test (map (λ t. place_of t names) ts) || some_placed test es) (sym e)

  drawn_item : (q : List Record) → (has 8 q ≡ true) → item_of names q ≡ Draw (number (field 13 q)) (number (field 14 q))
      (figure_of q)
  drawn_item q b = rw (item_of, b) refl

  track_item : (q : List Record) → has 8 q ≡ false → has 9 q ≡ true
      → item_of names q ≡ Draw (number (field 13 q)) (number (field 14 q)) (figure_of q)
  track_item q b p = rw (item_of, b, p) refl

  placed_item : (q : List Record) → has 8 q ≡ false → has 9 q ≡ false → has 10 q ≡ true
      → item_of names q ≡ Place (place_of (trimmed (field 18 q)) names) (point_at (field 16 q) 0)
      (turn_of q) (grid_of q)
  placed_item q b p s = rw (item_of, b, p, s) refl

  array_item : (q : List Record) → has 8 q ≡ false → has 9 q ≡ false → has 10 q ≡ false → has 11 q ≡ true
      → item_of names q ≡ Place (place_of (trimmed (field 18 q)) names) (point_at (field 16 q) 0)
      (turn_of q) (grid_of q)
  array_item q b p s a = rw (item_of, b, p, s, a) refl

  text_item : (q : List Record) → has 8 q ≡ false → has 9 q ≡ false → has 10 q ≡ false → has 11 q ≡ false
      → item_of names q ≡ Text
      (record {
        layer = number (field 13 q);
        x = coordinate (field 16 q) 0;
        y = coordinate (field 16 q) 1;
        text = trimmed (field 25 q);
      })
  text_item q b p s a = rw (item_of, b, p, s, a) refl

  part_placed : (test : ℕ → Bool) (q : List Record) (es : List Item) → Speaks wide_element (kinds q)
      → some_placed test (item_of names q ∷ es) ≡ (some_target test (map (λ t. place_of t names) (snames q))
      || some_placed test es)
  part_placed test q es (inl h) =
      ap (λ (x : Item). some_placed test (x ∷ es)) (drawn_item q (has_is 8 q ∙ holds 8 boundary (kinds q) refl h))
      ∙ none_placed test q es (snames_none q (lacks 18 boundary (kinds q) refl h))
  part_placed test q es (inr (inl h)) =
      ap (λ (x : Item). some_placed test (x ∷ es))
      (track_item q (has_is 8 q ∙ lacks 8 path (kinds q) refl h) (has_is 9 q ∙ holds 9 path (kinds q) refl h))
      ∙ none_placed test q es (snames_none q (lacks 18 path (kinds q) refl h))
  part_placed test q es (inr (inr (inl h))) =
      ap (λ (x : Item). some_placed test (x ∷ es))
      (placed_item q (has_is 8 q ∙ lacks 8 turned_reference (kinds q) refl h)
      (has_is 9 q ∙ lacks 9 turned_reference (kinds q) refl h)
      (has_is 10 q ∙ holds 10 turned_reference (kinds q) refl h))
      ∙ one_placed test q es (named_once 10 (turned >> One 0x10 >> tail) q refl refl h)
  part_placed test q es (inr (inr (inr (inl h)))) =
      ap (λ (x : Item). some_placed test (x ∷ es))
      (array_item q (has_is 8 q ∙ lacks 8 array (kinds q) refl h) (has_is 9 q ∙ lacks 9 array (kinds q) refl h)
      (has_is 10 q ∙ lacks 10 array (kinds q) refl h) (has_is 11 q ∙ holds 11 array (kinds q) refl h))
      ∙ one_placed test q es (named_once 11 (turned >> One 0x13 >> One 0x10 >> tail) q refl refl h)
  part_placed test q es (inr (inr (inr (inr h)))) =
      ap (λ (x : Item). some_placed test (x ∷ es))
      (text_item q (has_is 8 q ∙ lacks 8 text (kinds q) refl h) (has_is 9 q ∙ lacks 9 text (kinds q) refl h)
      (has_is 10 q ∙ lacks 10 text (kinds q) refl h) (has_is 11 q ∙ lacks 11 text (kinds q) refl h))
      ∙ none_placed test q es (snames_none q (lacks 18 text (kinds q) refl h))

  some_append : (test : ℕ → Bool) (ns ms : List ℕ) → some_target test
      (ns ++ ms) ≡ (some_target test ns || some_target test ms)
  some_append test [] ms = refl
  some_append test (n ∷ ns) ms = ap (λ (b : Bool). test n || b) (some_append test ns ms)
      ∙ sym (or_assoc (test n) (some_target test ns) (some_target test ms))
    where
      or_assoc : (a b c : Bool) → ((a || b) || c) ≡ (a || (b || c))
      or_assoc true b c = refl
      or_assoc false b c = refl

  parts_placed : (test : ℕ → Bool) (qs : List (List Record)) → AllByRecursion (SpokenIn wide_element) qs
      → some_placed test (map (item_of names) qs) ≡ some_target test (map (λ t. place_of t names) (flat_map snames qs))
  parts_placed test [] all = refl
  parts_placed test (q ∷ qs) all =
      part_placed test q (map (item_of names) qs) all.0
      ∙ ap (λ (b : Bool). some_target test (map (λ t. place_of t names) (snames q)) || b) (parts_placed test qs all.1)
      ∙ sym (some_append test (map (λ t. place_of t names) (snames q))
      (map (λ t. place_of t names) (flat_map snames qs)))
      ∙ ap (λ (ns : List ℕ). some_target test ns)
      (sym (map-append (λ t. place_of t names) (snames q) (flat_map snames qs)))
      ∙ ap (λ (ts : List (List ℕ)). some_target test (map (λ t. place_of t names) ts)) (sym (flat_map-cons snames q qs))

  placed_at : (test : ℕ → Bool) (ps : List (List Record)) (n : ℕ) → AllByRecursion (IsShapedIn wide_element) ps
      → some_placed test (items_at (map (wide_structure_of names) ps) n) ≡ some_target test
      (targets_at (map (λ p. map (λ t. place_of t names) (flat_map snames (element_parts p))) ps) n)
  placed_at test [] n all = refl
  placed_at test (p ∷ ps) zero all = parts_placed test (element_parts p) all.0.spoken
  placed_at test (p ∷ ps) (suc n) all = placed_at test ps n all.1

  placed_alike : (f g : ℕ → Bool) → ((n : ℕ) → f n ≡ g n) → (es : List Item) → some_placed f es ≡ some_placed g es
  placed_alike f g h [] = refl
  placed_alike f g h (Draw layer datatype figure ∷ es) = placed_alike f g h es
  placed_alike f g h (Place n at turn grid ∷ es) = λ i. h n i || placed_alike f g h es i
  placed_alike f g h (Text l ∷ es) = placed_alike f g h es

  -- chains down the drawn structures
  chains_drawn : (k : ℕ) (ps : List (List Record)) → AllByRecursion (IsShapedIn wide_element) ps → (n : ℕ)
      → goes_down k (map (wide_structure_of names) ps) n ≡ descends k
      (map (λ p. map (λ t. place_of t names) (flat_map snames (element_parts p))) ps) n
  chains_drawn zero ps all n = refl
  chains_drawn (suc k) ps all n =
      placed_alike (goes_down k (map (wide_structure_of names) ps))
      (descends k (map (λ p. map (λ t. place_of t names) (flat_map snames (element_parts p))) ps))
      (chains_drawn k ps all) (items_at (map (wide_structure_of names) ps) n)
      ∙ placed_at (descends k (map (λ p. map (λ t. place_of t names) (flat_map snames (element_parts p))) ps)) ps n all

-- ---- names that are known

uses_known : (us : List Use) (all : List Outline) → unknown us all ≡ None
    → AllByRecursion (λ t. is_listed t (map (λ s. s.name) all) ≡ true) (map (λ u. u.name) us)
uses_known [] all e = tt
uses_known (u ∷ us) all e = turn (is_defined u.name all) refl e (uses_known us all)
  where
    turn : (d : Bool) → is_defined u.name all ≡ d
        → (elim d as (λ (y : Bool). Option ℕ) [ true ↦ unknown us all | false ↦ Some u.place ]) ≡ None
        → (unknown us all ≡ None → AllByRecursion (λ t. is_listed t (map (λ s. s.name) all) ≡ true)
        (map (λ u. u.name) us))
        → AllByRecursion (λ t. is_listed t (map (λ s. s.name) all) ≡ true) (u.name ∷ map (λ u. u.name) us)
    turn true d f g = (sym (defined_listed u.name all) ∙ d, g f)
    turn false d f g = absurd cc

each_known : (P : List ℕ → Type 0) (ss : List Outline) → AllByRecursion P (map (λ u. u.name) (all_uses ss))
    → AllByRecursion (AllByRecursion P) (map called ss)
each_known P [] all = tt
each_known P (s ∷ ss) all =
    let r = all_split P (called s) (map (λ u. u.name) (all_uses ss))
    (subst (λ (ts : List (List ℕ)). AllByRecursion P ts) (map-append (λ u. u.name) s.uses (all_uses ss)) all) in
    (r.0, each_known P ss r.1)

of_map : {A B : Type 0} (f : A → B) (P : B → Type 0) (xs : List A) → AllByRecursion P (map f xs)
    → AllByRecursion (λ x. P (f x)) xs
of_map f P [] all = tt
of_map f P (x ∷ xs) all = (all.0, of_map f P xs all.1)

-- ---- the whole

none_of : (o : Option ℕ) (k : StreamKind) (t : Option (ℕ × StreamKind)) → first_of o k t ≡ None
    → (o ≡ None) × (t ≡ None)
none_of (Some p) k t e = absurd cc
none_of None k t e = (refl, e)

module _ (rs : List Record) (shapes : AllByRecursion (IsShapedIn wide_element) (starts rs)) where
  known_in : unknown (all_uses (outlines 0 rs)) (outlines 0 rs) ≡ None
      → AllByRecursion (KnownIn (names_of rs)) (starts rs)
  known_in e =
      let all = each_known (λ t. is_listed t (map (λ s. s.name) (outlines 0 rs)) ≡ true) (outlines 0 rs)
      (uses_known (all_uses (outlines 0 rs)) (outlines 0 rs) e) in
      let named = subst (λ (ns : List (List ℕ)). AllByRecursion (AllByRecursion (λ t. is_listed t ns ≡ true))
      (map called (outlines 0 rs))) (names_same 0 rs) all in
      of_map calls (AllByRecursion (λ t. is_listed t (names_of rs) ≡ true)) (starts rs)
      (subst (λ (x : List (List (List ℕ))). AllByRecursion (AllByRecursion (λ t. is_listed t (names_of rs) ≡ true)) x)
      (told_names rs 0 shapes) named)

  graph_drawn : (ss : List NamedOutline) → map outline_of ss ≡ outlines 0 rs
      → graph_of ss ≡ map (λ p. map (λ t. place_of t (names_of rs)) (flat_map snames (element_parts p))) (starts rs)
  graph_drawn ss same =
      let names : names_in ss ≡ names_of rs = ap (λ (x : List Outline). map (λ s. s.name) x) same ∙ names_same 0 rs in
      ap (λ (ns : List (List ℕ)). graph_by ns ss) names ∙ graph_called (names_of rs) ss
      ∙ ap (λ (x : List Outline). map (λ ts. map (λ t. place_of t (names_of rs)) ts) (map called x)) same
      ∙ ap (λ (x : List (List (List ℕ))). map (λ ts. map (λ t. place_of t (names_of rs)) ts) x) (told_names rs 0 shapes)
      ∙ numbers_drawn (names_of rs) (starts rs)

  short_drawn : (ss : List NamedOutline) → map outline_of ss ≡ outlines 0 rs
      → ((n : ℕ) → is_long (graph_of ss) n ≡ false) → (n : ℕ) → goes_down 65 (wide_structures_of rs) n ≡ false
  unfolding is_long
  short_drawn ss same short n =
      chains_drawn (names_of rs) 65 (starts rs) shapes n ∙ ap (λ (g : List (List ℕ)). descends 65 g n)
      (sym (graph_drawn ss same)) ∙ short n

  -- names differ, so each structure is the first of its name, and the first from which a long chain goes down is found
  -- by names
  all_drawn_short : Speaks wide_stream (kinds rs) → AreGoodIn wide [] rs → wide_whole_fault rs ≡ None → AreOutlined rs
      → (n : ℕ) → goes_down 65 (wide_structures_of rs) n ≡ false
  all_drawn_short grammar good e outlined n =
      let u = none_of (unknown (all_uses (outlines 0 rs)) (outlines 0 rs)) _ _ e in
      let d = none_of (first_long (outlines 0 rs) (outlines 0 rs)) _ _ u.1 in
      let names : names_in outlined.structures ≡ names_of rs =
      ap (λ (x : List Outline). map (λ s. s.name) x) outlined.same ∙ names_same 0 rs in
      let fresh : Fresh [] (names_in outlined.structures) = subst (λ (ns : List (List ℕ)). Fresh [] ns) (sym names)
      (fresh_names rs grammar good) in
      let none : first_long (map outline_of outlined.structures) (map outline_of outlined.structures) ≡ None =
      (λ i. first_long (outlined.same i) (outlined.same i)) ∙ d.0 in
      short_drawn outlined.structures outlined.same (all_short outlined.structures fresh none) n

  flattens : AllByRecursion HasBytes rs → AreGoodIn wide [] rs → wide_whole_fault rs ≡ None
      → ((n : ℕ) → goes_down 65 (wide_structures_of rs) n ≡ false) → wide_count (wide_layout_of rs) ≤ shape_limit
      → IsFlattenable (wide_layout_of rs)
  flattens bytes good e short within =
      let u = none_of (unknown (all_uses (outlines 0 rs)) (outlines 0 rs)) _ _ e in
      let d = none_of (first_long (outlines 0 rs) (outlines 0 rs)) _ _ u.1 in
      let size : length (names_of rs) ≡ length (wide_structures_of rs) = length-map (starts rs) name_of
      ∙ sym (length-map (starts rs) (wide_structure_of (names_of rs))) in
      let outlined : length (outlines 0 rs) ≡ length (names_of rs) = sym (length-map (outlines 0 rs) (λ s. s.name))
      ∙ ap (λ (x : List (List ℕ)). length x) (names_same 0 rs) in
      let top = top_low (last_place 0 rs) (all_uses (outlines 0 rs)) (outlines 0 rs)
      (tops 0 (all_uses (outlines 0 rs)) (outlines 0 rs)) refl d.1 in
      record {
        top_stands = omega (arith, top, outlined, size);
        each = subst (λ (n : ℕ). AreItems n (wide_structures_of rs)) size
            (structures_are (names_of rs) (starts rs) (starts_kept next IsValued (0, []) rs (all_valued rs good))
            (starts_bytes rs bytes) (known_in u.0) shapes);
        short = short;
        within = within;
      }

-- what is read is a wide stream, and has a flat form
pub wide_read : (bytes : List ℕ) (end : ℕ) (records : List ℕ) (layout : WideLayout)
    (r : Result WideLayout StreamRefusal) → IsBytes bytes → IsBody bytes end → records ≡ take end bytes
    → layout ≡ wide_layout_of (records_in records) → wide_whole_fault (records_in records) ≡ None
    → AreOutlined (records_in records)
    → IfOk r (λ taken. taken ≡ layout) → IfOk r (λ taken. wide_count layout ≤ shape_limit)
    → IfOk r (λ taken. IsWideReadAs bytes taken)
wide_read bytes end records layout (Err refusal) fits b front says none outlined same within = tt
wide_read bytes end records layout (Ok taken) fits b front says none outlined same within =
    let rs : List Record = records_in (take end bytes) in
    let e : records_in records ≡ rs = ap (λ (x : List ℕ). records_in x) front in
    let said : layout ≡ wide_layout_of rs = says ∙ ap (λ (x : List Record). wide_layout_of x) e in
    let no_fault : wide_whole_fault rs ≡ None = subst (λ (x : List Record). wide_whole_fault x ≡ None) e none in
    let told : AreOutlined rs = subst (λ (x : List Record). AreOutlined x) e outlined in
    let shapes = shaped_in wide_element refl refl refl rs b.read.grammar in
    let low : IsBytes (flat_map spelled rs ++ drop end bytes) = subst (λ (x : List ℕ). IsBytes x) b.read.whole fits in
    let flat : IsFlattenable (wide_layout_of rs) =
    flattens rs shapes (all_bytes rs (bytes_front (flat_map spelled rs) (drop end bytes) low)) b.read.good no_fault
    (all_drawn_short rs shapes b.read.grammar b.read.good no_fault told)
    (subst (λ (w : WideLayout). wide_count w ≤ shape_limit) said within) in
    let is : IsWideReadAs bytes layout = record {
      stream = record {
        records = rs;
        rest = drop end bytes;
        read = b.read;
        zeros = b.zeros;
        conditions = no_fault;
        says = said;
      };
      flattenable = subst (λ (w : WideLayout). IsFlattenable w) (sym said) flat;
    } in
    subst (λ (w : WideLayout). IsWideReadAs bytes w) (sym same) is

-- the layout of records, from its parts
pub wide_layout_made : (rs : List Record) (found seen : List NamedOutline) (structures : List WideStructure)
    (top made : ℕ) → map outline_of found ≡ outlines 0 rs → seen ≡ found
    → structures ≡ map (wide_structure_of (names_in seen)) (starts rs) → made ≡ top_of rs → top ≡ made
    → ◌≡◌ {A = WideLayout} (record { structures = structures; top = top }) (wide_layout_of rs)
wide_layout_made rs found seen structures top made e s m t q =
    let names : names_in seen ≡ names_of rs = ap (λ (x : List NamedOutline). names_in x) s
    ∙ ap (λ (x : List Outline). map (λ o. o.name) x) e ∙ names_same 0 rs in
    let w : structures ≡ wide_structures_of rs = m
    ∙ ap (λ (x : List (List ℕ)). map (wide_structure_of x) (starts rs)) names in
    let u : top ≡ top_of rs = q ∙ t in
    λ i. record { structures = w i; top = u i }
