-- One turn of a reader of records.
use Rattle.std.proofs.Common.{◌≡◌, ◌≢◌, ℕ, zero, suc, ◌+◌, ◌-◌, ◌<◌, ◌≤◌, List, [], ◌∷◌, ◌++◌, take, drop, length, cond}
use Rattle.std.proofs.Common.{◌&&◌, ◌||◌, not, Option, Some, None, Bool, true, false, eqb, refl, sym, ap, ◌∙◌, arith}
use Rattle.std.specs.List.{list_any}
use Rattle.std.specs.Str.{bytes_eq}
use Rattle.indexmap.specs.IndexSet.{insert_key}
use Rattle.std.proofs.lemmas.List.{length-drop, length-take}
use Rattle.std.proofs.Math.Seq.{drop-drop}
use Rattle.std.proofs.lemmas.Bool.{eqb-true}
use Rattle.std.proofs.lemmas.Bool.Decides.{nat_tests}
use Rattle.gds_records.specs.declared.fault.StreamKind.{StreamKind}
use Rattle.gds_records.specs.declared.fault.StreamKind.TheVariants.{Value, Unsupported, NotRectangle}
use Rattle.gds_records.specs.Language.{Language}
use Rattle.gds_records.specs.Derivative.{after}
use Rattle.gds_records.specs.Records.{Record, record_with, trimmed}
use Rattle.gds_records.specs.Table.{wide_table, has_length_in}
use Rattle.gds_records.specs.Values.{unsigned_value, is_text, is_name, is_nanometre, has_value, rule}
use Rattle.gds_records.specs.WideValues.{wide_opener, last_colrow, refers, points, is_ring, is_path, is_lattice}
use Rattle.gds_records.specs.WideValues.{columns, rows}
use Rattle.gds_records.specs.WideValues.{is_width, is_flip, is_one, is_turn, is_colrow, wide_fault_in}
use Rattle.gds_records.specs.Profiles.{wide}
use Rattle.gds_records.specs.Profiled.{own_fault_in, kind_of, form_of, length_of, here_record, alive, fault_of}
use Rattle.gds_records.specs.Steps.{is_listed, names_with, Kept, kept_with, value_here, step_fault, Told, Stopped}
use Rattle.gds_records.specs.Steps.{Ended, steps}
use Rattle.gds_read.specs.declared.place.Place.{Place}
use Rattle.gds_read.specs.Code.Places.{rest_of}
use Rattle.gds_read.specs.Code.Fronts.{IsWhole}
use Rattle.gds_read.specs.Code.Steps.{GoesOn, kept}
use Rattle.gds_read.proofs.Named.{listed_any}

pub data_long : (b held : List ℕ) → IsWhole b → held ≡ drop 4 (take (length_of b) b)
    → has_length_in wide_table (kind_of b) (4 + length held) ≡ true
data_long b held w e =
    let n : 4 + length held ≡ length_of b
    = omega (
      arith,
      ap (λ (x : List ℕ). length x) e,
      length-drop 4 (take (length_of b) b),
      length-take
          (length_of b) b,
      w.least,
      w.enough,
    ) in
    ap (λ (k : ℕ). has_length_in wide_table (kind_of b) k) n ∙ w.long

-- ---- the value of a record, by its own bytes

only_names : (s t : Bool) (kind form : ℕ) (held : List ℕ) → (kind ≡ 6 → s ≡ t)
    → has_value s (record_with kind form held) ≡ has_value t (record_with kind form held)
only_names s t kind form held same = turn (eqb kind 6) refl
  where
    choice : (z others : Bool) → z ≡ false → cond z (is_name held && not s) others ≡ cond z
        (is_name held && not t) others
    choice true others e = absurd cc
    choice false others e = refl

    turn : (z : Bool) → eqb kind 6 ≡ z → has_value s (record_with kind form held) ≡ has_value t
        (record_with kind form held)
    turn true e = ap (λ (b : Bool). has_value b (record_with kind form held)) (same (eqb-true kind 6 e))
    turn false e =
        ap (λ (v : Bool). cond (eqb kind 0x02 || eqb kind 0x19) (is_text held)
        (cond (eqb kind 0x03) (is_nanometre held) v))
        (choice (eqb kind 6) (cond (eqb kind 0x12) (is_name held) (cond (eqb kind 0x10) (eqb (length held) 8) true)) e)

-- only a structure's name may be taken
untaken : (element : ℕ) (colrow : List ℕ) (s t : Bool) (kind form : ℕ) (held : List ℕ) → (kind ≡ 6 → s ≡ t)
    → wide_fault_in element colrow s (record_with kind form held)
    ≡ wide_fault_in element colrow t (record_with kind form held)
untaken element colrow s t kind form held same =
    ap (λ (v : Bool). rule (eqb kind 0x1A && refers element) (is_flip held) Unsupported
    (rule (eqb kind 0x1B && refers element) (is_one held) Unsupported
    (rule (eqb kind 0x1C && refers element) (is_turn held) Unsupported
    (rule (eqb kind 0x21 && eqb element 0x09) (eqb (unsigned_value 0 held) 0
    || eqb (unsigned_value 0 held) 2) Unsupported
    (rule (eqb kind 0x10 && eqb element 0x08) (is_ring (points held)) NotRectangle
    (rule (eqb kind 0x10 && eqb element 0x09) (is_path (points held)) Value
    (rule (eqb kind 0x10 && eqb element 0x0B) (is_lattice (columns colrow) (rows colrow) (points held)) Value
    (rule (eqb kind 0x0F && eqb element 0x09) (is_width held) Value
    (rule (eqb kind 0x13) (is_colrow held) Value
    (rule true v Value None)))))))))) (only_names s t kind form held same)

-- the value of the record at the front, by its data, and by its name where it is one
pub value_is : (element : ℕ) (colrow : List ℕ) (names : List (List ℕ)) (taken : Bool) (b held : List ℕ)
    → held ≡ (here_record b).content → (kind_of b ≡ 6 → taken ≡ is_listed (trimmed held) names)
    → wide_fault_in element colrow taken (record_with (kind_of b) (form_of b) held)
    ≡ value_here wide (kept element colrow names) b
value_is element colrow names taken b held e named =
    untaken element colrow taken (is_listed (trimmed held) names) (kind_of b) (form_of b) held named
    ∙ ap (λ (h : List ℕ). wide_fault_in element colrow (is_listed (trimmed h) names)
    (record_with (kind_of b) (form_of b) h)) e

-- ---- turns of the steps

abbrev turn : ℕ → Option StreamKind → Bool → Told → Told → Told
turn o t z e rest = elim t as (λ (x : Option StreamKind). Told) [
  | Some k ↦ Stopped o k
  | None ↦ elim z as (λ (x : Bool). Told) [ true ↦ e | false ↦ rest ]
]

turn_stop : (o : ℕ) (t : Option StreamKind) (z : Bool) (e rest : Told) (k : StreamKind) → t ≡ Some k
    → turn o t z e rest ≡ Stopped o k
turn_stop o t z e rest k a = rw (a, turn) refl

turn_end : (o : ℕ) (t : Option StreamKind) (z : Bool) (e rest : Told) → t ≡ None → z ≡ true → turn o t z e rest ≡ e
turn_end o t z e rest a b = rw (a, b, turn) refl

turn_on : (o : ℕ) (t : Option StreamKind) (z : Bool) (e rest : Told) → t ≡ None → z ≡ false → turn o t z e rest ≡ rest
turn_on o t z e rest a b = rw (a, b, turn) refl

module _ (l : Language) (kept : Kept) (o : ℕ) (b : List ℕ) where
  abbrev here : ℕ → Told
  here n = steps wide n (after (kind_of b) l) (kept_with wide kept (here_record b)) (o + length_of b)
      (drop (length_of b) b)

  abbrev ended : Told
  ended = Ended (o + length_of b) (drop (length_of b) b)

  steps_stop : (n : ℕ) (k : StreamKind) → 0 < n → step_fault wide l kept b ≡ Some k
      → steps wide n l kept o b ≡ Stopped o k
  steps_stop zero k h e = absurd (omega arith)
  steps_stop (suc n) k h e = turn_stop o (step_fault wide l kept b) (eqb (kind_of b) 4) ended (here n) k e

  steps_end : (n : ℕ) → 0 < n → step_fault wide l kept b ≡ None → eqb (kind_of b) 4 ≡ true
      → steps wide n l kept o b ≡ ended
  steps_end zero h e f = absurd (omega arith)
  steps_end (suc n) h e f = turn_end o (step_fault wide l kept b) (eqb (kind_of b) 4) ended (here n) e f

  steps_on : (n : ℕ) → 0 < n → step_fault wide l kept b ≡ None → eqb (kind_of b) 4 ≡ false
      → steps wide n l kept o b ≡ here (n - 1)
  steps_on zero h e f = absurd (omega arith)
  steps_on (suc n) h e f =
      let m : n ≡ suc n - 1 = omega arith in
      turn_on o (step_fault wide l kept b) (eqb (kind_of b) 4) ended (here n) e f ∙ ap here m

-- ---- a turn of the reader

none_value : (t : Option StreamKind) (f : Bool) (v : Option StreamKind) → fault_of t f v ≡ None → v ≡ None
none_value (Some k) f v e = absurd cc
none_value None false v e = absurd cc
none_value None true v e = e

both_true : (a b : Bool) → (a && not b) ≡ true → b ≡ false
both_true true true e = absurd cc
both_true true false e = refl
both_true false b e = absurd cc

wide_name : (element : ℕ) (colrow : List ℕ) (taken : Bool) (form : ℕ) (held : List ℕ)
    → wide_fault_in element colrow taken (record_with 6 form held) ≡ None → taken ≡ false
wide_name element colrow taken form held e =
    both_true (is_name held) taken (rule_none (is_name held && not taken) e)
  where
    rule_none : (h : Bool) → rule true h Value None ≡ None → h ≡ true
    rule_none true e = refl
    rule_none false e = absurd cc

-- the name of a structure is new where it is no fault
fresh_name : (l : Language) (kept : Kept) (b : List ℕ) → step_fault wide l kept b ≡ None
    → kind_of b ≡ 6 → is_listed (trimmed (here_record b).content) kept.names ≡ false
fresh_name l kept b e k =
    let taken = is_listed (trimmed (here_record b).content) kept.names in
    let v = none_value (own_fault_in wide b) (alive (after (kind_of b) l)) (value_here wide kept b) e in
    let w : wide_fault_in kept.element kept.colrow taken (record_with 6 (form_of b) (here_record b).content) ≡ None
    = ap (λ (y : ℕ). wide_fault_in kept.element kept.colrow taken (record_with y (form_of b) (here_record b).content))
    (sym k) ∙ v in
    wide_name kept.element kept.colrow taken (form_of b) (here_record b).content w

with_name : (z : Bool) (names : List (List ℕ)) (t : List ℕ) → z ≡ true
    → (elim z as (λ (x : Bool). List (List ℕ)) [ true ↦ names ++ t ∷ [] | false ↦ names ]) ≡ names ++ t ∷ []
with_name z names t e = rw e refl

without_name : (z : Bool) (names : List (List ℕ)) (t : List ℕ) → z ≡ false
    → (elim z as (λ (x : Bool). List (List ℕ)) [ true ↦ names ++ t ∷ [] | false ↦ names ]) ≡ names
without_name z names t e = rw e refl

not_there : (t : Bool) (names : List (List ℕ)) (k : List ℕ) → t ≡ false
    → cond t names (names ++ k ∷ []) ≡ names ++ k ∷ []
not_there t names k e = rw e refl

-- the names after a structure's name, as a reader has them
pub named : (l : Language) (kept : Kept) (names : List (List ℕ)) (b name : List ℕ)
    → step_fault wide l kept b ≡ None → kind_of b ≡ 6 → name ≡ trimmed (here_record b).content
    → names ≡ insert_key bytes_eq kept.names name → names ≡ names_with kept.names (here_record b)
named l kept names b name e k n i =
    let t = trimmed (here_record b).content in
    i ∙ ap (λ (y : List ℕ). insert_key bytes_eq kept.names y) n
    ∙ not_there (list_any (bytes_eq t) kept.names) kept.names t
    (sym (listed_any t kept.names) ∙ fresh_name l kept b e k)
    ∙ sym (with_name (eqb (kind_of b) 6) kept.names t (ap (λ (y : ℕ). eqb y 6) k))

pub unnamed : (names : List (List ℕ)) (b : List ℕ) → kind_of b ≢ 6 → names ≡ names_with names (here_record b)
unnamed names b h =
    let z : eqb (kind_of b) 6 ≡ false = grind (arith, nat_tests) in
    sym (without_name (eqb (kind_of b) 6) names (trimmed (here_record b).content) z)

-- what is kept, part by part
pub kept_is : (old new : Kept) (r : Record) → new.element ≡ wide_opener old.element (r ∷ [])
    → new.colrow ≡ last_colrow old.colrow (r ∷ []) → new.names ≡ names_with old.names r → new ≡ kept_with wide old r
kept_is old new r e f g i = record { element = e i; colrow = f i; names = g i }

-- a reader of these bytes, that stands at this place and has come so far
pub record Stands (total : Told) (n : ℕ) (l : Language) (kept : Kept) (at : ℕ) (bytes rest : List ℕ) : Type 0 where
  pub here : rest ≡ drop at bytes
  pub enough : length bytes - at < n
  pub same : total ≡ steps wide n l kept at (drop at bytes)

module _ (total : Told) (n : ℕ) (l : Language) (kept : Kept) (at : ℕ) (bytes rest : List ℕ)
    (s : Stands total n l kept at bytes rest) where
  so_far : total ≡ steps wide n l kept at rest
  so_far = s.same ∙ ap (λ (x : List ℕ). steps wide n l kept at x) (sym s.here)

  some_turn : 0 < n
  some_turn = let h = s.enough in omega arith

  pub stopped_here : (k : StreamKind) → step_fault wide l kept rest ≡ Some k → total ≡ Stopped at k
  stopped_here k e = so_far ∙ steps_stop l kept at rest n k some_turn e

  moved : (size : ℕ) → size ≡ length_of rest → drop (length_of rest) rest ≡ drop (at + size) bytes
  moved size e =
      ap (λ (k : ℕ). drop k rest) (sym e) ∙ ap (λ (x : List ℕ). drop size x) s.here ∙ drop-drop size at bytes

  pub ended_here : (next : Place) (size : ℕ) → GoesOn l kept rest next → kind_of rest ≡ 4 → size ≡ length_of rest
      → total ≡ Ended (at + size) (drop (at + size) bytes)
  ended_here next size g k e =
      so_far ∙ steps_end l kept at rest n some_turn g.sound (ap (λ (x : ℕ). eqb x 4) k)
      ∙ (λ i. Ended (at + sym e i) (moved size e i))

  pub goes_on : (next : Place) (size : ℕ) (new : Kept) → GoesOn l kept rest next → kind_of rest ≢ 4
      → size ≡ length_of rest → new ≡ kept_with wide kept (here_record rest)
      → total ≡ steps wide (n - 1) (rest_of next) new (at + size) (drop (at + size) bytes)
  goes_on next size new g k e w =
      let z : eqb (kind_of rest) 4 ≡ false = grind (arith, nat_tests) in
      so_far ∙ steps_on l kept at rest n some_turn g.sound z
      ∙ (λ i. steps wide (n - 1) (g.next.follows i) (sym w i) (at + sym e i) (moved size e i))

  pub fits_here : (next : Place) (size : ℕ) → GoesOn l kept rest next → at ≤ length bytes → size ≡ length_of rest
      → (at + size ≤ length bytes) × (0 < size)
  fits_here next size g w e =
      let f = g.whole.enough in
      let h = g.whole.least in
      (omega (arith, ap (λ (x : List ℕ). length x) s.here, length-drop at bytes), omega arith)
