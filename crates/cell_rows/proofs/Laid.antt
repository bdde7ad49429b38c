-- Cells that are laid one after another: places, sources and rows.
use Rattle.std.proofs.Common.{◌≡◌, ℕ, zero, suc, ◌+◌, ◌-◌, ◌<◌, ◌≤◌, Bool, true, false, cond, not, List, [], ◌∷◌, ◌++◌}
use Rattle.std.proofs.Common.{length, take, map, replicate, Option, Some, None, refl, ap, sym, ◌∙◌, subst, arith, inl}
use Rattle.std.proofs.Common.{inr}
use Rattle.std.specs.Prelude.{◌&&◌, slice_get, slice_set, slice_index, slice_index_or, nat_eq, eqb}
use Rattle.std.proofs.lemmas.Bool.{cases_eq, cond-true, cond-false}
use Rattle.std.proofs.lemmas.Bool.Decides.{eqb_tells}
use Rattle.std.proofs.lemmas.Option.{slice_get_within, same_Some, none-some, slice_get-get_or, get_or_from_slice_get}
use Rattle.std.proofs.lemmas.List.{length_push, length-set, length-replicate, map_push, get_or_push}
use Rattle.std.proofs.lemmas.List.{get_or_append_left}
use Rattle.circuit.specs.declared.cell_kind.CellKind.{CellKind}
use Rattle.circuit.specs.declared.gate.Gate.{Gate}
use Rattle.circuit.specs.declared.gate.Gate.TheVariants.{Input, Zero, One, Buf, Inv, Maj}
use Rattle.rowed.specs.declared.source.Source.{Source}
use Rattle.rowed.specs.declared.row_cell.RowCell.{RowCell}
use Rattle.rowed.specs.MadeCells.{source, cell, bare_cell, fed_cell}
use Rattle.cell_netlist.specs.Kinds.{operands_of, IsCellGate}
use Rattle.cell_netlist.specs.Tables.{AreCounts, IsBumped}
use Rattle.cell_netlist.specs.Uses.{CellView, named, uses, is_input, is_name, is_buffer, gate_of}
use Rattle.cell_netlist.specs.Levels.{shown_by}
use Rattle.cell_rows.specs.Laws.{AreCells}
use Rattle.cell_rows.specs.Members.{passing_below, listed, stands_in, place_of}
use Rattle.cell_rows.specs.CellRows.{kind_giving, source_of, output_of, cell_of, row_cell}
use Rattle.cell_rows.specs.Code.Laying.{counts_to, rows_to, ArePlaces, AreShown, IsPlan, source_in, cell_with}
use Rattle.cell_rows.proofs.Listed.{listed_read, listed_set, listed_same, pass_more, pass_none, passing_long}
use Rattle.cell_rows.proofs.Counted.{count_append, count_first}
use Rattle.cell_rows.proofs.Defined.{Defined, defined, gate_is, same_gate, past_inputs, named_below, IsCell, names_cell}
use Rattle.cell_rows.proofs.Rows.{stands, standing}
use Rattle.cell_rows.proofs.Standing.{cell_is, reads_none}
use Rattle.cell_rows.proofs.Ends.{output_is, output_told}

-- one more definition among the rows

tabled : {A : Type 0} → (List ℕ → A) → CellView → List ℕ → ℕ → ℕ → List A
tabled h d levels last n = listed (λ r. h (passing_below (stands_in d levels r) n)) (suc last)

stands_not : (d : CellView) (levels : List ℕ) (r j : ℕ) → (slice_index levels j ≡ r → ⊥)
    → stands_in d levels r j ≡ false
stands_not d levels r j ne = by (stands_in d levels r j) refl
  where
    by : (b : Bool) → stands_in d levels r j ≡ b → stands_in d levels r j ≡ false
    by false e = e
    by true e = absurd (ne (standing d levels r j e).level)

stands_name : (d : CellView) (levels : List ℕ) (r j : ℕ) → is_name d (d.net.inputs + j) ≡ true
    → stands_in d levels r j ≡ false
stands_name d levels r j e = ap (λ (b : Bool). not b && eqb (slice_index levels j) r) e

table_name : {A : Type 0} (h : List ℕ → A) (d : CellView) (levels : List ℕ) (last j : ℕ)
    → is_name d (d.net.inputs + j) ≡ true → tabled h d levels last j ≡ tabled h d levels last (j + 1)
unfolding tabled
table_name h d levels last j e =
    listed_same (λ r. h (passing_below (stands_in d levels r) j))
    (λ r. h (passing_below (stands_in d levels r) (j + 1))) (suc last)
    (λ r lt.
    ap (λ (n : ℕ). h (passing_below (stands_in d levels r) n)) (let one : j + 1 ≡ suc j = omega arith in one)
    ∙ ap h (pass_none (stands_in d levels r) j (stands_name d levels r j e)))

table_cell : {A : Type 0} (h : List ℕ → A) (d : CellView) (levels : List ℕ) (last j row : ℕ) (x : A) → IsCell d j
    → row ≡ slice_index levels j → row ≤ last → x ≡ h (passing_below (stands_in d levels row) j ++ j ∷ [])
    → slice_set (tabled h d levels last j) row x ≡ tabled h d levels last (j + 1)
unfolding tabled
table_cell h d levels last j row x cell is le value =
    let one : j + 1 ≡ suc j = omega arith in
    let f = λ (r : ℕ). h (passing_below (stands_in d levels r) j) in
    let g = λ (r : ℕ). h (passing_below (stands_in d levels r) (j + 1)) in
    ap (slice_set (listed f (suc last)) row)
    (value ∙ ap h (sym (pass_more (stands_in d levels row) j (stands levels cell (sym is))))
    ∙ ap (λ (n : ℕ). h (passing_below (stands_in d levels row) n)) (sym one))
    ∙ listed_set f g (suc last) row (omega (arith, le))
    (λ r ne.
    ap (λ (n : ℕ). h (passing_below (stands_in d levels r) n)) one
    ∙ ap h (pass_none (stands_in d levels r) j (stands_not d levels r j (λ same. ne (sym same ∙ sym is)))))

-- counts

pub counts_name : (d : CellView) (levels : List ℕ) (last j : ℕ) (counts : List ℕ)
    → is_name d (d.net.inputs + j) ≡ true → counts ≡ counts_to d levels last j
    → counts ≡ counts_to d levels last (j + 1)
unfolding tabled
counts_name d levels last j counts e is = is ∙ table_name length d levels last j e

pub count_there : (d : CellView) (levels : List ℕ) (last j row : ℕ) (counts : List ℕ)
    → counts ≡ counts_to d levels last j → row ≤ last
    → slice_index counts row ≡ length (passing_below (stands_in d levels row) j)
count_there d levels last j row counts is le =
    ap (λ (xs : List ℕ). slice_index xs row) is
    ∙ listed_read (λ r. length (passing_below (stands_in d levels r) j)) (suc last) row
    0 (omega (arith, le))

pub counts_cell : (d : CellView) (levels : List ℕ) (last j row place : ℕ) (counts : List ℕ) → IsCell d j
    → row ≡ slice_index levels j → row ≤ last → counts ≡ counts_to d levels last j → place ≡ slice_index counts row
    → slice_set counts row (place + 1) ≡ counts_to d levels last (j + 1)
unfolding tabled
counts_cell d levels last j row place counts cell is le known there =
    ap (λ (xs : List ℕ). slice_set xs row (place + 1)) known
    ∙ table_cell length d levels last j row (place + 1) cell is le
    (ap (λ (n : ℕ). n + 1) (there ∙ count_there d levels last j row counts known le)
    ∙ sym (length_push (passing_below (stands_in d levels row) j) j))

pub place_is : (d : CellView) (levels : List ℕ) (last j row place : ℕ) (counts : List ℕ)
    → row ≡ slice_index levels j → row ≤ last → counts ≡ counts_to d levels last j → place ≡ slice_index counts row
    → place ≡ place_of d levels j
place_is d levels last j row place counts is le known there =
    there ∙ count_there d levels last j row counts known le
    ∙ ap (λ (r : ℕ). length (passing_below (stands_in d levels r) j)) is

pub count_low : (d : CellView) (levels : List ℕ) (last j row place : ℕ) (counts : List ℕ) → row ≤ last
    → counts ≡ counts_to d levels last j → place ≡ slice_index counts row → place ≤ j
count_low d levels last j row place counts le known there =
    let is = there ∙ count_there d levels last j row counts known le in
    let few = passing_long (stands_in d levels row) j in
    omega (arith, is, few)

-- rows

pub rows_name : (d : CellView) (levels : List ℕ) (last j : ℕ) (rows : List (List RowCell))
    → is_name d (d.net.inputs + j) ≡ true → rows ≡ rows_to d levels last j → rows ≡ rows_to d levels last (j + 1)
unfolding tabled
rows_name d levels last j rows e is = is ∙ table_name (map (row_cell d levels)) d levels last j e

pub rows_cell : (d : CellView) (levels : List ℕ) (last j row : ℕ) (cell : RowCell) (rows : List (List RowCell))
    → IsCell d j → row ≡ slice_index levels j → row ≤ last → rows ≡ rows_to d levels last j
    → cell ≡ row_cell d levels j
    → slice_set rows row (slice_index_or rows row [] ++ cell ∷ []) ≡ rows_to d levels last (j + 1)
unfolding tabled
rows_cell d levels last j row cell rows here is le known made =
    ap (λ (xs : List (List RowCell)). slice_set xs row (slice_index_or xs row [] ++ cell ∷ [])) known
    ∙ table_cell (map (row_cell d levels)) d levels last j row
    (slice_index_or (rows_to d levels last j) row [] ++ cell ∷ []) here is le
    (ap (λ (xs : List RowCell). xs ++ cell ∷ [])
    (listed_read (λ r. map (row_cell d levels) (passing_below (stands_in d levels r) j)) (suc last) row []
    (omega (arith, le)))
    ∙ ap (λ (c : RowCell). map (row_cell d levels) (passing_below (stands_in d levels row) j) ++ c ∷ []) made
    ∙ sym (map_push (row_cell d levels) (passing_below (stands_in d levels row) j) j))

-- places

pub places_more : (d : CellView) (levels places : List ℕ) (j place : ℕ) → ArePlaces d levels places j
    → (is_name d (d.net.inputs + j) ≡ false → place ≡ place_of d levels j)
    → ArePlaces d levels (places ++ place ∷ []) (j + 1)
places_more d levels places j place known is = record {
  long = length_push places place ∙ ap (λ (n : ℕ). n + 1) known.long;
  each = λ k lt name. elim (cases_eq k j) [
    | inl e ↦
        let here : is_name d (d.net.inputs + j) ≡ false = ap (λ (n : ℕ). is_name d (d.net.inputs + n)) (sym e) ∙ name in
        ap (slice_index (places ++ place ∷ [])) e ∙ get_or_push places place 0 j known.long ∙ is here
        ∙ ap (place_of d levels) (sym e)
    | inr ne ↦
        let low : k < j = omega (arith, lt, ne) in
        let long = known.long in
        get_or_append_left places (place ∷ []) 0 k (omega (arith, low, long)) ∙ known.each k low name
  ];
}

-- outputs

set_there : {A : Type 0} (xs : List A) (i : ℕ) (x : A) → i < length xs → slice_get (slice_set xs i x) i ≡ Some x
set_there [] i x lt = absurd (omega (arith, lt))
set_there (y ∷ xs) zero x lt = refl
set_there (y ∷ xs) (suc i) x lt = set_there xs i x (omega (arith, lt))

set_apart : {A : Type 0} (xs : List A) (i j : ℕ) (x : A) → (i ≡ j → ⊥)
    → slice_get (slice_set xs i x) j ≡ slice_get xs j
set_apart [] i j x ne = refl
set_apart (y ∷ xs) zero zero x ne = absurd (ne refl)
set_apart (y ∷ xs) zero (suc j) x ne = refl
set_apart (y ∷ xs) (suc i) zero x ne = refl
set_apart (y ∷ xs) (suc i) (suc j) x ne = set_apart xs i j x (λ e. ne (ap suc e))

replicated : {A : Type 0} (n s : ℕ) (x y : A) → slice_get (replicate n x) s ≡ Some y → x ≡ y
replicated zero s x y e = absurd (none-some y e)
replicated (suc n) zero x y e = same_Some x y e
replicated (suc n) (suc s) x y e = replicated n s x y e

pub shown_none : (d : CellView) (shown : List (Option ℕ)) (n : ℕ) → n ≡ d.net.inputs + length d.net.defs
    → shown ≡ replicate n None → AreShown d shown 0
shown_none d shown n long is = record {
  long = ap length is ∙ length-replicate n None ∙ long;
  some = λ s k at.
      absurd (none-some k (replicated n s None (Some k) (ap (λ (xs : List (Option ℕ)). slice_get xs s) (sym is) ∙ at)));
  none = λ s k at lt. absurd (omega (arith, lt));
}

pub shown_more : (d : CellView) (shown : List (Option ℕ)) (k signal : ℕ) → AreShown d shown k
    → signal ≡ shown_by d (slice_index d.net.outputs k) → AreShown d (slice_set shown signal (Some k)) (k + 1)
shown_more d shown k signal known is = record {
  long = length-set shown signal (Some k) ∙ known.long;
  some = λ s m at. elim (cases_eq signal s) [
    | inl e ↦
        let within = slice_get_within (slice_set shown signal (Some k)) s (Some m) at in
        let long = length-set shown signal (Some k) in
        let there = set_there shown signal (Some k) (omega (arith, e, within, long)) in
        let same : k ≡ m =
        same_Some k m (same_Some (Some k) (Some m)
        (sym there ∙ ap (slice_get (slice_set shown signal (Some k))) e ∙ at)) in
        (omega (arith, same), ap (λ (n : ℕ). shown_by d (slice_index d.net.outputs n)) (sym same) ∙ sym is ∙ e)
    | inr ne ↦
        let old = known.some s m (sym (set_apart shown signal s (Some k) ne) ∙ at) in
        let low = old.0 in
        (omega (arith, low), old.1)
  ];
  none = λ s m at lt shows. elim (cases_eq signal s) [
    | inl e ↦
        let within = slice_get_within (slice_set shown signal (Some k)) s None at in
        let long = length-set shown signal (Some k) in
        let there = set_there shown signal (Some k) (omega (arith, e, within, long)) in
        none-some k (same_Some None (Some k)
        (sym at ∙ ap (slice_get (slice_set shown signal (Some k))) (sym e) ∙ there))
    | inr ne ↦ elim (cases_eq m k) [
      | inl last ↦
          ne (is ∙ ap (λ (n : ℕ). shown_by d (slice_index d.net.outputs n)) (sym last) ∙ shows)
      | inr other ↦
          known.none s m (sym (set_apart shown signal s (Some k) ne) ∙ at) (omega (arith, lt, other)) shows
    ]
  ];
}

pub output_in : {d : CellView} {levels : List ℕ} {last : ℕ} → AreCells d levels last → (shown : List (Option ℕ))
    → AreShown d shown (length d.net.outputs) → (j : ℕ) (output : Option ℕ)
    → slice_get shown (d.net.inputs + j) ≡ Some output → output ≡ output_of d (d.net.inputs + j)
output_in {d} known shown are j (Some k) at =
    let is = are.some (d.net.inputs + j) k at in
    let o = slice_index d.net.outputs k in
    sym (output_told known j k o (slice_get-get_or d.net.outputs k 0 is.0) is.1)
output_in {d} known shown are j None at = by (output_of d (d.net.inputs + j)) refl
  where
    by : (o : Option ℕ) → output_of d (d.net.inputs + j) ≡ o → None ≡ output_of d (d.net.inputs + j)
    by None e = sym e
    by (Some k) e =
        let is = output_is d (d.net.inputs + j) k e in
        let within = slice_get_within d.net.outputs k is.output is.here in
        absurd (are.none (d.net.inputs + j) k at within
        (ap (shown_by d) (get_or_from_slice_get d.net.outputs k is.output 0 is.here) ∙ is.shown))

-- the cell of a gate

-- where the lists tell the places and the uses before definition j
source_told : {d : CellView} {levels : List ℕ} {last : ℕ} → AreCells d levels last → (places used : List ℕ) (j : ℕ)
    → ArePlaces d levels places (length d.net.defs)
    → AreCounts used (d.net.inputs + length d.net.defs) (named (take j d.net.defs))
    → (x : Defined d j) → (i s : ℕ) → slice_get x.def.inputs i ≡ Some s → is_input d s ≡ false
    → source_in d.net.inputs places used s ≡ source_of d levels j s
source_told {d} {levels} known places used j are counts x i s at e =
    let k = s - d.net.inputs in
    let cell = names_cell known x i k (at ∙ ap (λ (n : ℕ). Some n) (past_inputs d s e)) in
    ap (λ (c : ℕ). source c (slice_index used s)) (are.each k cell.below cell.no_name)
    ∙ ap (source (place_of d levels k)) (counts.each s (named_below known j i s x.def x.here at))

buffer_told : (b : Bool) (kind : CellKind) (from f : ℕ → Source) (s : ℕ) (o : Option ℕ) → (b ≡ false → from s ≡ f s)
    → record (cond b (record (bare_cell kind) { input = Some s }) (fed_cell kind (from s))) { output = o }
    ≡ record {
      kind = kind;
      source0 = slice_get (map f (cond b [] (s ∷ []))) 0;
      source1 = slice_get (map f (cond b [] (s ∷ []))) 1;
      source2 = slice_get (map f (cond b [] (s ∷ []))) 2;
      input = cond b (Some s) None;
      output = o;
    }
buffer_told true kind from f s o same = refl
buffer_told false kind from f s o same =
    ap (λ (t : Source). record (fed_cell kind t) { output = o }) (same refl)

-- the cell of this gate, made from such sources, is that of definition j
abbrev pub IsLaid : CellView → List ℕ → (ℕ → Source) → ℕ → Gate → Type 0
IsLaid d levels from j g =
    record (cell_with d.net.inputs from (uses d (d.net.inputs + j)) g) { output = output_of d (d.net.inputs + j) }
    ≡ cell_of d levels j g

pub cell_laid : {d : CellView} {levels : List ℕ} {last : ℕ} → AreCells d levels last → (places used : List ℕ) (j : ℕ)
    → ArePlaces d levels places (length d.net.defs)
    → AreCounts used (d.net.inputs + length d.net.defs) (named (take j d.net.defs)) → (x : Defined d j)
    → IsLaid d levels (source_in d.net.inputs places used) j x.gate
cell_laid {d} {levels} known places used j are counts x = by x.gate refl
  where
    told : (g : Gate) → x.gate ≡ g → (i s : ℕ) → slice_get (operands_of g) i ≡ Some s → is_input d s ≡ false
        → source_in d.net.inputs places used s ≡ source_of d levels j s
    told g e i s at past =
        source_told known places used j are counts x i s
        (ap (λ (xs : List ℕ). slice_get xs i) (x.computes.named ∙ ap operands_of e) ∙ at) past

    other : (g : Gate) → x.gate ≡ g → is_buffer (Some g) ≡ false → (i s : ℕ) → slice_get (operands_of g) i ≡ Some s
        → source_in d.net.inputs places used s ≡ source_of d levels j s
    other g e off i s at =
        told g e i s at
        (reads_none x (ap (λ (g : Gate). is_buffer (Some g)) e ∙ off) i s
        (ap (λ (xs : List ℕ). slice_get xs i) (x.computes.named ∙ ap operands_of e) ∙ at))

    turned : (g : Gate) → x.gate ≡ g → IsLaid d levels (source_in d.net.inputs places used) j g
        → IsLaid d levels (source_in d.net.inputs places used) j x.gate
    turned g e is = subst (IsLaid d levels (source_in d.net.inputs places used) j) (sym e) is

    by : (g : Gate) → x.gate ≡ g → IsLaid d levels (source_in d.net.inputs places used) j x.gate
    by (Input i) e = absurd (subst IsCellGate e x.computes.cell)
    by Zero e = turned Zero e refl
    by One e = turned One e refl
    by (Buf s) e =
        turned (Buf s) e
        (buffer_told (is_input d s) (kind_giving (uses d (d.net.inputs + j))) (source_in d.net.inputs places used)
        (source_of d levels j) s (output_of d (d.net.inputs + j)) (λ past. told (Buf s) e 0 s refl past))
    by (Inv s) e = turned (Inv s) e (rw (other (Inv s) e refl 0 s refl) refl)
    by (Maj a b c) e =
        let read = other (Maj a b c) e refl in
        turned (Maj a b c) e (rw (read 0 a refl, read 1 b refl, read 2 c refl) refl)

-- the cell of a definition, from its gate, its uses and the output that is told of it
pub row_told : {d : CellView} {levels : List ℕ} {last : ℕ} → AreCells d levels last → (places used : List ℕ)
    → (shown : List (Option ℕ)) (j n : ℕ) (gate : Gate) (output : Option ℕ) (cell : RowCell)
    → IsPlan d levels places shown
    → AreCounts used (d.net.inputs + length d.net.defs) (named (take j d.net.defs)) → j < length d.net.defs
    → gate_of d (d.net.inputs + j) ≡ Some gate → n ≡ uses d (d.net.inputs + j)
    → slice_get shown (d.net.inputs + j) ≡ Some output
    → cell ≡ cell_with d.net.inputs (source_in d.net.inputs places used) n gate
    → record cell { output = output } ≡ row_cell d levels j
row_told {d} {levels} known places used shown j n gate output cell plan counts lt here many at is =
    let x = defined known j lt in
    rw (is, many, same_gate here (gate_is x), output_in known shown plan.shown_are j output at, cell_is levels x)
    (cell_laid known places used j plan.places_are counts x)

-- uses

pub counted_push : (counts new : List ℕ) (bound x : ℕ) (xs : List ℕ) → AreCounts counts bound xs
    → IsBumped counts new x → AreCounts new bound (xs ++ x ∷ [])
counted_push counts new bound x xs known bumped = record {
  long = bumped.long ∙ known.long;
  each = λ s low.
      let all = count_append s xs (x ∷ []) in
      let last = count_first s x [] in
      elim (eqb_tells s x) [
        | inl p ↦
            let one = cond-true {A = ℕ} (nat_eq s x) 1 0 p.0 in
            let old = known.each s low in
            let same = p.1 in
            let long = known.long in
            let here = bumped.at (omega (arith, same, low, long)) in
            let new_s : slice_index new s ≡ slice_index new x = ap (slice_index new) p.1 in
            let old_s : slice_index counts s ≡ slice_index counts x = ap (slice_index counts) p.1 in
            omega (arith, all, last, one, old, here, new_s, old_s)
        | inr p ↦
            let none = cond-false {A = ℕ} (nat_eq s x) 1 0 p.0 in
            let old = known.each s low in
            let same = bumped.other s p.1 in
            omega (arith, all, last, none, old, same)
      ];
}
