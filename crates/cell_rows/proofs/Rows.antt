-- Levels of a netlist of cells: none past the last, none without a cell.
use Rattle.std.proofs.Common.{◌≡◌, ℕ, zero, suc, ◌+◌, ◌-◌, ◌<◌, ◌≤◌, Bool, true, false, cond, not, List, [], ◌∷◌}
use Rattle.std.proofs.Common.{length, Option, Some, None, refl, ap, sym, ◌∙◌, arith, inl, inr}
use Rattle.std.specs.Prelude.{◌&&◌, slice_get, slice_index, slice_index_or, nat_lt, eqb}
use Rattle.std.proofs.lemmas.Bool.{cases_eq, cases_lt, cond-true, cond-false, and_parts, eqb-true, eq-eqb, ltb-true}
use Rattle.std.proofs.lemmas.Bool.{lt-ltb, le-ltb}
use Rattle.std.proofs.lemmas.Option.{slice_get_within, same_Some, none-some}
use Rattle.circuit.specs.declared.gate.Gate.{Gate}
use Rattle.circuit.specs.declared.gate.Gate.TheVariants.{Input, Zero, One, Buf, Inv, Maj}
use Rattle.blif_read.specs.declared.netlist.Def.{Def}
use Rattle.cell_netlist.specs.Kinds.{operands_of}
use Rattle.cell_netlist.specs.Uses.{CellView, uses, is_input, is_name, is_buffer, gate_of}
use Rattle.cell_netlist.specs.Levels.{above, shown_by, is_shown, LevelsFit, LevelsFitAll, level_in}
use Rattle.cell_rows.specs.Laws.{AreCells}
use Rattle.cell_rows.specs.Members.{passing_below, stands_in, members}
use Rattle.cell_rows.proofs.Listed.{passing_long, passing_at, passing_is, passing_one_fewer}
use Rattle.cell_rows.proofs.Counted.{Use, use_of}
use Rattle.cell_rows.proofs.Defined.{some_at, all_get, all_from, list_all_get, same_gate, Defined, defined}
use Rattle.cell_rows.proofs.Defined.{level_past, past_inputs}
use Rattle.cell_rows.proofs.Defined.{named_below, name_is, no_name, shown_is, gate_is, unused_is}
use Rattle.cell_rows.proofs.Defined.{reads_input, reads_cell, Shows, output_level, shows_named, IsCell, names_cell}

-- a number that no element of a list passes
bound_of : (xs : List ℕ) → (m : ℕ) × ((k : ℕ) → slice_index xs k ≤ m)
bound_of [] = (0, λ k. omega arith)
bound_of (x ∷ xs) =
    let rest = bound_of xs in
    (x + rest.0, below x xs rest.0 rest.1)
  where
    below : (x : ℕ) (xs : List ℕ) (m : ℕ) → ((k : ℕ) → slice_index xs k ≤ m) → (k : ℕ) → slice_index (x ∷ xs) k ≤ x + m
    below x xs m each zero = omega arith
    below x xs m each (suc k) = let low = each k in omega (arith, low)

-- a cell has a user, or it buffers an input: climbing from user to user ends at an output
data Used (d : CellView) (levels : List ℕ) (last j : ℕ) : Type 0 where
  buffers_input : slice_index levels j ≡ 0 → Used d levels last j
  shows : Shows d levels last j → Used d levels last j
  feeds : (m : ℕ) → IsCell d m → slice_index levels m ≡ suc (slice_index levels j) → Used d levels last j

used_by : {d : CellView} {levels : List ℕ} {last : ℕ} → AreCells d levels last → (j : ℕ)
    → Use d.net.defs (d.net.inputs + j) → Used d levels last j
used_by {d} {levels} {last} known j user = by (is_name d (d.net.inputs + user.j)) refl
  where
    below : user.j < length d.net.defs
    below = slice_get_within d.net.defs user.j user.def user.here

    at : slice_get (defined known user.j below).def.inputs user.i ≡ Some (d.net.inputs + j)
    at = ap (λ (def : Def). slice_get def.inputs user.i)
        (same_Some (defined known user.j below).def user.def (sym (defined known user.j below).here ∙ user.here))
        ∙ user.at

    by : (b : Bool) → is_name d (d.net.inputs + user.j) ≡ b → Used d levels last j
    by true e = shows (shows_named known (defined known user.j below) e user.i j at)
    by false e =
        feeds user.j (record { below = below; no_name = e })
        (reads_cell known (defined known user.j below) e user.i (d.net.inputs + j) at j refl)

used : {d : CellView} {levels : List ℕ} {last : ℕ} → AreCells d levels last → (j : ℕ) → IsCell d j
    → Used d levels last j
used {d} {levels} {last} known j cell = elim (cases_eq (uses d (d.net.inputs + j)) 0) [
  | inl none ↦
      let x = defined known j cell.below in
      let buffer = unused_is x cell.no_name none in
      let at : slice_get x.def.inputs 0 ≡ Some buffer.0 =
      ap (λ (xs : List ℕ). slice_get xs 0) (x.computes.named ∙ ap operands_of buffer.1) in
      buffers_input (reads_input known x cell.no_name 0 buffer.0 at buffer.2)
  | inr some ↦ used_by known j (use_of d.net.defs (d.net.inputs + j) (omega (arith, some)))
]

climb : {d : CellView} {levels : List ℕ} {last : ℕ} → AreCells d levels last → (most : ℕ)
    → ((k : ℕ) → slice_index levels k ≤ most) → (fuel j : ℕ) → IsCell d j → most < slice_index levels j + fuel
    → slice_index levels j ≤ last
climb known most each zero j cell high = let low = each j in absurd (omega (arith, low, high))
climb {d} {levels} {last} known most each (suc fuel) j cell high = elim (used known j cell) [
  | buffers_input flat ↦ omega (arith, flat)
  | shows at ↦ let is = at.level in omega (arith, is)
  | feeds m above up ↦
      let top = climb known most each fuel m above (omega (arith, up, high)) in omega (arith, top, up)
]

-- no cell stands past the last level
pub level_low : {d : CellView} {levels : List ℕ} {last : ℕ} → AreCells d levels last → (j : ℕ) → IsCell d j
    → slice_index levels j ≤ last
level_low {d} {levels} known j cell =
    let bound = bound_of levels in climb known bound.0 bound.1 (suc bound.0) j cell (omega arith)

-- the cells of the last level are those that outputs show
pub last_shows : {d : CellView} {levels : List ℕ} {last : ℕ} → AreCells d levels last → (j : ℕ) → IsCell d j
    → slice_index levels j ≡ last → Shows d levels last j
last_shows {d} {levels} {last} known j cell is = elim (used known j cell) [
  | buffers_input flat ↦ let some = known.cells.levels.some_rows in absurd (omega (arith, flat, is, some))
  | shows at ↦ at
  | feeds m above up ↦ let low = level_low known m above in absurd (omega (arith, low, up, is))
]

-- the buffer that an output shows

pub record Shown (d : CellView) (levels : List ℕ) (last s : ℕ) : Type 0 where
  pub j : ℕ
  pub cell : IsCell d j
  pub reads : ℕ
  pub shown : shown_by d s ≡ d.net.inputs + j
  pub buffers : gate_of d (d.net.inputs + j) ≡ Some (Buf reads)
  pub once : uses d (d.net.inputs + j) ≡ 1
  pub output_name : is_name d s ≡ true
  pub level : slice_index levels j ≡ last

pub buffer_of : (g : Option Gate) → is_buffer g ≡ true → (x : ℕ) × (g ≡ Some (Buf x))
buffer_of None e = absurd (cc)
buffer_of (Some (Input i)) e = absurd (cc)
buffer_of (Some Zero) e = absurd (cc)
buffer_of (Some One) e = absurd (cc)
buffer_of (Some (Inv i)) e = absurd (cc)
buffer_of (Some (Maj i j k)) e = absurd (cc)
buffer_of (Some (Buf x)) e = (x, refl)

-- a signal with a gate is that of a definition
pub gate_past_inputs : (d : CellView) (s : ℕ) (gate : Gate) → gate_of d s ≡ Some gate → is_input d s ≡ false
gate_past_inputs d s gate e = by (is_input d s) refl
  where
    by : (b : Bool) → is_input d s ≡ b → is_input d s ≡ false
    by false t = t
    by true t = absurd (none-some gate
        (sym (cond-true (is_input d s) None (slice_index_or d.gates (s - d.net.inputs) None) t) ∙ e))

pub shown_of : {d : CellView} {levels : List ℕ} {last : ℕ} → AreCells d levels last → (k s : ℕ)
    → slice_get d.net.outputs k ≡ Some s → Shown d levels last s
shown_of {d} {levels} {last} known k s at =
    let both = and_parts (is_name d s) (eqb (uses d (shown_by d s)) 1)
    (list_all_get (is_shown d) d.net.outputs k s known.cells.shown at) in
    let name = name_is d s both.0 in
    let shown = shown_is d s name in
    let buffer = buffer_of (gate_of d name.reads) name.of_buffer in
    let past = past_inputs d name.reads (gate_past_inputs d name.reads (Buf buffer.0) buffer.1) in
    let j = name.reads - d.net.inputs in
    let here : shown_by d s ≡ d.net.inputs + j = shown ∙ past in
    let once : uses d (d.net.inputs + j) ≡ 1 = ap (uses d) (sym here) ∙ eqb-true (uses d (shown_by d s)) 1 both.1 in
    let user = use_of d.net.defs (d.net.inputs + j) (omega (arith, once)) in
    let low = named_below known user.j user.i (d.net.inputs + j) user.def user.here user.at in
    record {
      j = j;
      cell = record { below = omega (arith, low); no_name = no_name d (d.net.inputs + j) (omega (arith, once)) };
      reads = buffer.0;
      shown = here;
      buffers = ap (gate_of d) (sym past) ∙ buffer.1;
      once = once;
      output_name = both.0;
      level = output_level known k s j at here;
    }

-- the cell below such a buffer
pub below_last : {d : CellView} {levels : List ℕ} {last : ℕ} → AreCells d levels last → (s : ℕ)
    → Shown d levels last s → (k : ℕ) × IsCell d k × (suc (slice_index levels k) ≡ last)
below_last {d} {levels} {last} known s shown =
    let x = defined known shown.j shown.cell.below in
    let at : slice_get x.def.inputs 0 ≡ Some shown.reads =
    ap (λ (xs : List ℕ). slice_get xs 0) (x.computes.named ∙ ap operands_of (same_gate (gate_is x) shown.buffers)) in
    by x at (is_input d shown.reads) refl
  where
    by : (x : Defined d shown.j) → slice_get x.def.inputs 0 ≡ Some shown.reads → (b : Bool)
        → is_input d shown.reads ≡ b → (k : ℕ) × IsCell d k × (suc (slice_index levels k) ≡ last)
    by x at true e =
        let flat = reads_input known x shown.cell.no_name 0 shown.reads at e in
        let some = known.cells.levels.some_rows in
        let is = shown.level in
        absurd (omega (arith, flat, some, is))
    by x at false e =
        let past = past_inputs d shown.reads e in
        let k = shown.reads - d.net.inputs in
        let here : slice_get x.def.inputs 0 ≡ Some (d.net.inputs + k) = at ∙ ap (λ (n : ℕ). Some n) past in (
          k,
          names_cell known x 0 k here,
          sym (reads_cell known x shown.cell.no_name 0 shown.reads at k past) ∙ shown.level,
        )

-- levels that are lowered by one above a row

lowered : ℕ → ℕ → ℕ
lowered r n = cond (nat_lt r n) (n - 1) n

lowered_low : (r n : ℕ) → n ≤ r → lowered r n ≡ n
unfolding lowered
lowered_low r n le = cond-false (nat_lt r n) (n - 1) n (le-ltb r n le)

lowered_high : (r n : ℕ) → r < n → lowered r n ≡ n - 1
unfolding lowered
lowered_high r n lt = cond-true (nat_lt r n) (n - 1) n (lt-ltb r n lt)

lowered_next : (r n : ℕ) → (n ≡ r → ⊥) → (suc n ≡ r → ⊥) → lowered r (suc n) ≡ suc (lowered r n)
lowered_next r n ne up = elim (cases_lt r n) [
  | inl lt ↦
      let a = lowered_high r (suc n) (omega (arith, lt)) in
      let b = lowered_high r n lt in
      omega (arith, a, b, lt)
  | inr le ↦
      let a = lowered_low r (suc n) (omega (arith, le, ne)) in
      let b = lowered_low r n le in
      omega (arith, a, b)
]

-- where no cell stands on a level, those above can stand one lower
lowered_fit : {d : CellView} {levels : List ℕ} {last : ℕ} → AreCells d levels last → (r : ℕ)
    → ((j : ℕ) → IsCell d j → slice_index levels j ≡ r → ⊥)
    → LevelsFit d (length d.net.defs) (λ (s : ℕ). lowered r (level_in d.net.inputs levels s))
lowered_fit {d} {levels} known r none j gate lt there name =
    let x = defined known j lt in
    let cell : IsCell d j = record { below = lt; no_name = name } in
    let same : x.gate ≡ gate = same_Some x.gate gate (same_Some (Some x.gate) (Some gate) (sym x.there ∙ there)) in
    let low = λ (s : ℕ). lowered r (level_in d.net.inputs levels s) in
    all_from (λ (s : ℕ). low (d.net.inputs + j) ≡ above d low s) (operands_of gate)
    (λ i s at. by x cell i s (ap (λ (xs : List ℕ). slice_get xs i) (x.computes.named ∙ ap operands_of same) ∙ at)
    (is_input d s) refl)
  where
    by : (x : Defined d j) → IsCell d j → (i s : ℕ) → slice_get x.def.inputs i ≡ Some s → (b : Bool)
        → is_input d s ≡ b
        → lowered r (level_in d.net.inputs levels (d.net.inputs + j))
        ≡ above d (λ (s : ℕ). lowered r (level_in d.net.inputs levels s)) s
    by x cell i s at true e =
        ap (lowered r) (level_past d levels j ∙ reads_input known x cell.no_name i s at e)
        ∙ lowered_low r 0 (omega arith)
        ∙ sym (cond-true (is_input d s) 0 (suc (lowered r (level_in d.net.inputs levels s))) e)
    by x cell i s at false e =
        let past = past_inputs d s e in
        let k = s - d.net.inputs in
        let here : slice_get x.def.inputs i ≡ Some (d.net.inputs + k) = at ∙ ap (λ (n : ℕ). Some n) past in
        let up = reads_cell known x cell.no_name i s at k past in
        ap (lowered r) (level_past d levels j ∙ up)
        ∙ lowered_next r (slice_index levels k) (none k (names_cell known x i k here)) (λ is. none j cell (up ∙ is))
        ∙ ap (λ (n : ℕ). suc (lowered r n)) (sym (ap (level_in d.net.inputs levels) past ∙ level_past d levels k))
        ∙ sym (cond-false (is_input d s) 0 (suc (lowered r (level_in d.net.inputs levels s))) e)

lowered_all : {d : CellView} {levels : List ℕ} {last : ℕ} → AreCells d levels last → (r : ℕ) → suc r < last
    → ((j : ℕ) → IsCell d j → slice_index levels j ≡ r → ⊥)
    → LevelsFitAll d (λ (s : ℕ). lowered r (level_in d.net.inputs levels s)) (last - 1)
lowered_all {d} {levels} {last} known r lt none = record {
  fit = lowered_fit known r none;
  outputs =
      all_from (λ (s : ℕ). lowered r (level_in d.net.inputs levels (shown_by d s)) ≡ last - 1) d.net.outputs
      (λ i s at.
      ap (lowered r) (all_get (λ (s : ℕ). level_in d.net.inputs levels (shown_by d s) ≡ last) d.net.outputs i s
      known.cells.levels.outputs at)
      ∙ lowered_high r last (omega (arith, lt)));
  some_rows = omega (arith, lt);
}

-- each level up to the last has a cell
some_level : {d : CellView} {levels : List ℕ} {last : ℕ} → AreCells d levels last → (r : ℕ) → r ≤ last
    → ((j : ℕ) → IsCell d j → slice_index levels j ≡ r → ⊥) → ⊥
some_level {d} {levels} {last} known r le none =
    let output = some_at d.net.outputs 0 known.net_keeps.some_output in
    let shown = shown_of known 0 output.0 output.1 in
    let under = below_last known output.0 shown in
    let top = shown.level in
    elim (cases_lt (suc r) last) [
      | inl lt ↦
          let least = known.cells.lowest (λ (s : ℕ). lowered r (level_in d.net.inputs levels s)) (last - 1)
          (lowered_all known r lt none) in
          let some = known.cells.levels.some_rows in
          omega (arith, least, some)
      | inr high ↦ elim (cases_eq r last) [
        | inl e ↦ none shown.j shown.cell (top ∙ sym e)
        | inr ne ↦ none under.0 under.1 (let up = under.2 in omega (arith, up, le, ne, high))
      ]
    ]

-- the cells of a row

pub stands : {d : CellView} (levels : List ℕ) {j r : ℕ} → IsCell d j → slice_index levels j ≡ r
    → stands_in d levels r j ≡ true
stands {d} levels {j} {r} cell is =
    ap (λ (b : Bool). not b && eqb (slice_index levels j) r) cell.no_name ∙ eq-eqb (slice_index levels j) r is

pub record Standing (d : CellView) (levels : List ℕ) (r j : ℕ) : Type 0 where
  pub no_name : is_name d (d.net.inputs + j) ≡ false
  pub level : slice_index levels j ≡ r

pub standing : (d : CellView) (levels : List ℕ) (r j : ℕ) → stands_in d levels r j ≡ true → Standing d levels r j
standing d levels r j e =
    let parts = and_parts (not (is_name d (d.net.inputs + j))) (eqb (slice_index levels j) r) e in
    record {
      no_name = turned (is_name d (d.net.inputs + j)) parts.0;
      level = eqb-true (slice_index levels j) r parts.1;
    }
  where
    turned : (b : Bool) → not b ≡ true → b ≡ false
    turned false e = refl
    turned true e = absurd (cc)

pub row_some : {d : CellView} {levels : List ℕ} {last : ℕ} → AreCells d levels last → (r : ℕ) → r ≤ last
    → 0 < length (members d levels r)
row_some {d} {levels} known r le = elim (cases_eq (length (members d levels r)) 0) [
  | inr some ↦ omega (arith, some)
  | inl none ↦ absurd (some_level known r le (λ j cell is.
      let at = passing_at (stands_in d levels r) (length d.net.defs) j cell.below (stands levels cell is) in
      let within = slice_get_within (members d levels r)
      (length (passing_below (stands_in d levels r) j)) j at in
      omega (arith, within, none)))
]

pub row_few : (d : CellView) (levels : List ℕ) (r : ℕ) → length (members d levels r) ≤ length d.net.defs
row_few d levels r = passing_long (stands_in d levels r) (length d.net.defs)

-- there are as many cells as rows or more: each row has one of its own

under : CellView → List ℕ → ℕ → ℕ → Bool
under d levels r j = not (is_name d (d.net.inputs + j)) && nat_lt (slice_index levels j) r

under_more : (d : CellView) (levels : List ℕ) (r j : ℕ) → under d levels r j ≡ true → under d levels (suc r) j ≡ true
unfolding under
under_more d levels r j e =
    let parts = and_parts (not (is_name d (d.net.inputs + j))) (nat_lt (slice_index levels j) r) e in
    let low = ltb-true (slice_index levels j) r parts.1 in
    ap (λ (b : Bool). b && nat_lt (slice_index levels j) (suc r)) parts.0
    ∙ lt-ltb (slice_index levels j) (suc r) (omega (arith, low))

rows_counted : {d : CellView} {levels : List ℕ} {last : ℕ} → AreCells d levels last → (r : ℕ) → r ≤ suc last
    → r ≤ length (passing_below (under d levels r) (length d.net.defs))
unfolding under
rows_counted known zero le = omega arith
rows_counted {d} {levels} {last} known (suc r) le =
    let low = rows_counted known r (omega (arith, le)) in
    let some = row_some known r (omega (arith, le)) in
    let first = some_at (members d levels r) 0 some in
    let is = passing_is (stands_in d levels r) (length d.net.defs) 0 first.0 first.1 in
    let at = standing d levels r first.0 is.passes in
    let more = passing_one_fewer (under d levels r) (under d levels (suc r)) (length d.net.defs) first.0
    (under_more d levels r) is.below
    (ap (λ (b : Bool). not b && nat_lt (slice_index levels first.0) r) at.no_name
    ∙ le-ltb (slice_index levels first.0) r (let e = at.level in omega (arith, e)))
    (ap (λ (b : Bool). not b && nat_lt (slice_index levels first.0) (suc r)) at.no_name
    ∙ lt-ltb (slice_index levels first.0) (suc r) (let e = at.level in omega (arith, e))) in
    omega (arith, low, more)

pub rows_few : {d : CellView} {levels : List ℕ} {last : ℕ} → AreCells d levels last → suc last ≤ length d.net.defs
rows_few {d} {levels} {last} known =
    let some = rows_counted known (suc last) (omega arith) in
    let few = passing_long (under d levels (suc last)) (length d.net.defs) in
    omega (arith, some, few)
