-- Rows that are few enough: those of which rows with few cells come have few cells.
use Rattle.std.proofs.Common.{◌≡◌, ℕ, zero, suc, pred, ◌+◌, ◌-◌, ◌<◌, ◌≤◌, ◌^◌, min, ltb, Bool, true, false, List, []}
use Rattle.std.proofs.Common.{◌∷◌, length, drop, replicate, get_or, slice_index_or, refl, sym, ap, ◌∙◌}
use Rattle.std.proofs.Common.{subst, arith, inl, inr, length-append, drop-cons, add-one}
use Rattle.std.proofs.lemmas.Bool.{cases_lt}
use Rattle.circuit.specs.declared.cell_kind.CellKind.TheVariants.{Buffer}
use Rattle.circuit.specs.declared.gate.Gate.{Gate}
use Rattle.circuit.specs.PlainNets.{is_constant}
use Rattle.rowed.specs.declared.source.Source.{Source}
use Rattle.rowed.specs.declared.row_cell.RowCell.{RowCell}
use Rattle.rowed.specs.MadeCells.{cell, output_cell, source}
use Rattle.rowed.specs.Counts.{cells_in}
use Rattle.level_balance.specs.Uses.{operands, counts, uses_of, use_count}
use Rattle.level_balance.specs.Levels.{depth, tree_sizes}
use Rattle.level_balance.specs.Laying.{put, next, giving, Signals, tree_row, tree, Ended, chain}
use Rattle.level_balance.specs.Plan.{Frame, Laid, constant_kind, sources, gate_cell, lay_gate, lay_gates, lay_outputs}
use Rattle.level_balance.specs.Code.Arrays.{Led, lead_one, lead_walk}
use Rattle.level_balance.specs.Code.Turns.{lay_one, lay_output, begun, laid_by}
use Rattle.level_balance.specs.Code.Rooms.{HasFew}
use Rattle.level_balance.proofs.TotalLaws.{row_within, cells_put}
use Rattle.level_balance.proofs.Puts.{Puts, done, more, Silent}
use Rattle.level_balance.proofs.Putting.{tree_row_puts, tree_quiet, chain_quiet, sources_quiet, lead_puts}
use Rattle.level_balance.proofs.Putting.{gates_quiet}
use Rattle.level_balance.proofs.Laid.{TreeRowSo, SourcesSo, sources_first}
use Rattle.level_balance.proofs.AllLaid.{first_gate, one_is, parts}
use Rattle.level_balance.proofs.GateLaid.{Takes, from_is}

put_more : (rows : List (List RowCell)) (r : ℕ) (c : RowCell) → cells_in rows ≤ cells_in (put rows r c)
put_more [] r c = omega arith
put_more (row ∷ rows) zero c = let h = length-append row (c ∷ []) in omega arith
put_more (row ∷ rows) (suc r) c = let h = put_more rows r c in omega arith

puts_more : {P : ℕ → RowCell → Type 0} {a b : List (List RowCell)} → Puts P a b → cells_in a ≤ cells_in b
puts_more done = omega arith
puts_more {a = a} (more r c h p) = let one = put_more a r c in let rest = puts_more p in omega arith

few_before : {P : ℕ → RowCell → Type 0} {a b : List (List RowCell)} → Puts P a b → HasFew b → HasFew a
few_before p few = let m = puts_more p in omega arith

none_past : (rows : List (List RowCell)) (r : ℕ) → length rows ≤ r → next rows r ≡ 0
none_past [] r le = refl
none_past (row ∷ rows) zero le = absurd (omega arith)
none_past (row ∷ rows) (suc r) le = none_past rows r (omega arith)

-- the next cell of a row has a number
pub put_room : (rows : List (List RowCell)) (r : ℕ) (c : RowCell) → HasFew (put rows r c) → next rows r < 2 ^ 32
put_room rows r c few = elim (cases_lt r (length rows)) [
  | inl lt ↦ (let one = cells_put rows r c lt in let within = row_within rows r in omega arith)
  | inr past ↦ (let none = none_past rows r past in omega arith)
]

pub chain_room : (goal : Ended) (left at : ℕ) (rows : List (List RowCell)) (end : Source) → 0 < left
    → chain left at rows end ≡ goal → HasFew goal.rows → next rows at < 2 ^ 32
chain_room goal zero at rows end lt is few = absurd (omega arith)
chain_room goal (suc k) at rows end lt is few =
    let here = put rows at (cell Buffer (end ∷ [])) in
    put_room rows at (cell Buffer (end ∷ []))
    (few_before (chain_quiet k (suc at) here (source (next rows at) 0))
    (subst (λ (e : Ended). HasFew e.rows) (sym is) few))

pub tree_row_room : (goal : Signals) (b r i c : ℕ) (rows : List (List RowCell))
    (made signals : List Source) → i < length signals
    → TreeRowSo goal b r rows made (drop i signals) c → HasFew goal.rows → next rows r < 2 ^ 32
tree_row_room goal b r i c rows made signals lt so few =
    let d = source 0 0 in
    let s = get_or signals i d in
    let rest = drop (suc i) signals in
    let here = put rows r (cell (giving (min b c)) (s ∷ [])) in
    let list : drop i signals ≡ s ∷ rest = drop-cons signals i d lt in
    let whole : HasFew (tree_row b r rows (s ∷ rest) c).rows =
    subst (λ (l : List Source). HasFew (tree_row b r rows l c).rows) list (subst HasFew (sym so.rows_are) few) in
    put_room rows r (cell (giving (min b c)) (s ∷ [])) (few_before (tree_row_puts Silent b r here rest
    (c - min b c) (λ k t. refl)) whole)

pub tree_room : (goal : Signals) (b r i : ℕ) (rows : List (List RowCell)) (signals : List Source) (sizes : List ℕ)
    (d : ℕ) → i < length sizes
    → tree b r (record { rows = rows; signals = signals }) (drop i sizes) ≡ goal → HasFew goal.rows
    → HasFew (tree_row b r rows signals (get_or sizes i d)).rows
tree_room goal b r i rows signals sizes d lt is few =
    let at : Signals = record { rows = rows; signals = signals } in
    let c = get_or sizes i d in
    let rest = drop (suc i) sizes in
    let list : drop i sizes ≡ c ∷ rest = drop-cons sizes i d lt in
    let whole : HasFew (tree b r at (c ∷ rest)).rows = subst (λ (l : List ℕ). HasFew (tree b r at l).rows) list
    (subst (λ (t : Signals). HasFew t.rows) (sym is) few) in
    few_before (tree_quiet b (suc r) (tree_row b r rows signals c) rest) whole

pub constant_room : (n r : ℕ) (ends : List Source) (rows : List (List RowCell)) (q x : ℕ) → is_constant n x ≡ true
    → HasFew (sources n r ends rows q (x ∷ [])).rows → next rows r < 2 ^ 32
constant_room n r ends rows q x con few =
    let e : (sources n r ends rows q (x ∷ [])).rows ≡ put rows r (cell (constant_kind n x) []) =
    rw (con, sources) refl in
    put_room rows r (cell (constant_kind n x) []) (subst HasFew e few)

pub sources_room : (goal : Signals) (n r i q : ℕ) (ends : List Source) (rows : List (List RowCell))
    (taken : List Source) (xs : List ℕ) (d : ℕ) → i < length xs
    → SourcesSo goal n r ends rows taken q (drop i xs) → HasFew goal.rows
    → HasFew (sources n r ends rows q (get_or xs i d ∷ [])).rows
sources_room goal n r i q ends rows taken xs d lt so few =
    let x = get_or xs i d in
    let rest = drop (suc i) xs in
    let one = sources n r ends rows q (x ∷ []) in
    let list : drop i xs ≡ x ∷ rest = drop-cons xs i d lt in
    let split = sources_first n r ends rows q x rest in
    let whole : HasFew (sources n r ends one.rows (suc q) rest).rows =
    subst HasFew split.0 (subst (λ (l : List ℕ). HasFew (sources n r ends rows q l).rows) list
    (subst HasFew (sym so.rows_are) few)) in
    few_before (sources_quiet n r ends one.rows (suc q) rest) whole

-- what leads leaves on puts cells alone
lead_one_quiet : (urs nx : List ℕ) (leaf : ℕ) (at : Led) (s : Source)
    → cells_in at.rows ≤ cells_in (lead_one urs nx leaf at s).rows
lead_one_quiet urs nx leaf at s = by (ltb at.number (length nx)) refl
  where
    by : (b : Bool) → ltb at.number (length nx) ≡ b → cells_in at.rows ≤ cells_in (lead_one urs nx leaf at s).rows
    by true e =
        rw (e, lead_one) (puts_more (chain_quiet (slice_index_or urs at.number 0 - 1 - leaf) (suc leaf) at.rows s))
    by false e = rw (e, lead_one) (omega arith)

lead_walk_more : (urs nx : List ℕ) (leaf : ℕ) (at : Led) (ss : List Source)
    → cells_in at.rows ≤ cells_in (lead_walk urs nx leaf at ss).rows
lead_walk_more urs nx leaf at [] = omega arith
lead_walk_more urs nx leaf at (s ∷ ss) = let a = lead_one_quiet urs nx leaf at s in let b = lead_walk_more urs nx leaf
    (lead_one urs nx leaf at s) ss in omega arith

pub lead_room : (goal : Led) (urs nx : List ℕ) (leaf i : ℕ) (at : Led) (leaves : List Source)
    (d : Source) → i < length leaves
    → lead_walk urs nx leaf at (drop i leaves) ≡ goal → HasFew goal.rows
    → HasFew (lead_one urs nx leaf at (get_or leaves i d)).rows
lead_room goal urs nx leaf i at leaves d lt is few =
    let s = get_or leaves i d in
    let rest = drop (suc i) leaves in
    let list : drop i leaves ≡ s ∷ rest = drop-cons leaves i d lt in
    let whole : HasFew (lead_walk urs nx leaf at (s ∷ rest)).rows =
    subst (λ (l : List Source). HasFew (lead_walk urs nx leaf at l).rows) list
    (subst (λ (t : Led). HasFew t.rows) (sym is) few) in
    let m = lead_walk_more urs nx leaf (lead_one urs nx leaf at s) rest in omega arith

-- the rows of a gate's parts
module _ (f : Frame) (i : ℕ) (g : Gate) (at : Laid) (few : HasFew (lay_gate f i g at).rows) where
  abbrev level : ℕ
  level = get_or f.levels i 0

  abbrev fan : ℕ
  fan = use_count f.uses i

  abbrev taken : Signals
  taken = sources f.inputs (pred level) at.ends at.rows at.use_at (operands g)

  abbrev root : Signals
  root = record {
    rows = put taken.rows level (gate_cell g taken.signals);
    signals = source (next taken.rows level) 0 ∷ [];
  }

  abbrev leaves : Signals
  leaves = tree f.base (suc level) root (tree_sizes f.base (depth f.base fan) fan [])

  pub leaves_room : HasFew leaves.rows
  leaves_room = few_before (lead_puts Silent f (level + depth f.base fan) leaves.rows at.ends leaves.signals
      (uses_of i 0 f.uses) (λ q r s inside low high. refl)) few

  root_few : HasFew root.rows
  root_few = few_before (tree_quiet f.base (suc level) root (tree_sizes f.base (depth f.base fan) fan [])) leaves_room

  pub own_room : next taken.rows level < 2 ^ 32
  own_room = put_room taken.rows level (gate_cell g taken.signals) root_few

  pub taken_room : HasFew taken.rows
  taken_room = let m = put_more taken.rows level (gate_cell g taken.signals) in let o = root_few in omega arith

pub gates_room : (goal : Laid) (f : Frame) (i : ℕ) (gates : List Gate) (d : Gate) (at : Laid) → i < length gates
    → lay_gates f i at (drop i gates) ≡ goal → HasFew goal.rows → counts f.inputs f.marks i ≡ true
    → HasFew (lay_gate f i (get_or gates i d) at).rows
gates_room goal f i gates d at lt is few c =
    let g = get_or gates i d in
    let rest = drop (suc i) gates in
    let list : lay_gates f i at (drop i gates) ≡ lay_gates f (suc i) (lay_one f i g at) rest = ap (lay_gates f i at)
    (drop-cons gates i d lt) ∙ first_gate f i g rest at in
    subst (λ (t : Laid). HasFew t.rows) (one_is f i g at true c) (few_before
    (gates_quiet f (suc i) (lay_one f i g at) gates) (subst (λ (t : Laid). HasFew t.rows) (sym is ∙ list) few))

lay_output_more : (f : Frame) (k o : ℕ) (at : Laid) → cells_in at.rows ≤ cells_in (lay_output f k o at).rows
lay_output_more f k o at =
    let ss = sources f.inputs (pred f.last) at.ends at.rows at.use_at (o ∷ []) in
    let a = puts_more (sources_quiet f.inputs (pred f.last) at.ends at.rows at.use_at (o ∷ [])) in
    let b = put_more ss.rows f.last (output_cell (slice_index_or ss.signals 0 (source 0 0)) k) in omega arith

lay_outputs_more : (f : Frame) (k : ℕ) (at : Laid) (os : List ℕ)
    → cells_in at.rows ≤ cells_in (lay_outputs f k at os).rows
lay_outputs_more f k at [] = omega arith
lay_outputs_more f k at (o ∷ os) = let a = lay_output_more f k o at in let b = lay_outputs_more f (suc k)
    (lay_output f k o at) os in omega arith

pub outputs_room : (goal : Laid) (f : Frame) (k : ℕ) (outs : List ℕ) (d : ℕ) (at : Laid) → k < length outs
    → lay_outputs f k at (drop k outs) ≡ goal → HasFew goal.rows → HasFew (lay_output f k (get_or outs k d) at).rows
outputs_room goal f k outs d at lt is few =
    let o = get_or outs k d in
    let rest = drop (suc k) outs in
    let whole : HasFew (lay_outputs f k at (o ∷ rest)).rows = subst (λ (l : List ℕ). HasFew (lay_outputs f k at l).rows)
    (drop-cons outs k d lt) (subst (λ (t : Laid). HasFew t.rows) (sym is) few) in
    let m = lay_outputs_more f (suc k) (lay_output f k o at) rest in omega arith

pub shown_room : (f : Frame) (k o : ℕ) (at : Laid) → HasFew (lay_output f k o at).rows
    → HasFew (sources f.inputs (pred f.last) at.ends at.rows at.use_at (o ∷ [])).rows
shown_room f k o at few =
    let ss = sources f.inputs (pred f.last) at.ends at.rows at.use_at (o ∷ []) in
    let b = put_more ss.rows f.last (output_cell (slice_index_or ss.signals 0 (source 0 0)) k) in omega arith

pub shown_place : (f : Frame) (k o : ℕ) (at : Laid) → HasFew (lay_output f k o at).rows
    → next (sources f.inputs (pred f.last) at.ends at.rows at.use_at (o ∷ [])).rows f.last < 2 ^ 32
shown_place f k o at few =
    let ss = sources f.inputs (pred f.last) at.ends at.rows at.use_at (o ∷ []) in
    put_room ss.rows f.last (output_cell (slice_index_or ss.signals 0 (source 0 0)) k) few

-- the rows of the gates alone
pub before_outputs : (f : Frame) (gates : List Gate) (outs : List ℕ) → HasFew (laid_by f gates outs)
    → HasFew (lay_gates f 0 (begun f) gates).rows
before_outputs f gates outs few = let m = lay_outputs_more f 0 (lay_gates f 0 (begun f) gates) outs in omega arith

-- before a gate is laid
pub begun_room : (f : Frame) (gates : List Gate) (outs : List ℕ) (count : ℕ) (rows : List (List RowCell))
    (ends : List Source) → count ≡ f.last + 1 → rows ≡ replicate count []
    → ends ≡ replicate (length f.uses) (source 0 0)
    → HasFew (laid_by f gates outs)
    → HasFew (lay_gates f 0 (record { rows = rows; ends = ends; use_at = 0 }) gates).rows
begun_room f gates outs count rows ends size r e few =
    let start = parts rows ends 0
    (begun f)
    (r ∙ ap (λ (k : ℕ). replicate {A = List RowCell} k []) (size ∙ add-one f.last)) e refl in
    subst (λ (t : Laid). HasFew (lay_gates f 0 t gates).rows) (sym start) (before_outputs f gates outs few)

-- one gate's sources and its own cell, as the code has them
module _ {f : Frame} {i : ℕ} {g : Gate} {at : Laid} {level below : ℕ} {ops : List ℕ} {ends : List Source}
    (t : Takes f i g at level below ops ends) (few : HasFew (lay_gate f i g at).rows) where
  pub taken_few : HasFew (sources f.inputs below ends at.rows at.use_at ops).rows
  taken_few = subst (λ (v : Signals). HasFew v.rows) (sym (from_is t)) (taken_room f i g at few)

  pub own_few : (rows1 : List (List RowCell)) → rows1 ≡ (sources f.inputs below ends at.rows at.use_at ops).rows
      → next rows1 level < 2 ^ 32
  own_few rows1 e =
      let from = sources f.inputs (pred (get_or f.levels i 0)) at.ends at.rows at.use_at (operands g) in
      let is : next rows1 level ≡ next from.rows (get_or f.levels i 0) =
      ap (λ (r : List (List RowCell)). next r level) (e ∙ ap (λ (v : Signals). v.rows) (from_is t))
      ∙ ap (next from.rows) t.level_is in
      let low = own_room f i g at few in omega arith
