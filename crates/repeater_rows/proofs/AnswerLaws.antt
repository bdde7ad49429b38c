-- Laws of answers: the plan of repeaters has the counts of the net and its answer to every word.
use Rattle.std.proofs.Common.{◌≡◌, ℕ, suc, ◌<◌, Bool, true, false, List, [], ◌∷◌, ◌++◌, length, map, replicate, Option}
use Rattle.std.proofs.Common.{Some, None, refl, sym, ap, ◌∙◌, subst, arith, eqb}
use Rattle.std.specs.List.{AllByRecursion}
use Rattle.std.proofs.lemmas.Bool.{eqb-true}
use Rattle.circuit.specs.Gates.{valuation}
use Rattle.circuit.specs.SameAnswers.{SameAnswers}
use Rattle.rowed.specs.declared.source.Source.{Source}
use Rattle.rowed.specs.declared.row_cell.RowCell.{RowCell}
use Rattle.rowed.specs.RowCells.{source_value, cell_value}
use Rattle.rowed.specs.RowNets.{row_at, last_of, IsAnswer}
use Rattle.rowed.specs.Code.RowByRow.{last_values, with_value, shown_from}
use Rattle.rowed.proofs.RowAnswers.{evaluated_word, evaluated_answer, one_answer}
use Rattle.rowed.specs.Slots.{AreSeated}
use Rattle.rowed.specs.PlacedNets.{PlacedRow, PlacedView, IsPlaced, placed_rows, placed_of}
use Rattle.sorting.specs.Numbers.{place_of}
use Rattle.rowed.specs.Channels.{Link, pin_link, links, channel_links, channel_slots}
use Rattle.repeater_rows.specs.Destinations.{is_end, destinations}
use Rattle.repeater_rows.specs.Rounds.{AreOrders}
use Rattle.repeater_rows.specs.Repeaters.{source_to, buffer_from, carried, added, source_above, added_rows, last_source}
use Rattle.repeater_rows.specs.Repeaters.{fed_from, cell_from, cells_from, channel_rounds, rows_above, repeated_rows}
use Rattle.repeater_rows.specs.Repeaters.{repeated}
use Rattle.rowed.proofs.RowsAbove.{PlacedAbove, no_more}
use Rattle.repeater_rows.proofs.Sources.{HaveValues}
use Rattle.repeater_rows.proofs.RoundsLaws.{all_rounds_orders}
use Rattle.repeater_rows.proofs.OrderLaws.{destinations_order, destinations_length}
use Rattle.rowed.proofs.RowsAboveLaws.{cells_of, placed_again, again_placed, placed_facts}
use Rattle.rowed.proofs.PinLaws.{seated_length}
use Rattle.repeater_rows.proofs.PlaceLaws.{times, stands_in, carried_has}
use Rattle.rowed.proofs.ChannelLaws.{channel_known}
use Rattle.repeater_rows.proofs.WireLaws.{IsFound, found, wired_below}

-- a buffer has the value of its source
buffer_value : (word : List Bool) (below : ℕ → Bool) (source : ℕ → Source) (ds : List ℕ) (d : ℕ) → 0 < times d ds
    → valuation (map (cell_value word below) (map (λ (c : ℕ). buffer_from (source c)) ds))
    (place_of ds d) ≡ below (source d).cell
buffer_value word below source [] d lt = absurd (omega (arith, lt))
buffer_value word below source (x ∷ ds) d lt = go (eqb x d) refl (buffer_value word below source ds d) lt
  where
    go : (b : Bool) → eqb x d ≡ b
        → (0 < times d ds → valuation (map (cell_value word below) (map (λ (c : ℕ). buffer_from (source c)) ds))
        (place_of ds d) ≡ below (source d).cell)
        → 0 < times d (x ∷ ds) → valuation
        (map (cell_value word below) (map (λ (c : ℕ). buffer_from (source c)) (x ∷ ds)))
        (place_of (x ∷ ds) d) ≡ below (source d).cell
    go true q rest lt = rw q (ap (λ (c : ℕ). below (source c).cell) (eqb-true x d q))
    go false q rest lt = let h = rw q at lt in rw q (rest h)

values_next : (word : List Bool) (below : ℕ → Bool) (wired : ℕ → Bool) (source : ℕ → Source)
    (value : ℕ → Bool) (to : List ℕ)
    → HaveValues wired source below value → ((d : ℕ) → wired d ≡ true → 0 < times d to)
    → HaveValues wired (source_above wired to)
    (valuation (map (cell_value word below) (added wired source to).cells)) value
values_next word below wired source value to have stands d w =
    buffer_value word below source (carried wired to) d (omega (arith, stands d w, carried_has wired to d w)) ∙ have d w

-- the upper row takes the same values from its new sources
abbrev Kept : (ℕ → Bool) → (ℕ → Bool) → (ℕ → Source) → Link → Type 0
Kept below top source w = top (source w.to).cell ≡ below w.source.cell

pin_kept : (below top : ℕ → Bool) (source : ℕ → Source) (lower : List ℕ) (slot : ℕ)
    (o : Option Source) (more : List Link)
    → AllByRecursion (Kept below top source) (pin_link lower slot o more)
    → (source_value top (fed_from source slot o) ≡ source_value below o) × AllByRecursion (Kept below top source) more
pin_kept below top source lower slot None more all = (refl, all)
pin_kept below top source lower slot (Some s) more all = (all.0, all.1)

cell_kept : (word : List Bool) (below top : ℕ → Bool) (source : ℕ → Source) (lower : List ℕ) (slot : ℕ)
    (cell : RowCell) (more : List Link)
    → AllByRecursion (Kept below top source)
    (pin_link lower slot cell.source0
    (pin_link lower (suc slot) cell.source1 (pin_link lower (suc (suc slot)) cell.source2 more)))
    → (cell_value word top (cell_from source slot cell) ≡ cell_value word below cell)
    × AllByRecursion (Kept below top source) more
cell_kept word below top source lower slot cell more all =
    let more1 = pin_link lower (suc (suc slot)) cell.source2 more in
    let a = pin_kept below top source lower slot cell.source0 (pin_link lower (suc slot) cell.source1 more1) all in
    let b = pin_kept below top source lower (suc slot) cell.source1 more1 a.1 in
    let c = pin_kept below top source lower (suc (suc slot)) cell.source2 more b.1 in
    (rw (a.0, b.0, c.0) refl, c.1)

row_kept : (word : List Bool) (below top : ℕ → Bool) (source : ℕ → Source) (lower : List ℕ)
    (cells : List RowCell) (slots : List ℕ)
    → length slots ≡ length cells → AllByRecursion (Kept below top source) (links lower cells slots)
    → map (cell_value word top) (cells_from source cells slots) ≡ map (cell_value word below) cells
row_kept word below top source lower [] slots long all = refl
row_kept word below top source lower (cell ∷ cells) [] long all = absurd (omega (arith, long))
row_kept word below top source lower (cell ∷ cells) (slot ∷ slots) long all =
    let here = cell_kept word below top source lower slot cell (links lower cells slots) all in
    let rest = row_kept word below top source lower cells slots (omega (arith, long)) here.1 in
    rw (here.0, rest) refl

kept_from : (ws : List Link) (below top : ℕ → Bool) (source : ℕ → Source)
    → HaveValues (is_end ws) source top (λ (d : ℕ). below (source_to ws d).cell)
    → (vs : List Link) → AllByRecursion (IsFound ws) vs → AllByRecursion (Kept below top source) vs
kept_from ws below top source have [] all = tt
kept_from ws below top source have (v ∷ vs) all =
    (have v.to all.0.1 ∙ ap (λ (s : Source). below s.cell) all.0.0, kept_from ws below top source have vs all.1)

-- in each added row each wire's destination stands
abbrev Stand : (ℕ → Bool) → List ℕ → Type 0
Stand wired to = (d : ℕ) → wired d ≡ true → 0 < times d to

all_stand : (wired : ℕ → Bool) (slots : ℕ) → ((d : ℕ) → wired d ≡ true → d < slots) → (tos : List (List ℕ))
    → AreOrders slots tos → AllByRecursion (Stand wired) tos
all_stand wired slots within [] orders = tt
all_stand wired slots within (to ∷ tos) orders = (
  (λ d w. stands_in to d orders.0.1 (omega (arith, within d w, orders.0.0))),
  all_stand wired slots within tos orders.1,
)

-- a channel's rows give the upper row its values
module _ (word : List Bool) (wired : ℕ → Bool) (value : ℕ → Bool) (upper : PlacedRow)
    (after : List PlacedRow) (values : List Bool)
    (kept : (source : ℕ → Source) (top : List Bool) → HaveValues wired source (valuation top) value
    → map (cell_value word (valuation top)) (cells_from source upper.cells upper.slots) ≡ values) where
  channel_values : (tos : List (List ℕ)) (source : ℕ → Source) (below : List Bool) → AllByRecursion (Stand wired) tos
      → HaveValues wired source (valuation below) value
      → last_values word below (cells_of (added_rows wired source tos ++ (record {
        cells = cells_from (last_source wired source tos) upper.cells upper.slots;
        slots = upper.slots;
      } ∷ after)))
      ≡ last_values word values (cells_of after)
  channel_values [] source below stand have =
      ap (λ (vs : List Bool). last_values word vs (cells_of after)) (kept source below have)
  channel_values (to ∷ tos) source below stand have =
      channel_values tos (source_above wired to)
      (map (cell_value word (valuation below)) (added wired source to).cells) stand.1
      (values_next word (valuation below) wired source value to have stand.0)

rows_values : (reach outputs : ℕ) (word below : List Bool) (lower : PlacedRow) (rows : List PlacedRow)
    → AreSeated 0 lower.cells lower.slots
    → PlacedAbove outputs lower rows
    → last_values word below (cells_of (rows_above reach lower rows)) ≡ last_values word below (cells_of rows)
rows_values reach outputs word below lower [] seated known = refl
rows_values reach outputs word below lower (upper ∷ rows) seated known =
    let ws = channel_links lower upper in
    let slots = channel_slots lower upper in
    let channel = channel_known outputs (no_more rows) lower upper seated known.0 known.1 in
    let to = destinations ws slots in
    let full : length to ≡ slots = destinations_length ws slots in
    let orders = all_rounds_orders reach (is_end ws) to (destinations_order ws slots channel) in
    let within : (d : ℕ) → is_end ws d ≡ true
    → d < length to = λ d w. omega (arith, full, wired_below ws slots d channel.to_below w) in
    channel_values word (is_end ws) (λ (d : ℕ). valuation below (source_to ws d).cell) upper
    (rows_above reach upper rows) (map (cell_value word (valuation below)) upper.cells)
    (λ source top have. row_kept word (valuation below) (valuation top) source lower.slots upper.cells upper.slots
    (seated_length 0 upper.cells upper.slots known.0)
    (kept_from ws (valuation below) (valuation top) source have ws (found ws channel.to_apart)))
    (channel_rounds reach lower upper) (source_to ws) below
    (all_stand (is_end ws) (length to) within (channel_rounds reach lower upper) orders) (λ d w. refl)
    ∙ rows_values reach outputs word (map (cell_value word (valuation below)) upper.cells) upper rows known.0 known.2

-- the last row shows what it showed
abbrev last_row : List RowCell → List PlacedRow → List RowCell
last_row cells [] = cells
last_row cells (row ∷ rows) = last_row row.cells rows

abbrev shown_outputs : List RowCell → List (Option ℕ)
shown_outputs cells = map (λ (cell : RowCell). cell.output) cells

moved_shown : (source : ℕ → Source) (cells : List RowCell) (slots : List ℕ)
    → shown_outputs (cells_from source cells slots) ≡ shown_outputs cells
moved_shown source [] slots = refl
moved_shown source (cell ∷ cells) [] = refl
moved_shown source (cell ∷ cells) (slot ∷ slots) = ap (λ (l : List (Option ℕ)). cell.output ∷ l)
    (moved_shown source cells slots)

last_added : (wired : ℕ → Bool) (source : ℕ → Source) (tos : List (List ℕ)) (cells : List RowCell)
    (upper : PlacedRow) (after : List PlacedRow)
    → last_row cells (added_rows wired source tos ++ (upper ∷ after)) ≡ last_row upper.cells after
last_added wired source [] cells upper after = refl
last_added wired source (to ∷ tos) cells upper after = last_added wired (source_above wired to) tos
    (added wired source to).cells upper after

last_shown : (reach : ℕ) (cells cells' : List RowCell) (lower : PlacedRow) (rows : List PlacedRow)
    → shown_outputs cells' ≡ shown_outputs cells
    → shown_outputs (last_row cells' (rows_above reach lower rows)) ≡ shown_outputs (last_row cells rows)
last_shown reach cells cells' lower [] same = same
last_shown reach cells cells' lower (upper ∷ rows) same =
    let ws = channel_links lower upper in
    let tos = channel_rounds reach lower upper in
    let source = last_source (is_end ws) (source_to ws) tos in
    let upper' : PlacedRow = record { cells = cells_from source upper.cells upper.slots; slots = upper.slots } in
    ap shown_outputs (last_added (is_end ws) (source_to ws) tos cells' upper' (rows_above reach upper rows))
    ∙ last_shown reach upper.cells upper'.cells upper rows (moved_shown source upper.cells upper.slots)

last_row_is : (row : PlacedRow) (rows : List PlacedRow)
    → row_at (cells_of (row ∷ rows)) (last_of (cells_of (row ∷ rows))) ≡ last_row row.cells rows
last_row_is row [] = refl
last_row_is row (r ∷ rows) = last_row_is r rows

-- what is shown follows from the outputs alone
abbrev shown_by : (ℕ → Bool) → ℕ → List (Option ℕ) → List Bool → List Bool
shown_by values c [] answer = answer
shown_by values c (o ∷ os) answer = shown_by values (suc c) os (with_value o (values c) answer)

shown_is : (values : ℕ → Bool) (c : ℕ) (cells : List RowCell) (answer : List Bool)
    → shown_from values c cells answer ≡ shown_by values c (shown_outputs cells) answer
shown_is values c [] answer = refl
shown_is values c (cell ∷ cells) answer = shown_is values (suc c) cells (with_value cell.output (values c) answer)

-- the plan evaluates to the word of the net
pub rows_word : (reach inputs outputs : ℕ) (word : List Bool) (row : PlacedRow) (rows : List PlacedRow)
    → AreSeated 0 row.cells row.slots
    → PlacedAbove outputs row rows
    → evaluated_word (placed_of inputs outputs (repeated_rows reach (row ∷ rows))).net word ≡ evaluated_word
    (placed_of inputs outputs (row ∷ rows)).net word
unfolding evaluated_word
rows_word reach inputs outputs word row rows seated known =
    let more = rows_above reach row rows in
    let first = map (cell_value word (valuation [])) row.cells in
    let empty = replicate {A = Bool} outputs false in
    let values : last_values word first (cells_of more) ≡ last_values word first (cells_of rows) =
    rows_values reach outputs word first row rows seated known in
    let shown : shown_outputs (last_row row.cells more) ≡ shown_outputs (last_row row.cells rows) =
    last_shown reach row.cells row.cells row rows refl in
    let v = λ (vs : List Bool). valuation vs in
    ap (λ (cells : List RowCell). shown_from (valuation (last_values word first (cells_of more))) 0 cells empty)
    (last_row_is row more)
    ∙ ap (λ (vs : List Bool). shown_from (valuation vs) 0 (last_row row.cells more) empty) values
    ∙ shown_is (valuation (last_values word first (cells_of rows))) 0 (last_row row.cells more) empty
    ∙ ap (λ (os : List (Option ℕ)). shown_by (valuation (last_values word first (cells_of rows))) 0 os empty) shown
    ∙ sym (shown_is (valuation (last_values word first (cells_of rows))) 0 (last_row row.cells rows) empty)
    ∙ sym (ap (λ (cells : List RowCell). shown_from (valuation (last_values word first (cells_of rows))) 0 cells empty)
    (last_row_is row rows))

pub repeaters_word : (p : PlacedView) (reach : ℕ) (word : List Bool) → IsPlaced p
    → evaluated_word (repeated p reach).net word ≡ evaluated_word p.net word
unfolding repeated
repeaters_word p reach word known =
    go (placed_rows p) (again_placed p known)
    ∙ sym (ap (λ (q : PlacedView). evaluated_word q.net word) (placed_again p known))
  where
    go : (rows : List PlacedRow) → IsPlaced (placed_of p.net.inputs p.net.outputs rows)
        → evaluated_word (placed_of p.net.inputs p.net.outputs (repeated_rows reach rows)).net word ≡ evaluated_word
        (placed_of p.net.inputs p.net.outputs rows).net word
    go [] kept = refl
    go (row ∷ rows) kept =
        let facts = placed_facts p.net.inputs p.net.outputs row rows kept in
        rows_word reach p.net.inputs p.net.outputs word row rows facts.1 facts.2

-- so it has the net's answers
pub repeaters_answer : (p : PlacedView) (reach : ℕ) → IsPlaced p → IsPlaced (repeated p reach)
    → SameAnswers p.net.inputs (repeated p reach).net.inputs p.net.outputs (repeated p reach).net.outputs
    (IsAnswer p.net) (IsAnswer (repeated p reach).net)
unfolding repeated
repeaters_answer p reach known kept =
    let out = repeated p reach in
    record {
      same_inputs = refl;
      same_outputs = refl;
      there = λ x y long answer.
          let same : evaluated_word out.net x ≡ y =
          repeaters_word p reach x known
          ∙ one_answer p.net x (evaluated_word p.net x) y known.net_keeps
          (evaluated_answer p.net x known.net_keeps) answer in
          subst (IsAnswer out.net x) same (evaluated_answer out.net x kept.net_keeps);
      back = λ x y long answer.
          let same : evaluated_word p.net x ≡ y =
          sym (repeaters_word p reach x known)
          ∙ one_answer out.net x (evaluated_word out.net x) y kept.net_keeps
          (evaluated_answer out.net x kept.net_keeps) answer in
          subst (IsAnswer p.net x) same (evaluated_answer p.net x known.net_keeps);
    }
