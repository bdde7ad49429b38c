-- The rows of the plan, made one after another.
use Rattle.std.proofs.Common.{◌≡◌, ℕ, suc, ◌+◌, ◌-◌, ◌<◌, ◌≤◌, ◌==◌, Bool, true, false, not, ◌||◌, List, [], ◌∷◌}
use Rattle.std.proofs.Common.{◌++◌, length, map, drop, Option, Some, None, refl, sym, ap, ◌∙◌, subst, append_assoc}
use Rattle.std.proofs.Common.{arith, Vec}
use Rattle.std.specs.List.{All}
use Rattle.std.proofs.lemmas.Bool.{eq-eqb}
use Rattle.std.proofs.lemmas.List.{append-nil, length-map, map-append, drop_all}
use Rattle.std.proofs.lemmas.List.Elements.{All-from_recursion}
use Rattle.std.specs.Global.{Global}
use Rattle.rowed.specs.declared.source.Source.{Source}
use Rattle.rowed.specs.declared.row_cell.RowCell.{RowCell}
use Rattle.rowed.specs.Limits.{slot_limit}
use Rattle.rowed.specs.PlacedNets.{PlacedRow, PlacedView, IsPlaced, placed_rows, row_of}
use Rattle.rowed.specs.Channels.{Link, pin_link, links, channel_links}
use Rattle.repeater_rows.specs.Destinations.{is_end}
use Rattle.repeater_rows.specs.declared.channel.Channel.{Channel}
use Rattle.repeater_rows.specs.Rounds.{is_far, all_rounds}
use Rattle.repeater_rows.specs.Repeaters.{buffer_from, carried, carrier_slots, added, source_to, source_above}
use Rattle.repeater_rows.specs.Repeaters.{added_rows, last_source, fed_from, cell_from, cells_from, channel_rounds}
use Rattle.repeater_rows.specs.Repeaters.{channel_rows, rows_above, repeated_rows}
use Rattle.rowed.proofs.RowsAboveLaws.{cells_of, slots_in}
use Rattle.rowed.proofs.NeighbourLaws.{seated_at, slots_below}
use Rattle.repeater_rows.specs.Code.Opening.{AreDestinations, IsOpened}
use Rattle.repeater_rows.specs.Code.Counts.{rounds_left}
use Rattle.repeater_rows.specs.Code.Works.{Listed, is_wired, fed_by, Work, rounds_of, rows_of, last_of, AllMade}
use Rattle.repeater_rows.proofs.Makes.{added_to, slots_of, Stage, rounds_ahead, rows_ahead, AreMade, IsRound, IsNext}
use Rattle.repeater_rows.proofs.Makes.{rows_left, AreMadeTo}
use Rattle.repeater_rows.proofs.RoundsLeft.{first_ahead, turned_known, turned_kept, left_next, none_near}
use Rattle.rowed.proofs.NumberedRows.{rows_from, placed_long}

-- the sources of all wires are the same
abbrev pub SameSources : (ℕ → Bool) → (ℕ → Source) → (ℕ → Source) → Type 0
SameSources wired f g = (d : ℕ) → wired d ≡ true → f d ≡ g d

-- a row depends on the sources of its wires
same_buffers : (wired : ℕ → Bool) (f g : ℕ → Source) → SameSources wired f g → (to : List ℕ)
    → map (λ (d : ℕ). buffer_from (f d)) (carried wired to) ≡ map (λ (d : ℕ). buffer_from (g d)) (carried wired to)
same_buffers wired f g same [] = refl
same_buffers wired f g same (d ∷ to) = go (wired d) refl (same_buffers wired f g same to)
  where
    go : (t : Bool) → wired d ≡ t
        → map (λ (d : ℕ). buffer_from (f d)) (carried wired to) ≡ map (λ (d : ℕ). buffer_from (g d)) (carried wired to)
        → map (λ (d : ℕ). buffer_from (f d)) (carried wired (d ∷ to)) ≡ map
        (λ (d : ℕ). buffer_from (g d)) (carried wired (d ∷ to))
    go true q rest = rw q (ap (λ (s : Source). buffer_from s ∷ map (λ (d : ℕ). buffer_from (f d)) (carried wired to))
        (same d q) ∙ ap (λ (l : List RowCell). buffer_from (g d) ∷ l) rest)
    go false q rest = rw q rest

same_added : (wired : ℕ → Bool) (f g : ℕ → Source) → SameSources wired f g → (tos : List (List ℕ))
    → added_rows wired f tos ≡ added_rows wired g tos
same_added wired f g same [] = refl
same_added wired f g same (to ∷ tos) =
    ap (λ (l : List RowCell). record { cells = l; slots = carrier_slots wired 0 to } ∷ added_rows wired
    (source_above wired to) tos) (same_buffers wired f g same to)

same_last : (wired : ℕ → Bool) (f g : ℕ → Source) → SameSources wired f g → (tos : List (List ℕ))
    → SameSources wired (last_source wired f tos) (last_source wired g tos)
same_last wired f g same [] d w = same d w
same_last wired f g same (to ∷ tos) d w = refl

-- before the first round
pub made_first : (w : Work) (below : Listed)
    → AreDestinations (is_wired w.channel) (slots_of w) w.channel.to.items w.channel.carriers.items
    → AreMade w below (record { done = 0; first = true; channel = w.channel }) below
made_first w below known =
    let rows = λ (tos : List (List ℕ)). added_rows (is_wired w.channel) (fed_by w.channel) tos in
    record {
      stage = record { known = known; wires = refl };
      long = refl;
      rows = ap (λ (tos : List (List ℕ)). below.cells ++ cells_of (rows tos)) (first_ahead w);
      seats = ap (λ (tos : List (List ℕ)). below.seats ++ slots_in (rows tos)) (first_ahead w);
      sources = λ d e. ap (λ (tos : List (List ℕ)). last_source (is_wired w.channel) (fed_by w.channel) tos d)
          (first_ahead w);
    }

module _ (w : Work) (below : Listed) (now : Stage) (made : Listed) (are : AreMade w below now made) where
  -- after the last
  pub made_all : rounds_ahead w now ≡ [] → AllMade w below (fed_by now.channel) made
  made_all none =
      let rows = λ (tos : List (List ℕ)). added_rows (is_wired now.channel) (fed_by now.channel) tos in
      record {
        rows = sym (append-nil made.cells)
            ∙ ap (λ (tos : List (List ℕ)). made.cells ++ cells_of (rows tos)) (sym none) ∙ are.rows;
        seats = sym (append-nil made.seats)
            ∙ ap (λ (tos : List (List ℕ)). made.seats ++ slots_in (rows tos)) (sym none) ∙ are.seats;
        sources = λ d e. ap (λ (tos : List (List ℕ)). last_source (is_wired now.channel) (fed_by now.channel) tos d)
            (sym none) ∙ are.sources d e;
      }

  pub made_near : is_far w.reach (is_wired now.channel) 0 now.channel.to.items ≡ false
      → AllMade w below (fed_by now.channel) made
  made_near near = made_all (none_near w now near)

  -- one round more
  pub made_step : (turned : Channel) → IsRound w now turned → (next : Stage) (more : Listed)
      → IsNext now made turned next more → AreMade w below next more
  made_step turned turn next more step =
      let wires = is_wired now.channel in
      let to = turned.to.items in
      let f = fed_by next.channel in
      let left = rounds_left w.reach wires (now.done + 1) (not now.first) to in
      let known = turned_known w now turned are.stage turn in
      let kept = turned_kept w now turned are.stage turn in
      let tos = left_next w now turned are.stage turn in
      let above : SameSources wires f (source_above wires to) = λ d e.
      subst (λ (c : Channel). is_wired c d ≡ true → d < length c.sources.items
      → f d ≡ source_above (is_wired c) c.to.items d) kept (step.above d)
      e (omega (arith, known.below d e, are.long)) in
      let row = added wires (fed_by now.channel) to in
      let after : rows_ahead w now ≡ row ∷ added_rows wires f left = ap (added_rows wires (fed_by now.channel)) tos
      ∙ ap (λ (rows : List PlacedRow). row ∷ rows) (sym (same_added wires f (source_above wires to) above left)) in
      let channel : Channel = record now.channel {
        to = turned.to;
        carriers = turned.carriers;
        sources = next.channel.sources;
      } in
      let channel_is : next.channel ≡ channel = step.same
      ∙ ap (λ (c : Channel). record c { sources = next.channel.sources }) kept in
      let same = ap (λ (d : ℕ). record { done = d; first = not now.first; channel = channel }) (sym step.done)
      ∙ ap (λ (b : Bool). record { done = next.done; first = b; channel = channel }) (sym step.first)
      ∙ ap (λ (c : Channel). record { done = next.done; first = next.first; channel = c }) (sym channel_is) in
      subst (λ (s : Stage). AreMade w below s more) same (record {
        stage = record { known = known; wires = are.stage.wires };
        long = step.long ∙ ap (λ (v : Vec Source Global). length v.items) turn.turns.feeds ∙ are.long;
        rows = ap (λ (l : List (List RowCell)). l ++ cells_of (added_rows wires f left)) step.rows
            ∙ ap (λ (c : Channel). (made.cells ++ ((added_to c).cells ∷ [])) ++ cells_of (added_rows wires f left)) kept
            ∙ append_assoc made.cells (row.cells ∷ []) (cells_of (added_rows wires f left))
            ∙ ap (λ (rows : List PlacedRow). made.cells ++ cells_of rows) (sym after) ∙ are.rows;
        seats = ap (λ (l : List (List ℕ)). l ++ slots_in (added_rows wires f left)) step.seats
            ∙ ap (λ (c : Channel). (made.seats ++ ((added_to c).slots ∷ [])) ++ slots_in (added_rows wires f left)) kept
            ∙ append_assoc made.seats (row.slots ∷ []) (slots_in (added_rows wires f left))
            ∙ ap (λ (rows : List PlacedRow). made.seats ++ slots_in rows) (sym after) ∙ are.seats;
        sources = λ d e. same_last wires f (source_above wires to) above left d
            (ap (λ (h : ℕ → Bool). h d) are.stage.wires ∙ e)
            ∙ ap (λ (l : List (List ℕ)). last_source wires (fed_by now.channel) l d) (sym tos) ∙ are.sources d e;
      })

-- the upper row depends on the sources of its wires
end_more : (lower : List ℕ) (slot : ℕ) (o : Option Source) (more : List Link) (d : ℕ) → is_end more d ≡ true
    → is_end (pin_link lower slot o more) d ≡ true
end_more lower slot None more d e = e
end_more lower slot (Some s) more d e = go (slot == d)
  where
    go : (b : Bool) → (b || is_end more d) ≡ true
    go true = refl
    go false = e

end_here : (lower : List ℕ) (slot : ℕ) (s : Source) (more : List Link)
    → is_end (pin_link lower slot (Some s) more) slot ≡ true
end_here lower slot s more = let here : (slot == slot) ≡ true = eq-eqb slot slot refl in rw here refl

same_pin : (lower : List ℕ) (slot : ℕ) (o : Option Source) (more : List Link) (f g : ℕ → Source)
    → SameSources (is_end (pin_link lower slot o more)) f g
    → fed_from f slot o ≡ fed_from g slot o
same_pin lower slot None more f g same = refl
same_pin lower slot (Some s) more f g same = ap (λ (s : Source). Some s) (same slot (end_here lower slot s more))

same_rest : (lower : List ℕ) (slot : ℕ) (o : Option Source) (more : List Link) (f g : ℕ → Source)
    → SameSources (is_end (pin_link lower slot o more)) f g
    → SameSources (is_end more) f g
same_rest lower slot o more f g same d e = same d (end_more lower slot o more d e)

same_cells : (lower : List ℕ) (f g : ℕ → Source) (cells : List RowCell) (slots : List ℕ)
    → SameSources (is_end (links lower cells slots)) f g
    → cells_from f cells slots ≡ cells_from g cells slots
same_cells lower f g [] slots same = refl
same_cells lower f g (cell ∷ cells) [] same = refl
same_cells lower f g (cell ∷ cells) (slot ∷ slots) same =
    let rest = links lower cells slots in
    let third = pin_link lower (suc (suc slot)) cell.source2 rest in
    let second = pin_link lower (suc slot) cell.source1 third in
    let same1 : SameSources (is_end second) f g = same_rest lower slot cell.source0 second f g same in
    let same2 : SameSources (is_end third) f g = same_rest lower (suc slot) cell.source1 third f g same1 in
    let more = same_cells lower f g cells slots (same_rest lower (suc (suc slot)) cell.source2 rest f g same2) in
    ap (λ (o : Option Source). record cell {
      source0 = o;
      source1 = fed_from f (suc slot) cell.source1;
      source2 = fed_from f (suc (suc slot)) cell.source2;
    } ∷ cells_from f cells slots)
    (same_pin lower slot cell.source0 second f g same)
    ∙ ap (λ (o : Option Source). record cell {
      source0 = fed_from g slot cell.source0;
      source1 = o;
      source2 = fed_from f (suc (suc slot)) cell.source2;
    } ∷ cells_from f cells slots)
    (same_pin lower (suc slot) cell.source1 third f g same1)
    ∙ ap (λ (o : Option Source). record cell {
      source0 = fed_from g slot cell.source0;
      source1 = fed_from g (suc slot) cell.source1;
      source2 = o;
    } ∷ cells_from f cells slots)
    (same_pin lower (suc (suc slot)) cell.source2 rest f g same2)
    ∙ ap (λ (l : List RowCell). cell_from g slot cell ∷ l) more

-- the rows of a channel between two rows
module _ (lower upper : PlacedRow) (w : Work) (is : IsOpened lower upper w.channel) where
  tos_are : rounds_of w ≡ channel_rounds w.reach lower upper
  tos_are = ap (λ (h : ℕ → Bool). all_rounds w.reach h w.channel.to.items) is.wired
      ∙ ap (λ (l : List ℕ). all_rounds w.reach (is_end (channel_links lower upper)) l) is.to

  pub plan_is : rows_of w ≡ added_rows (is_end (channel_links lower upper)) (source_to (channel_links lower upper))
      (channel_rounds w.reach lower upper)
  plan_is = ap (λ (l : List (List ℕ)). added_rows (is_wired w.channel) (fed_by w.channel) l) tos_are
      ∙ ap (λ (h : ℕ → Bool). added_rows h (fed_by w.channel) (channel_rounds w.reach lower upper)) is.wired
      ∙ ap (λ (s : ℕ → Source). added_rows (is_end (channel_links lower upper)) s
      (channel_rounds w.reach lower upper)) is.sources

  last_is : last_of w ≡ last_source (is_end (channel_links lower upper)) (source_to (channel_links lower upper))
      (channel_rounds w.reach lower upper)
  last_is = ap (λ (l : List (List ℕ)). last_source (is_wired w.channel) (fed_by w.channel) l) tos_are
      ∙ ap (λ (h : ℕ → Bool). last_source h (fed_by w.channel) (channel_rounds w.reach lower upper)) is.wired
      ∙ ap (λ (s : ℕ → Source). last_source (is_end (channel_links lower upper)) s
      (channel_rounds w.reach lower upper)) is.sources

  pub channel_cells : (below : Listed) (source : ℕ → Source) (made : Listed) → AllMade w below source made
      → (fed : List RowCell) → fed ≡ cells_from source upper.cells upper.slots
      → made.cells ++ (fed ∷ []) ≡ below.cells ++ cells_of
      (channel_rows lower upper (channel_rounds w.reach lower upper) [])
  channel_cells below source made all fed feeds =
      let ws = channel_links lower upper in
      let tos = channel_rounds w.reach lower upper in
      let last = last_source (is_end ws) (source_to ws) tos in
      let agree : SameSources (is_end ws) source last = λ d e. all.sources d (ap (λ (h : ℕ → Bool). h d) is.wired ∙ e)
      ∙ ap (λ (h : ℕ → Source). h d) last_is in
      let fed_is : fed ≡ cells_from last upper.cells upper.slots = feeds
      ∙ same_cells lower.slots source last upper.cells upper.slots agree in
      let plan = added_rows (is_end ws) (source_to ws) tos in
      ap (λ (l : List (List RowCell)). l ++ (fed ∷ [])) all.rows
      ∙ ap (λ (rows : List PlacedRow). (below.cells ++ cells_of rows) ++ (fed ∷ [])) plan_is
      ∙ ap (λ (row : List RowCell). (below.cells ++ cells_of plan) ++ (row ∷ [])) fed_is
      ∙ append_assoc below.cells (cells_of plan) (cells_from last upper.cells upper.slots ∷ [])
      ∙ ap (λ (l : List (List RowCell)). below.cells ++ l)
      (sym (map-append (λ (row : PlacedRow). row.cells) plan
      (record { cells = cells_from last upper.cells upper.slots; slots = upper.slots } ∷ [])))

  pub channel_seats : (below seats : List (List ℕ)) → seats ≡ below ++ slots_in (rows_of w)
      → seats ++ (upper.slots ∷ []) ≡ below ++ slots_in
      (channel_rows lower upper (channel_rounds w.reach lower upper) [])
  channel_seats below seats all =
      let ws = channel_links lower upper in
      let tos = channel_rounds w.reach lower upper in
      let last = last_source (is_end ws) (source_to ws) tos in
      let plan = added_rows (is_end ws) (source_to ws) tos in
      ap (λ (l : List (List ℕ)). l ++ (upper.slots ∷ [])) all
      ∙ ap (λ (rows : List PlacedRow). (below ++ slots_in rows) ++ (upper.slots ∷ [])) plan_is
      ∙ append_assoc below (slots_in plan) (upper.slots ∷ [])
      ∙ ap (λ (l : List (List ℕ)). below ++ l)
      (sym (map-append (λ (row : PlacedRow). row.slots) plan
      (record { cells = cells_from last upper.cells upper.slots; slots = upper.slots } ∷ [])))

-- the channel is open
pub known_from : (lower upper : PlacedRow) (c : Channel) → IsOpened lower upper c
    → AreDestinations (is_wired c) (length c.sources.items) c.to.items c.carriers.items
known_from lower upper c is =
    subst (λ (k : ℕ). AreDestinations (is_wired c) k c.to.items c.carriers.items) (sym is.long) is.known

pub slots_fit_at : (p : PlacedView) (k : ℕ) (slots : List ℕ) → IsPlaced p → k < length p.net.rows
    → slots ≡ (row_of p k).slots → All (λ (slot : ℕ). slot < slot_limit) slots
slots_fit_at p k slots known lt is =
    subst (λ (l : List ℕ). All (λ (slot : ℕ). slot < slot_limit) l) (sym is)
    (All-from_recursion (λ (slot : ℕ). slot < slot_limit) (row_of p k).slots
    (slots_below 0 (row_of p k).cells (row_of p k).slots (seated_at p.net.rows p.slots known.seated k lt)))

-- one channel after another
channel_more : (lower upper : PlacedRow) (tos : List (List ℕ)) (more : List PlacedRow)
    → channel_rows lower upper tos more ≡ channel_rows lower upper tos [] ++ more
channel_more lower upper tos more =
    let ws = channel_links lower upper in
    sym (append_assoc (added_rows (is_end ws) (source_to ws) tos)
    (record {
      cells = cells_from (last_source (is_end ws) (source_to ws) tos) upper.cells upper.slots;
      slots = upper.slots;
    } ∷ []) more)

pub alone : {A : Type 0} (none rows : List A) (x y : A) → none ≡ [] → x ≡ y → rows ≡ none ++ (x ∷ []) → rows ≡ y ∷ []
alone {A = A} none rows x y e is more = more ∙ ap (λ (l : List A). l ++ (x ∷ [])) e ∙ ap (λ (a : A). a ∷ []) is

-- the rows above the lowest one are left
pub lowest_rows : (reach : ℕ) (net : PlacedView) → IsPlaced net
    → row_of net 0 ∷ rows_left reach net 1 ≡ repeated_rows reach (placed_rows net)
lowest_rows reach net known =
    ap (repeated_rows reach)
    (sym (rows_from net known 0 1 (omega arith) (omega (arith, known.net_keeps.two_rows)))
    ∙ drop_none (placed_rows net))
  where
    drop_none : (rows : List PlacedRow) → drop 0 rows ≡ rows
    drop_none [] = refl
    drop_none (row ∷ rows) = refl

pub made_from : (reach : ℕ) (net : PlacedView) (made : Listed) → IsPlaced net → made.cells ≡ (row_of net 0).cells ∷ []
    → made.seats ≡ (row_of net 0).slots ∷ []
    → AreMadeTo reach net 1 made
made_from reach net made known cells_are seats_are = record {
  some = omega arith;
  rows = ap (λ (l : List (List RowCell)). l ++ cells_of (rows_left reach net 1)) cells_are
      ∙ ap cells_of (lowest_rows reach net known);
  seats = ap (λ (l : List (List ℕ)). l ++ slots_in (rows_left reach net 1)) seats_are
      ∙ ap slots_in (lowest_rows reach net known);
}

-- the rows of the channel below row k
abbrev pub channel_below : ℕ → PlacedView → ℕ → List PlacedRow
channel_below reach net k =
    channel_rows (row_of net (k - 1)) (row_of net (k - 1 + 1))
    (channel_rounds reach (row_of net (k - 1)) (row_of net (k - 1 + 1))) []

pub channel_left : (reach : ℕ) (net : PlacedView) (k : ℕ) → IsPlaced net → 0 < k → k < length net.net.rows
    → rows_left reach net k ≡ channel_below reach net k ++ rows_left reach net (k + 1)
channel_left reach net k known some lt =
    let upper_is : k - 1 + 1 ≡ k = omega arith in
    let last_is : k + 1 - 1 ≡ k = omega arith in
    let next_is : k + 1 ≡ suc k = omega arith in
    let lower : PlacedRow = row_of net (k - 1) in
    let here : PlacedRow = row_of net k in
    let channel = λ (i : ℕ). channel_rows lower (row_of net i) (channel_rounds reach lower (row_of net i)) [] in
    ap (rows_above reach lower) (rows_from net known k (suc k) (omega arith) lt)
    ∙ channel_more lower here (channel_rounds reach lower here) (rows_above reach here (drop (suc k) (placed_rows net)))
    ∙ ap (λ (i : ℕ). channel i ++ rows_above reach here (drop (suc k) (placed_rows net))) (sym upper_is)
    ∙ ap (λ (i : ℕ). channel_below reach net k ++ rows_above reach (row_of net i) (drop (suc k) (placed_rows net)))
    (sym last_is)
    ∙ ap (λ (i : ℕ). channel_below reach net k ++ rows_above reach (row_of net (k + 1 - 1)) (drop i (placed_rows net)))
    (sym next_is)

pub made_channel : (reach : ℕ) (net : PlacedView) (k : ℕ) (made next : Listed) → IsPlaced net → k < length net.net.rows
    → AreMadeTo reach net k made
    → next.cells ≡ made.cells ++ cells_of (channel_below reach net k)
    → next.seats ≡ made.seats ++ slots_in (channel_below reach net k)
    → AreMadeTo reach net (k + 1) next
made_channel reach net k made next known lt before more more_seats =
    let rows = channel_below reach net k in
    let left = channel_left reach net k known before.some lt in
    record {
      some = omega arith;
      rows = ap (λ (l : List (List RowCell)). l ++ cells_of (rows_left reach net (k + 1))) more
          ∙ append_assoc made.cells (cells_of rows) (cells_of (rows_left reach net (k + 1)))
          ∙ ap (λ (l : List (List RowCell)). made.cells ++ l)
          (sym (map-append (λ (row : PlacedRow). row.cells) rows (rows_left reach net (k + 1))))
          ∙ ap (λ (l : List PlacedRow). made.cells ++ cells_of l) (sym left) ∙ before.rows;
      seats = ap (λ (l : List (List ℕ)). l ++ slots_in (rows_left reach net (k + 1))) more_seats
          ∙ append_assoc made.seats (slots_in rows) (slots_in (rows_left reach net (k + 1)))
          ∙ ap (λ (l : List (List ℕ)). made.seats ++ l)
          (sym (map-append (λ (row : PlacedRow). row.slots) rows (rows_left reach net (k + 1))))
          ∙ ap (λ (l : List PlacedRow). made.seats ++ slots_in l) (sym left) ∙ before.seats;
    }

-- all channels
pub none_left : (reach : ℕ) (net : PlacedView) (k : ℕ) → IsPlaced net → length net.net.rows ≤ k
    → rows_left reach net k ≡ []
none_left reach net k known le = ap (rows_above reach (row_of net (k - 1)))
    (drop_all k (placed_rows net) (omega (arith, placed_long net known, le)))

module _ (reach : ℕ) (net : PlacedView) (k : ℕ) (rows : Listed) (known : IsPlaced net)
    (made : AreMadeTo reach net k rows) (le : length net.net.rows ≤ k) where
  pub all_cells : rows.cells ≡ cells_of (repeated_rows reach (placed_rows net))
  all_cells = sym (append-nil rows.cells)
      ∙ ap (λ (l : List PlacedRow). rows.cells ++ cells_of l) (sym (none_left reach net k known le)) ∙ made.rows

  pub all_seats : rows.seats ≡ slots_in (repeated_rows reach (placed_rows net))
  all_seats = sym (append-nil rows.seats)
      ∙ ap (λ (l : List PlacedRow). rows.seats ++ slots_in l) (sym (none_left reach net k known le)) ∙ made.seats

  pub all_many : length rows.cells ≡ length (repeated_rows reach (placed_rows net))
  all_many = ap length all_cells ∙ length-map (repeated_rows reach (placed_rows net)) (λ (row : PlacedRow). row.cells)
