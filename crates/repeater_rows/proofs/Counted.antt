-- The cells of the plan's rows, counted one row after another.
use Rattle.std.proofs.Common.{◌≡◌, ℕ, ◌+◌, ◌<◌, ◌≤◌, true, false, not, List, [], ◌∷◌, ◌++◌, length, Some}
use Rattle.std.proofs.Common.{None, refl, sym, ap, ◌∙◌, subst, append_assoc, arith}
use Rattle.rowed.specs.Limits.{cell_limit}
use Rattle.rowed.specs.PlacedNets.{PlacedRow, PlacedView, IsPlaced, placed_rows, row_of}
use Rattle.rowed.specs.Channels.{channel_links}
use Rattle.repeater_rows.specs.declared.channel.Channel.{Channel}
use Rattle.repeater_rows.specs.declared.pass.RepeatRefusal.{RepeatRefusal}
use Rattle.repeater_rows.specs.declared.pass.RepeatRefusal.TheVariants.{TooManyCells, TooTall, Memory}
use Rattle.repeater_rows.specs.Destinations.{is_end}
use Rattle.repeater_rows.specs.Repeaters.{added, added_rows, source_above, source_to, last_source, cells_from}
use Rattle.repeater_rows.specs.Repeaters.{channel_rounds, channel_rows, repeated_rows}
use Rattle.repeater_rows.specs.Passes.{cells_past}
use Rattle.repeater_rows.specs.Code.Opening.{AreDestinations, IsOpened}
use Rattle.repeater_rows.specs.Code.Counts.{rounds_left, AreCounted, ArePast, IsPastLimit}
use Rattle.repeater_rows.specs.Code.Works.{is_wired, fed_by, Work, rows_of}
use Rattle.repeater_rows.proofs.AddedLaws.{moved_length}
use Rattle.repeater_rows.proofs.LimitLaws.{on, off}
use Rattle.repeater_rows.proofs.Makes.{slots_of, Stage, rounds_ahead, AreCounting, IsRound, rows_left, AreCountedTo}
use Rattle.repeater_rows.proofs.RoundsLeft.{first_ahead, turned_known, turned_kept, turned_width, left_next, none_near}
use Rattle.repeater_rows.specs.Rounds.{is_far}
use Rattle.repeater_rows.proofs.Making.{plan_is, lowest_rows, channel_below, channel_left, none_left}

-- a row of so many cells fits, or does not
abbrev pub IsFit : ℕ → ℕ → ℕ → Type 0
IsFit before size cells = (cells ≡ before + size) × (cells ≤ cell_limit)

abbrev pub IsOver : ℕ → ℕ → RepeatRefusal → Type 0
IsOver before size refusal = (refusal ≡ TooManyCells (before + size)) × (cell_limit < before + size)

row_fits : (before size cells : ℕ) (row : PlacedRow) (rows : List PlacedRow) → size ≡ length row.cells
    → IsFit before size cells → cells_past before (row ∷ rows) ≡ cells_past cells rows
row_fits before size cells row rows long fit =
    on before row rows (omega (arith, long, fit.0, fit.1))
    ∙ ap (λ (n : ℕ). cells_past n rows) (omega (arith, long, fit.0))

row_over : (before size : ℕ) (row : PlacedRow) (rows : List PlacedRow) → size ≡ length row.cells
    → cell_limit < before + size → cells_past before (row ∷ rows) ≡ Some (before + size)
row_over before size row rows long past =
    off before row rows (omega (arith, long, past)) ∙ ap (λ (n : ℕ). Some n) (omega (arith, long))

-- before the first round
pub counting_first : (w : Work) (before : ℕ)
    → AreDestinations (is_wired w.channel) (slots_of w) w.channel.to.items w.channel.carriers.items
    → before ≤ cell_limit → AreCounting w before (record { done = 0; first = true; channel = w.channel }) before
counting_first w before known few = record {
  stage = record { known = known; wires = refl };
  few = few;
  source = fed_by w.channel;
  ahead = λ above. ap (λ (tos : List (List ℕ)). cells_past before
      (added_rows (is_wired w.channel) (fed_by w.channel) tos ++ above)) (sym (first_ahead w));
}

module _ (w : Work) (before : ℕ) (now : Stage) (cells : ℕ) (are : AreCounting w before now cells) where
  -- after the last
  pub counting_all : rounds_ahead w now ≡ [] → AreCounted before (rows_of w) cells
  counting_all none = record {
    few = are.few;
    ahead = λ above. are.ahead above ∙ ap (λ (tos : List (List ℕ)). cells_past cells
        (added_rows (is_wired now.channel) are.source tos ++ above)) none;
  }

  pub counting_near : is_far w.reach (is_wired now.channel) 0 now.channel.to.items ≡ false
      → AreCounted before (rows_of w) cells
  counting_near near = counting_all (none_near w now near)

  -- one round more
  module _ (turned : Channel) (turn : IsRound w now turned) where
    abbrev row : PlacedRow
    row = added (is_wired now.channel) are.source turned.to.items

    abbrev more : List PlacedRow
    more = added_rows (is_wired now.channel) (source_above (is_wired now.channel) turned.to.items)
        (rounds_left w.reach (is_wired now.channel) (now.done + 1) (not now.first) turned.to.items)

    next : (above : List PlacedRow) → cells_past before (rows_of w ++ above) ≡ cells_past cells (row ∷ (more ++ above))
    next above = are.ahead above ∙ ap (λ (tos : List (List ℕ)). cells_past cells
        (added_rows (is_wired now.channel) are.source tos ++ above)) (left_next w now turned are.stage turn)

    pub counting_step : (cells' : ℕ) → IsFit cells (length turned.carriers.items) cells'
        → AreCounting w before (record { done = now.done + 1; first = not now.first; channel = turned }) cells'
    counting_step cells' fit =
        subst (λ (c : Channel). AreCounting w before
        (record { done = now.done + 1; first = not now.first; channel = c }) cells')
        (sym (turned_kept w now turned are.stage turn))
        (record {
          stage = record { known = turned_known w now turned are.stage turn; wires = are.stage.wires };
          few = fit.1;
          source = source_above (is_wired now.channel) turned.to.items;
          ahead = λ above. next above ∙ row_fits cells (length turned.carriers.items) cells' row (more ++ above)
              (turned_width w now turned are.stage turn are.source) fit;
        })

    pub counting_over : (refusal : RepeatRefusal) → IsOver cells (length turned.carriers.items) refusal
        → ArePast before (rows_of w) refusal
    counting_over refusal over =
        let here : ArePast before (rows_of w) (TooManyCells (cells + length turned.carriers.items)) = λ above.
        next above ∙ row_over cells (length turned.carriers.items) row (more ++ above)
        (turned_width w now turned are.stage turn are.source) over.1 in
        subst (ArePast before (rows_of w)) (sym over.0) here

-- the rows of a channel between two rows
module _ (lower upper : PlacedRow) (w : Work) (is : IsOpened lower upper w.channel) (before : ℕ) where
  abbrev fed : PlacedRow
  fed = record {
    cells = cells_from (last_source (is_end (channel_links lower upper)) (source_to (channel_links lower upper))
        (channel_rounds w.reach lower upper)) upper.cells upper.slots;
    slots = upper.slots;
  }

  abbrev plan : List PlacedRow
  plan = channel_rows lower upper (channel_rounds w.reach lower upper) []

  wide : length upper.cells ≡ length fed.cells
  wide = sym (moved_length _ upper.cells upper.slots)

  split : (above : List PlacedRow) → cells_past before (plan ++ above) ≡ cells_past before (rows_of w ++ (fed ∷ above))
  split above =
      let ws = channel_links lower upper in
      ap (cells_past before) (append_assoc
      (added_rows (is_end ws) (source_to ws) (channel_rounds w.reach lower upper)) (fed ∷ []) above)
      ∙ ap (λ (rows : List PlacedRow). cells_past before (rows ++ (fed ∷ above))) (sym (plan_is lower upper w is))

  pub channel_counted : (below cells : ℕ) → AreCounted before (rows_of w) below
      → IsFit below (length upper.cells) cells → AreCounted before plan cells
  channel_counted below cells counted fit = record {
    few = fit.1;
    ahead = λ above. split above ∙ counted.ahead (fed ∷ above)
        ∙ row_fits below (length upper.cells) cells fed above wide fit;
  }

  pub channel_over : (below : ℕ) (refusal : RepeatRefusal) → AreCounted before (rows_of w) below
      → IsOver below (length upper.cells) refusal → ArePast before plan refusal
  channel_over below refusal counted over =
      let here : ArePast before plan (TooManyCells (below + length upper.cells)) = λ above.
      split above ∙ counted.ahead (fed ∷ above) ∙ row_over below (length upper.cells) fed above wide over.1 in
      subst (ArePast before plan) (sym over.0) here

  pub channel_past : (refusal : RepeatRefusal) → ArePast before (rows_of w) refusal → ArePast before plan refusal
  channel_past (TooManyCells cells) past = λ above. split above ∙ past (fed ∷ above)
  channel_past (TooTall rows) past = past
  channel_past Memory past = past

-- one channel after another
module _ (reach : ℕ) (net : PlacedView) (known : IsPlaced net) where
  pub counted_lowest : (cells : ℕ) → IsFit 0 (length (row_of net 0).cells) cells → AreCountedTo reach net 1 cells
  counted_lowest cells fit = record {
    some = omega arith;
    few = fit.1;
    ahead = ap (cells_past 0) (sym (lowest_rows reach net known))
        ∙ row_fits 0 (length (row_of net 0).cells) cells (row_of net 0) (rows_left reach net 1) refl fit;
  }

  pub over_lowest : (refusal : RepeatRefusal) → IsOver 0 (length (row_of net 0).cells) refusal
      → IsPastLimit reach (placed_rows net) refusal
  over_lowest refusal over =
      let here : IsPastLimit reach (placed_rows net) (TooManyCells (0 + length (row_of net 0).cells)) =
      ap (cells_past 0) (sym (lowest_rows reach net known))
      ∙ row_over 0 (length (row_of net 0).cells) (row_of net 0) (rows_left reach net 1) refl over.1 in
      subst (IsPastLimit reach (placed_rows net)) (sym over.0) here

  module _ (k cells : ℕ) (counted : AreCountedTo reach net k cells) where
    ahead : k < length net.net.rows → cells_past 0 (repeated_rows reach (placed_rows net))
        ≡ cells_past cells (channel_below reach net k ++ rows_left reach net (k + 1))
    ahead lt = counted.ahead ∙ ap (cells_past cells) (channel_left reach net k known counted.some lt)

    pub counted_channel : k < length net.net.rows → (cells' : ℕ)
        → AreCounted cells (channel_below reach net k) cells' → AreCountedTo reach net (k + 1) cells'
    counted_channel lt cells' channel = record {
      some = omega arith;
      few = channel.few;
      ahead = ahead lt ∙ channel.ahead (rows_left reach net (k + 1));
    }

    pub past_channel : k < length net.net.rows → (refusal : RepeatRefusal)
        → ArePast cells (channel_below reach net k) refusal → IsPastLimit reach (placed_rows net) refusal
    past_channel lt (TooManyCells n) past = ahead lt ∙ past (rows_left reach net (k + 1))
    past_channel lt (TooTall rows) past = past
    past_channel lt Memory past = past

    pub counted_all : length net.net.rows ≤ k → cells_past 0 (repeated_rows reach (placed_rows net)) ≡ None
    counted_all le = counted.ahead ∙ ap (cells_past cells) (none_left reach net k known le)
