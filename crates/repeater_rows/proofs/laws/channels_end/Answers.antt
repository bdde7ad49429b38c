use Rattle.std.proofs.Common.{ℕ, ◌+◌, ◌*◌, ◌≤◌, length, subst}
use Rattle.rowed.specs.PlacedNets.{row_of}
use Rattle.rowed.specs.Channels.{channel_links, channel_slots}
use Rattle.rowed.proofs.NeighbourLaws.{next_channel}
use Rattle.repeater_rows.specs.Destinations.{destinations, is_end}
use Rattle.repeater_rows.proofs.OrderLaws.{destinations_order, destinations_length}
use Rattle.repeater_rows.proofs.RoundsLaws.{all_rounds_end, all_rounds_few}
use Rattle.repeater_rows.specs.Rounds.{all_rounds}
use Rattle.repeater_rows.proofs.laws.channels_end.Goals as goal

pub returns : goal.returns
returns c = record {
  end = λ p reach k known two lt.
      let ws = channel_links (row_of p k) (row_of p (k + 1)) in
      let s = channel_slots (row_of p k) (row_of p (k + 1)) in
      all_rounds_end reach (is_end ws) (destinations ws s) two (destinations_order ws s (next_channel p known k lt));
  few = λ p reach k.
      let ws = channel_links (row_of p k) (row_of p (k + 1)) in
      let s = channel_slots (row_of p k) (row_of p (k + 1)) in
      subst (λ (n : ℕ). length (all_rounds reach (is_end ws) (destinations ws s)) ≤ n * n) (destinations_length ws s)
      (all_rounds_few reach (is_end ws) (destinations ws s));
}
