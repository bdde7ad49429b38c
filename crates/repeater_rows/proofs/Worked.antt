-- The repeaters of small nets, computed.
use Rattle.std.specs.Prelude.{◌≡◌, [], ◌∷◌, map, replicate, refl}
use Rattle.std.specs.List.{sum}
use Rattle.rowed.specs.PlacedNets.{placed_rows}
use Rattle.rowed.specs.Channels.{channel_links, channel_slots}
use Rattle.rowed.specs.MadeCells.{input_cell}
use Rattle.repeater_rows.specs.Destinations.{destinations, is_end}
use Rattle.repeater_rows.specs.Rounds.{all_rounds}
use Rattle.repeater_rows.specs.Repeaters.{carrier_slots, buffer_from, channel_rounds, repeated}
use Rattle.repeater_rows.specs.Examples.{from_cell, output, sizes, farthest_in, turned, one_wire, and_inputs, and_gate}
use Rattle.repeater_rows.specs.Examples.{and_net, four_wires}

pub turned_sizes : sizes (repeated turned 14) ≡ replicate 7 40
unfolding repeated turned
turned_sizes = refl

pub turned_cells : sum (sizes (repeated turned 14)) ≡ 280
unfolding repeated turned
turned_cells = refl

pub turned_before : farthest_in (placed_rows turned) ≡ 39
unfolding turned
turned_before = refl

pub turned_after : farthest_in (placed_rows (repeated turned 14)) ≡ 13
unfolding repeated turned
turned_after = refl

pub wire_within : repeated (one_wire 13) 14 ≡ one_wire 13
unfolding repeated one_wire
wire_within = refl

pub wire_past_rows : (repeated (one_wire 14) 14).net.rows
    ≡ (input_cell 0 ∷ []) ∷ (buffer_from (from_cell 0) ∷ []) ∷ (output 0 0 ∷ []) ∷ []
unfolding repeated one_wire
wire_past_rows = refl

pub wire_past_slots : (repeated (one_wire 14) 14).slots ≡ (0 ∷ []) ∷ (13 ∷ []) ∷ (14 ∷ []) ∷ []
unfolding repeated one_wire
wire_past_slots = refl

pub and_start : destinations (channel_links and_inputs and_gate) (channel_slots and_inputs and_gate) ≡ 2 ∷ 1 ∷ 0 ∷ []
and_start = refl

pub and_rounds : channel_rounds 2 and_inputs and_gate ≡ (1 ∷ 2 ∷ 0 ∷ []) ∷ (1 ∷ 0 ∷ 2 ∷ []) ∷ []
and_rounds = refl

pub and_sizes : sizes (repeated and_net 2) ≡ 3 ∷ 3 ∷ 3 ∷ 1 ∷ 1 ∷ []
unfolding repeated and_net
and_sizes = refl

pub and_within : repeated and_net 14 ≡ and_net
unfolding repeated and_net
and_within = refl

pub four_start : destinations four_wires 8 ≡ 7 ∷ 5 ∷ 1 ∷ 3 ∷ 4 ∷ 6 ∷ 0 ∷ 2 ∷ []
four_start = refl

pub four_rounds : all_rounds 4 (is_end four_wires) (destinations four_wires 8)
    ≡ (1 ∷ 3 ∷ 5 ∷ 7 ∷ 0 ∷ 2 ∷ 4 ∷ 6 ∷ []) ∷ (1 ∷ 3 ∷ 0 ∷ 2 ∷ 5 ∷ 7 ∷ 4 ∷ 6 ∷ []) ∷ []
four_rounds = refl

pub four_carried : map (carrier_slots (is_end four_wires) 0)
    (all_rounds 4 (is_end four_wires) (destinations four_wires 8))
    ≡ (2 ∷ 3 ∷ 4 ∷ 5 ∷ []) ∷ (2 ∷ 3 ∷ 4 ∷ 5 ∷ []) ∷ []
four_carried = refl
