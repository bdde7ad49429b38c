-- Chips that are no circuit: cells, nets, rows and labels.
use Rattle.std.proofs.Common.{ℕ, List, [], ◌∷◌, ◌++◌, refl}
use Rattle.geom.specs.FirstChip.{first_flat}
use Rattle.layout_rules.specs.declared.rule.Rule.TheVariants.{E1, E3, E4, E6}
use Rattle.layout_rules.specs.FirstLimits.{first_limits}
use Rattle.layout_rules.specs.Rules.{FirstBroken}
use Rattle.layout_rules.proofs.Computed.{found_first}
use Rattle.layout_rules.proofs.JudgedCells.{cells_judged}
use Rattle.layout_rules.proofs.RuleLaws.{rules, KeepsBefore-first}
use Rattle.example_faulty_chips.specs.CircuitChips.{empty_chip, with_unknown_kind, without_input, with_stray_pin}
use Rattle.example_faulty_chips.specs.CircuitChips.{with_joined_outputs, with_joined_inputs, with_cut_wire}
use Rattle.example_faulty_chips.specs.CircuitChips.{with_labelled_wire, with_unlabelled_buffer, with_wire_within_a_row}
use Rattle.example_faulty_chips.specs.CircuitChips.{with_text, without_output_label, with_repeated_label}
use Rattle.example_faulty_chips.specs.GeometryChips.{with_buffer_at}
use Rattle.layout_rules.proofs.FirstWire.{first_nets, first_paths}
use Rattle.layout_rules.proofs.NetPaths.{nets_from}
use Rattle.layout_rules.proofs.ShortLines.{lines_kept}
use Rattle.layout_rules.proofs.Worked.{breaks}

pub no_chip : FirstBroken empty_chip first_limits E1 0 0
unfolding empty_chip
no_chip = record {
  report = found_first (cells_judged empty_chip.shapes) 0 0 refl;
  kept_before = KeepsBefore-first empty_chip first_limits;
}

pub unknown_kind : FirstBroken with_unknown_kind first_limits E1 0 0
unfolding with_unknown_kind first_flat
unknown_kind = record {
  report = found_first (cells_judged with_unknown_kind.shapes) 0 0 refl;
  kept_before = KeepsBefore-first with_unknown_kind first_limits;
}

pub missing_input : FirstBroken without_input first_limits E1 0 0
unfolding without_input first_flat
missing_input = record {
  report = found_first (cells_judged without_input.shapes) 0 0 refl;
  kept_before = KeepsBefore-first without_input first_limits;
}

pub stray_pin : FirstBroken with_stray_pin first_limits E1 15 15
unfolding with_stray_pin first_flat
stray_pin = record {
  report = found_first (cells_judged with_stray_pin.shapes) 15 15 refl;
  kept_before = KeepsBefore-first with_stray_pin first_limits;
}

abbrev joined_outputs_nets : List ℕ
joined_outputs_nets = 0 ∷ 1 ∷ 2 ∷ 3 ∷ 4 ∷ 2 ∷ 2 ∷ 2 ∷ 2 ∷ 2 ∷ 10 ∷ 2 ∷ 2 ∷ 13 ∷ 14 ∷ 2 ∷ []

abbrev joined_outputs_paths : List (List ℕ)
joined_outputs_paths =
    [] ∷ [] ∷ [] ∷ [] ∷ [] ∷ (2 ∷ []) ∷ (9 ∷ 7 ∷ 8 ∷ 5 ∷ 2 ∷ []) ∷ (8 ∷ 5 ∷ 2 ∷ []) ∷ (5 ∷ 2 ∷ [])
    ∷ (7 ∷ 8 ∷ 5 ∷ 2 ∷ []) ∷ [] ∷ (6 ∷ 9 ∷ 7 ∷ 8 ∷ 5 ∷ 2 ∷ []) ∷ (15 ∷ 2 ∷ []) ∷ [] ∷ [] ∷ (2 ∷ []) ∷ []

abbrev joined_inputs_nets : List ℕ
joined_inputs_nets = 0 ∷ 1 ∷ 1 ∷ 3 ∷ 4 ∷ 1 ∷ 1 ∷ 1 ∷ 1 ∷ 1 ∷ 10 ∷ 1 ∷ 12 ∷ 13 ∷ 14 ∷ 1 ∷ []

abbrev joined_inputs_paths : List (List ℕ)
joined_inputs_paths =
    [] ∷ [] ∷ (5 ∷ 8 ∷ 7 ∷ 9 ∷ 6 ∷ 15 ∷ 1 ∷ []) ∷ [] ∷ [] ∷ (8 ∷ 7 ∷ 9 ∷ 6 ∷ 15 ∷ 1 ∷ []) ∷ (15 ∷ 1 ∷ [])
    ∷ (9 ∷ 6 ∷ 15 ∷ 1 ∷ []) ∷ (7 ∷ 9 ∷ 6 ∷ 15 ∷ 1 ∷ []) ∷ (6 ∷ 15 ∷ 1 ∷ []) ∷ [] ∷ (15 ∷ 1 ∷ []) ∷ [] ∷ [] ∷ []
    ∷ (1 ∷ []) ∷ []

abbrev cut_wire_nets : List ℕ
cut_wire_nets = 0 ∷ 1 ∷ 2 ∷ 3 ∷ 4 ∷ 2 ∷ 6 ∷ 2 ∷ 6 ∷ 9 ∷ 6 ∷ 11 ∷ 12 ∷ 13 ∷ []

abbrev cut_wire_paths : List (List ℕ)
cut_wire_paths =
    [] ∷ [] ∷ [] ∷ [] ∷ [] ∷ (2 ∷ []) ∷ [] ∷ (5 ∷ 2 ∷ []) ∷ (6 ∷ []) ∷ [] ∷ (6 ∷ []) ∷ [] ∷ [] ∷ [] ∷ []

pub joined_outputs : FirstBroken with_joined_outputs first_limits E3 2 12
unfolding with_joined_outputs first_flat rules
joined_outputs = breaks _ _ _ (nets_from _ joined_outputs_nets joined_outputs_paths refl refl refl)
    (lines_kept _ 3 4 13 14 refl refl refl refl refl) E3 2 12 refl

pub joined_inputs : FirstBroken with_joined_inputs first_limits E3 1 11
unfolding with_joined_inputs first_flat rules
joined_inputs = breaks _ _ _ (nets_from _ joined_inputs_nets joined_inputs_paths refl refl refl)
    (lines_kept _ 3 4 13 14 refl refl refl refl refl) E3 1 11 refl

pub cut_wire : FirstBroken with_cut_wire first_limits E3 10 10
unfolding with_cut_wire first_flat rules
cut_wire = breaks _ _ _ (nets_from _ cut_wire_nets cut_wire_paths refl refl refl)
    (lines_kept _ 3 4 12 13 refl refl refl refl refl) E3 10 10 refl

pub labelled_wire : FirstBroken with_labelled_wire first_limits E3 11 2
unfolding with_labelled_wire first_flat rules
labelled_wire = breaks _ _ _ (nets_from _ first_nets first_paths refl refl refl)
    (lines_kept _ 3 4 13 14 refl refl refl refl refl) E3 11 2 refl

pub wire_within_a_row : FirstBroken with_wire_within_a_row first_limits E4 16 17
unfolding with_wire_within_a_row with_unlabelled_buffer with_buffer_at first_flat rules
wire_within_a_row = breaks _ _ _
    (nets_from _ (first_nets ++ (15 ∷ 16 ∷ 16 ∷ 16 ∷ [])) (first_paths ++ ([] ∷ [] ∷ (18 ∷ 16 ∷ []) ∷ (16 ∷ []) ∷ []))
    refl refl refl)
    (lines_kept _ 3 4 13 14 refl refl refl refl refl) E4 16 17 refl

pub bad_label : FirstBroken (with_text (73 ∷ 48 ∷ 48 ∷ [])) first_limits E6 15 15
unfolding with_text first_flat rules
bad_label = breaks _ _ _ (nets_from _ first_nets first_paths refl refl refl)
    (lines_kept _ 3 4 13 14 refl refl refl refl refl) E6 15 15 refl

pub bare_output : FirstBroken without_output_label first_limits E6 12 12
unfolding without_output_label first_flat rules
bare_output = breaks _ _ _ (nets_from _ first_nets first_paths refl refl refl)
    (lines_kept _ 3 4 13 14 refl refl refl refl refl) E6 12 12 refl

pub past_label : FirstBroken (with_text (73 ∷ 49 ∷ [])) first_limits E6 15 15
unfolding with_text first_flat rules
past_label = breaks _ _ _ (nets_from _ first_nets first_paths refl refl refl)
    (lines_kept _ 3 4 13 14 refl refl refl refl refl) E6 15 15 refl

pub repeated_label : FirstBroken with_repeated_label first_limits E6 20 20
unfolding with_repeated_label with_buffer_at first_flat rules
repeated_label = breaks _ _ _ (nets_from _ (first_nets ++ (15 ∷ 16 ∷ 17 ∷ [])) (first_paths ++ ([] ∷ [] ∷ [] ∷ []))
    refl refl refl)
    (lines_kept _ 3 4 13 14 refl refl refl refl refl) E6 20 20 refl
