-- Chips whose rows are not excited: how their lines are laid out is computed, and what comes after that is told.
use Rattle.std.proofs.Common.{◌≡◌, ℕ, Some, None, refl}
use Rattle.geom.specs.FirstChip.{first_flat}
use Rattle.geom.specs.declared.shapes.Flat.{Flat}
use Rattle.layout_rules.specs.declared.rule.Rule.TheVariants.{E1, E2}
use Rattle.layout_rules.specs.FirstLimits.{first_limits}
use Rattle.layout_rules.specs.FaultyChips.{without_starts}
use Rattle.layout_rules.specs.Reports.{IsFirstReport}
use Rattle.layout_rules.specs.Rules.{FirstBroken}
use Rattle.layout_rules.specs.ExcitationRule.{ExcitationBroken}
use Rattle.layout_rules.proofs.RuleLaws.{KeepsBefore-first, KeepsBefore-next}
use Rattle.layout_rules.proofs.Computed.{found, found_none, found_first}
use Rattle.layout_rules.proofs.JudgedCells.{cells_judged}
use Rattle.layout_rules.proofs.JudgedLines.{chains_judged}
use Rattle.layout_rules.proofs.LinesAgree.{excitation_first}
use Rattle.layout_rules.proofs.Lines.{first_uncrossed, first_unexcited}
use Rattle.layout_rules.proofs.ShortLines.{are_lines}
use Rattle.example_faulty_chips.specs.LineChips.{with_unknown_part, with_bars_on_one_layer, with_second_start}
use Rattle.example_faulty_chips.specs.LineChips.{with_short_start, with_start_below, with_short_bar, with_start_at_right}

-- the cells are well, and a shape is what the lines break first
pub lines_broken : (flat : Flat) (n : ℕ) → found (cells_judged flat.shapes) ≡ None
    → IsFirstReport (ExcitationBroken flat.shapes) n n → FirstBroken flat first_limits E2 n n
lines_broken flat n cells report = record {
  report = report;
  kept_before = KeepsBefore-next flat first_limits E1 E2 refl (KeepsBefore-first flat first_limits)
      (found_none (cells_judged flat.shapes) cells);
}

-- what is computed of how they are laid out is broken first
layout_broken : (flat : Flat) (n : ℕ) → found (cells_judged flat.shapes) ≡ None
    → found (chains_judged flat.shapes) ≡ Some (n, n) → FirstBroken flat first_limits E2 n n
layout_broken flat n cells chains = lines_broken flat n cells (excitation_first flat.shapes n n
    (found_first (chains_judged flat.shapes) n n chains))

pub unknown_part : FirstBroken with_unknown_part first_limits E2 4 4
unfolding with_unknown_part first_flat
unknown_part = layout_broken with_unknown_part 4 refl refl

pub no_start : FirstBroken with_bars_on_one_layer first_limits E2 3 3
unfolding with_bars_on_one_layer without_starts first_flat
no_start = layout_broken with_bars_on_one_layer 3 refl refl

pub two_starts : FirstBroken with_second_start first_limits E2 3 3
unfolding with_second_start first_flat
two_starts = layout_broken with_second_start 3 refl refl

pub short_start : FirstBroken with_short_start first_limits E2 3 3
unfolding with_short_start first_flat
short_start = layout_broken with_short_start 3 refl refl

pub start_below : FirstBroken with_start_below first_limits E2 4 4
unfolding with_start_below first_flat
start_below = lines_broken with_start_below 4 refl (first_uncrossed with_start_below.shapes 3 4 13 14
    (are_lines with_start_below.shapes 3 4 13 14 _ _ _ _ refl refl refl refl refl) refl refl)

pub short_bar : FirstBroken with_short_bar first_limits E2 10 10
unfolding with_short_bar first_flat
short_bar = lines_broken with_short_bar 10 refl (first_unexcited with_short_bar.shapes 3 4 13 14
    (are_lines with_short_bar.shapes 3 4 13 14 _ _ _ _ refl refl refl refl refl) refl refl
    10 _ refl refl refl refl refl)

pub start_at_right : FirstBroken with_start_at_right first_limits E2 0 0
unfolding with_start_at_right first_flat
start_at_right = lines_broken with_start_at_right 0 refl (first_unexcited with_start_at_right.shapes 3 4 13 14
    (are_lines with_start_at_right.shapes 3 4 13 14 _ _ _ _ refl refl refl refl refl) refl refl
    0 _ refl refl refl refl refl)
