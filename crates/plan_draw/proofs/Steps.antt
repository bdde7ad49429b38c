-- What each step gives and what it refuses, in the words of the plan.
use Rattle.std.proofs.Common.{◌≡◌, ℕ, ◌<◌, ◌≤◌, length, None, sym, ap, subst, ◌∙◌, inl, inr}
use Rattle.std.specs.Prelude.{◌⊎◌}
use Rattle.blif_read.specs.Parts.{NetView}
use Rattle.rowed.specs.PlacedNets.{PlacedView, placed_rows}
use Rattle.rowed.specs.Counts.{cells_in}
use Rattle.rowed.specs.Limits.{cell_limit, height_limit, element_limit}
use Rattle.repeater_rows.specs.Repeaters.{repeated, repeated_rows}
use Rattle.repeater_rows.specs.Passes.{AreRepeated, IsTooLarge, cells_past}
use Rattle.repeater_rows.specs.declared.pass.RepeatRefusal.{RepeatRefusal}
use Rattle.repeater_rows.specs.declared.pass.RepeatRefusal.TheVariants as repeats
use Rattle.cell_library.specs.Library.{LibraryView}
use Rattle.cell_library.specs.Reach.{reach_of}
use Rattle.layout_make.specs.Size.{element_number}
use Rattle.plan_build.specs.Plans.{channel_of, rows_height}
use Rattle.plan_draw.specs.CellPlans.{chip_of_rows, IsCellChip}
use Rattle.plan_draw.specs.Refusals.{of_repeats, RefusesCells}
use Rattle.plan_draw.specs.Code.Steps.{IsPackedCells, IsShortCells}
use Rattle.plan_draw.specs.declared.refusal.CellPlanRefusal.TheVariants.{Elements}
use Rattle.plan_draw.proofs.Chips.{same_placed, same_height}

module _ (l : LibraryView) (net : NetView) where
  -- repeaters, with the library's numbers
  abbrev IsRaised : PlacedView → PlacedView → Type 0
  IsRaised placed chip = AreRepeated placed (reach_of l) l.height (channel_of l) chip

  raised_chip : (placed : PlacedView) → IsPackedCells l net placed
      → repeated placed (reach_of l) ≡ chip_of_rows l placed.net
  raised_chip placed packed = ap (λ (p : PlacedView). repeated p (reach_of l)) packed.is_packed.is_packed

  raised_rows : (placed : PlacedView) → IsPackedCells l net placed
      → repeated_rows (reach_of l) (placed_rows placed) ≡ placed_rows (chip_of_rows l placed.net)
  raised_rows placed packed =
      ap (λ (p : PlacedView). repeated_rows (reach_of l) (placed_rows p)) packed.is_packed.is_packed
      ∙ sym (same_placed l placed.net)

  short_is : (placed chip : PlacedView) → IsPackedCells l net placed → cells_in chip.net.rows ≤ cell_limit
      → IsRaised placed chip → IsShortCells l net chip
  short_is placed chip packed few is = record {
    rows = placed.net;
    of_net = packed.of_net;
    is_chip = is.is_plan ∙ raised_chip placed packed;
    narrow = packed.is_packed.within;
    few_cells = is.few_cells;
    few = few;
    low = is.not_tall;
  }

  pub short_given : (placed chip : PlacedView) (reach height channel : ℕ) → reach ≡ reach_of l → height ≡ l.height
      → channel ≡ channel_of l → IsPackedCells l net placed
      → ((p out : PlacedView) (reach height channel : ℕ) → AreRepeated p reach height channel out
      → cells_in out.net.rows ≤ cell_limit)
      → AreRepeated placed reach height channel chip → IsShortCells l net chip
  short_given placed chip reach height channel r h c packed few is =
      short_is placed chip packed (few placed chip reach height channel is)
      (subst (λ (n : ℕ). AreRepeated placed (reach_of l) l.height n chip) c
      (subst (λ (n : ℕ). AreRepeated placed (reach_of l) n channel chip) h
      (subst (λ (n : ℕ). AreRepeated placed n height channel chip) r is)))

  past_met : (placed : PlacedView) (r : RepeatRefusal) → IsPackedCells l net placed
      → (r ≡ repeats.Memory) ⊎ IsTooLarge placed (reach_of l) l.height (channel_of l) r
      → RefusesCells l net (of_repeats r)
  past_met placed repeats.Memory packed met = tt
  past_met placed (repeats.TooManyCells count) packed (inl e) = absurd cc
  past_met placed (repeats.TooManyCells count) packed (inr met) = record {
    rows = placed.net;
    of_net = packed.of_net;
    passes = (packed.is_packed.within, sym (ap (cells_past 0) (raised_rows placed packed)) ∙ met);
  }
  past_met placed (repeats.TooTall count) packed (inl e) = absurd cc
  past_met placed (repeats.TooTall count) packed (inr met) = record {
    rows = placed.net;
    of_net = packed.of_net;
    passes = (
      packed.is_packed.within,
      sym (ap (cells_past 0) (raised_rows placed packed)) ∙ met.0,
      met.1,
      met.2 ∙ ap (λ (p : PlacedView). length (repeated_rows (reach_of l) (placed_rows p))) packed.is_packed.is_packed
          ∙ sym (same_height l placed.net),
    );
  }

  pub past_refused : (placed : PlacedView) (r : RepeatRefusal) (reach height channel : ℕ) → reach ≡ reach_of l
      → height ≡ l.height → channel ≡ channel_of l → IsPackedCells l net placed
      → (r ≡ repeats.Memory) ⊎ IsTooLarge placed reach height channel r → RefusesCells l net (of_repeats r)
  past_refused placed r reach height channel a h c packed met =
      past_met placed r packed
      (subst (λ (n : ℕ). (r ≡ repeats.Memory) ⊎ IsTooLarge placed (reach_of l) l.height n r) c
      (subst (λ (n : ℕ). (r ≡ repeats.Memory) ⊎ IsTooLarge placed (reach_of l) n channel r) h
      (subst (λ (n : ℕ). (r ≡ repeats.Memory) ⊎ IsTooLarge placed n height channel r) a met)))

  -- elements
  past_is : (chip : PlacedView) → (short : IsShortCells l net chip)
      → cells_past 0 (placed_rows (chip_of_rows l short.rows)) ≡ None
  past_is chip short = ap (λ (p : PlacedView). cells_past 0 (placed_rows p)) (sym short.is_chip) ∙ short.few_cells

  low_is : (chip : PlacedView) → (short : IsShortCells l net chip)
      → rows_height l (length (chip_of_rows l short.rows).net.rows) ≤ height_limit
  low_is chip short =
      subst (λ (p : PlacedView). rows_height l (length p.net.rows) ≤ height_limit) short.is_chip short.low

  pub chip_is : (chip : PlacedView) → IsShortCells l net chip → element_number chip ≤ element_limit
      → IsCellChip l net chip
  chip_is chip short few = record {
    rows = short.rows;
    of_net = short.of_net;
    is_chip = short.is_chip;
    within = record {
      narrow = short.narrow;
      few_cells = past_is chip short;
      low = low_is chip short;
      few_elements = subst (λ (p : PlacedView). element_number p ≤ element_limit) short.is_chip few;
    };
  }

  pub many_elements : (chip : PlacedView) → IsShortCells l net chip → element_limit < element_number chip
      → RefusesCells l net (Elements (element_number chip))
  many_elements chip short many = record {
    rows = short.rows;
    of_net = short.of_net;
    passes = (
      short.narrow,
      past_is chip short,
      low_is chip short,
      many,
      ap (λ (p : PlacedView). element_number p) short.is_chip,
    );
  }

pub ruleset counted = (chip_is, many_elements)
