-- Each netlist keeps the limits of its plan, or has a refusal: its numbers are tested one after the other.
use Rattle.std.specs.Prelude.{◌≡◌, ℕ, ◌*◌, ◌<◌, ◌≤◌, ◌⊎◌, Option, Some, None, length}
use Rattle.std.proofs.Common.{refl, inl, inr}
use Rattle.std.proofs.lemmas.Bool.{cases_lt}
use Rattle.blif_read.specs.Parts.{NetView}
use Rattle.rowed.specs.PlacedNets.{placed_rows}
use Rattle.level_balance.specs.Counts.{capped}
use Rattle.rowed.specs.Limits.{KeepsWidth, PassesWidth, width_limit, height_limit}
use Rattle.repeater_rows.specs.Passes.{cells_past}
use Rattle.cell_library.specs.Library.{LibraryView}
use Rattle.cell_library.specs.Reach.{slot_width_of}
use Rattle.plan_build.specs.Plans.{IsWithin, chip_of, cells_before, span_before, rows_height}
use Rattle.plan_build.specs.Laws.{IsRefused}
use Rattle.plan_build.specs.declared.refusal.PlanRefusal.TheVariants.{Slots, Rows, Cells}

module _ (l : LibraryView) (net : NetView) where
  abbrev IsDecided : Type 0
  IsDecided = IsWithin l net ⊎ IsRefused l net

  by_height : cells_before l net ≤ 2000000 → KeepsWidth (span_before l net) (slot_width_of l)
      → cells_past 0 (placed_rows (chip_of l net)) ≡ None
      → (height_limit < rows_height l (length (chip_of l net).net.rows))
      ⊎ (rows_height l (length (chip_of l net).net.rows) ≤ height_limit)
      → IsDecided
  by_height before narrow few (inl high) = inr (record {
    refusal = Rows (length (chip_of l net).net.rows);
    of_limit = λ e. absurd cc;
    refuses = (before, narrow, few, high, refl);
  })
  by_height before narrow few (inr low) =
      inl (record { few_before = before; narrow = narrow; few_cells = few; low = low })

  by_cells : cells_before l net ≤ 2000000 → KeepsWidth (span_before l net) (slot_width_of l)
      → (past : Option ℕ) → cells_past 0 (placed_rows (chip_of l net)) ≡ past → IsDecided
  by_cells before narrow None few =
      by_height before narrow few (cases_lt height_limit (rows_height l (length (chip_of l net).net.rows)))
  by_cells before narrow (Some cells) many = inr (record {
    refusal = Cells cells;
    of_limit = λ e. absurd cc;
    refuses = inr (before, narrow, many);
  })

  by_width : cells_before l net ≤ 2000000
      → PassesWidth (span_before l net) (slot_width_of l) ⊎ KeepsWidth (span_before l net) (slot_width_of l) → IsDecided
  by_width before (inl wide) = inr (record {
    refusal = Slots (span_before l net);
    of_limit = λ e. absurd cc;
    refuses = (before, wide, refl);
  })
  by_width before (inr narrow) = by_cells before narrow (cells_past 0 (placed_rows (chip_of l net))) refl

  by_count : (2000000 < cells_before l net) ⊎ (cells_before l net ≤ 2000000) → IsDecided
  by_count (inl many) = inr (record {
    refusal = Cells (capped (cells_before l net));
    of_limit = λ e. absurd cc;
    refuses = inl (many, refl);
  })
  by_count (inr few) = by_width few (cases_lt width_limit (span_before l net * slot_width_of l))

  pub decided : IsDecided
  decided = by_count (cases_lt 2000000 (cells_before l net))
