-- The chip of rows keeps the limits or passes one: its numbers are tested one after the other.
use Rattle.std.proofs.Common.{◌≡◌, ℕ, ◌*◌, ◌<◌, ◌≤◌, Option, Some, None, length, refl, sym, ap, subst}
use Rattle.std.proofs.Common.{◌∙◌, arith, inl, inr}
use Rattle.std.specs.Prelude.{◌⊎◌}
use Rattle.std.proofs.lemmas.Bool.{cases_lt}
use Rattle.std.proofs.lemmas.Option.{none-some, same_Some}
use Rattle.rowed.specs.RowNets.{RowView}
use Rattle.rowed.specs.PlacedNets.{placed_rows}
use Rattle.rowed.specs.Extent.{widest_packed}
use Rattle.rowed.specs.Limits.{KeepsWidth, PassesWidth, width_limit, height_limit, element_limit}
use Rattle.repeater_rows.specs.Passes.{cells_past}
use Rattle.cell_library.specs.Library.{LibraryView}
use Rattle.cell_library.specs.Reach.{slot_width_of}
use Rattle.layout_make.specs.Size.{element_number}
use Rattle.plan_build.specs.Plans.{rows_height}
use Rattle.plan_draw.specs.CellPlans.{chip_of_rows, KeepsSize}
use Rattle.plan_draw.specs.Refusals.{PassesSize}
use Rattle.plan_draw.specs.declared.refusal.CellPlanRefusal.{CellPlanRefusal}
use Rattle.plan_draw.specs.declared.refusal.CellPlanRefusal.TheVariants.{NotCells, Slots, Cells, Rows, Elements, Memory}

module _ (l : LibraryView) (rows : RowView) where
  abbrev IsDecided : Type 0
  IsDecided = KeepsSize l rows ⊎ ((refusal : CellPlanRefusal) × PassesSize l rows refusal)

  by_elements : KeepsWidth (widest_packed rows.rows) (slot_width_of l)
      → cells_past 0 (placed_rows (chip_of_rows l rows)) ≡ None
      → rows_height l (length (chip_of_rows l rows).net.rows) ≤ height_limit
      → (element_limit < element_number (chip_of_rows l rows)) ⊎ (element_number (chip_of_rows l rows) ≤ element_limit)
      → IsDecided
  by_elements narrow few low (inl many) =
      inr (Elements (element_number (chip_of_rows l rows)), (narrow, few, low, many, refl))
  by_elements narrow few low (inr fit) =
      inl (record { narrow = narrow; few_cells = few; low = low; few_elements = fit })

  by_height : KeepsWidth (widest_packed rows.rows) (slot_width_of l)
      → cells_past 0 (placed_rows (chip_of_rows l rows)) ≡ None
      → (height_limit < rows_height l (length (chip_of_rows l rows).net.rows))
      ⊎ (rows_height l (length (chip_of_rows l rows).net.rows) ≤ height_limit)
      → IsDecided
  by_height narrow few (inl high) = inr (Rows (length (chip_of_rows l rows).net.rows), (narrow, few, high, refl))
  by_height narrow few (inr low) =
      by_elements narrow few low (cases_lt element_limit (element_number (chip_of_rows l rows)))

  by_cells : KeepsWidth (widest_packed rows.rows) (slot_width_of l) → (past : Option ℕ)
      → cells_past 0 (placed_rows (chip_of_rows l rows)) ≡ past → IsDecided
  by_cells narrow None few =
      by_height narrow few (cases_lt height_limit (rows_height l (length (chip_of_rows l rows).net.rows)))
  by_cells narrow (Some cells) many = inr (Cells cells, (narrow, many))

  by_width : PassesWidth (widest_packed rows.rows) (slot_width_of l)
      ⊎ KeepsWidth (widest_packed rows.rows) (slot_width_of l) → IsDecided
  by_width (inl wide) = inr (Slots (widest_packed rows.rows), (wide, refl))
  by_width (inr narrow) = by_cells narrow (cells_past 0 (placed_rows (chip_of_rows l rows))) refl

  pub decided : IsDecided
  decided = by_width (cases_lt width_limit (widest_packed rows.rows * slot_width_of l))

pub past_size : (l : LibraryView) (rows : RowView) (refusal : CellPlanRefusal) → PassesSize l rows refusal
    → KeepsSize l rows → ⊥
past_size l rows (Slots span) passes keeps = omega (arith, passes.0, keeps.narrow)
past_size l rows (Cells cells) passes keeps = none-some cells (sym keeps.few_cells ∙ passes.1)
past_size l rows (Rows count) passes keeps =
    omega (arith, passes.2, subst (λ (n : ℕ). rows_height l n ≤ height_limit) (sym passes.3) keeps.low)
past_size l rows (Elements count) passes keeps = omega (arith, passes.3, passes.4, keeps.few_elements)
past_size l rows (NotCells line kind) passes keeps = passes
past_size l rows Memory passes keeps = passes

-- rows that pass a limit pass one first
module _ (l : LibraryView) (rows : RowView) where
  one_slots : (span : ℕ) (other : CellPlanRefusal) → PassesSize l rows (Slots span) → PassesSize l rows other
      → Slots span ≡ other
  one_slots span (Slots other) r s = ap Slots (r.1 ∙ sym s.1)
  one_slots span (Cells cells) r s = absurd (omega (arith, r.0, s.0))
  one_slots span (Rows count) r s = absurd (omega (arith, r.0, s.0))
  one_slots span (Elements count) r s = absurd (omega (arith, r.0, s.0))
  one_slots span (NotCells line kind) r s = absurd s
  one_slots span Memory r s = absurd s

  one_cells : (cells : ℕ) (other : CellPlanRefusal) → PassesSize l rows (Cells cells) → PassesSize l rows other
      → Cells cells ≡ other
  one_cells cells (Slots span) r s = sym (one_slots span (Cells cells) s r)
  one_cells cells (Cells other) r s = ap Cells (same_Some cells other (sym r.1 ∙ s.1))
  one_cells cells (Rows count) r s = absurd (none-some cells (sym s.1 ∙ r.1))
  one_cells cells (Elements count) r s = absurd (none-some cells (sym s.1 ∙ r.1))
  one_cells cells (NotCells line kind) r s = absurd s
  one_cells cells Memory r s = absurd s

  one_rows : (count : ℕ) (other : CellPlanRefusal) → PassesSize l rows (Rows count) → PassesSize l rows other
      → Rows count ≡ other
  one_rows count (Slots span) r s = sym (one_slots span (Rows count) s r)
  one_rows count (Cells cells) r s = sym (one_cells cells (Rows count) s r)
  one_rows count (Rows other) r s = ap Rows (r.3 ∙ sym s.3)
  one_rows count (Elements other) r s =
      absurd (omega (arith, r.2, subst (λ (n : ℕ). rows_height l n ≤ height_limit) (sym r.3) s.2))
  one_rows count (NotCells line kind) r s = absurd s
  one_rows count Memory r s = absurd s

  one_elements : (count : ℕ) (other : CellPlanRefusal) → PassesSize l rows (Elements count)
      → PassesSize l rows other → Elements count ≡ other
  one_elements count (Slots span) r s = sym (one_slots span (Elements count) s r)
  one_elements count (Cells cells) r s = sym (one_cells cells (Elements count) s r)
  one_elements count (Rows other) r s = sym (one_rows other (Elements count) s r)
  one_elements count (Elements other) r s = ap Elements (r.4 ∙ sym s.4)
  one_elements count (NotCells line kind) r s = absurd s
  one_elements count Memory r s = absurd s

  pub one_size : (one other : CellPlanRefusal) → PassesSize l rows one → PassesSize l rows other → one ≡ other
  one_size (Slots span) other r s = one_slots span other r s
  one_size (Cells cells) other r s = one_cells cells other r s
  one_size (Rows count) other r s = one_rows count other r s
  one_size (Elements count) other r s = one_elements count other r s
  one_size (NotCells line kind) other r s = absurd r
  one_size Memory other r s = absurd r
