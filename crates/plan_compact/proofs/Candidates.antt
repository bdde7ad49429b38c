-- A chip that was found, from the search to what is taken.
use Rattle.std.proofs.Common.{◌≡◌, ◌≤◌, List, length, map, None, inl, inr, sym, ap, subst, ◌∙◌}
use Rattle.std.proofs.Common.{arith}
use Rattle.blif_read.specs.Parts.{NetView}
use Rattle.blif_read.specs.Equations.{IsAnswer as IsNetAnswer}
use Rattle.mig.specs.Graphs.{GraphView}
use Rattle.plan_compact.specs.Variants.{AreGraphsOf}
use Rattle.plan_compact.specs.Chips.{AnswersAsOneOf}
use Rattle.plan_compact.proofs.Chosen.{answers_as_all}
use Rattle.rowed.specs.PlacedNets.{PlacedRow, PlacedView, IsPlaced, placed_rows}
use Rattle.rowed.specs.Counts.{cells_in}
use Rattle.rowed.specs.Limits.{cell_limit}
use Rattle.rowed.specs.declared.row_cell.RowCell.{RowCell}
use Rattle.rowed.proofs.RowsAboveLaws.{placed_again}
use Rattle.repeater_rows.specs.Passes.{cells_past}
use Rattle.cell_library.specs.Library.{LibraryView}
use Rattle.plan_build.specs.Plans.{IsWithin, chip_of}
use Rattle.plan_build.specs.Laws.{AnswersAs}
use Rattle.plan_limits.specs.Drawable.{IsDrawable}
use Rattle.plan_compact.specs.Compact.{IsNoLarger, IsPlanned, IsCompactChip}
use Rattle.plan_compact.specs.Code.Candidates.{IsCandidate}

-- the placed net that was found answers as one of the graphs, and so as the netlist
pub searched_answers : (net : NetView) (graphs : List GraphView) (chip : PlacedView) → AreGraphsOf net graphs
    → AnswersAsOneOf graphs chip → AnswersAs net chip
searched_answers net graphs chip of_net one =
    answers_as_all net.inputs (length net.outputs) (IsNetAnswer net) graphs chip
    (λ k g at. (of_net.each k g at).same) one

pub ruleset searches = (searched_answers)

-- with its repeaters
pub is_candidate : (l : LibraryView) (net : NetView) (placed chip : PlacedView) → IsDrawable l net placed chip
    → IsCandidate l net chip
is_candidate l net placed chip drawable =
    record { draws = drawable.draws; answers = drawable.answers; few = drawable.few }

pub ruleset candidates = (is_candidate)

-- beside the chip of the plan

pub found_is_few : (l : LibraryView) (net : NetView) (chip : PlacedView) → IsCandidate l net chip
    → cells_in chip.net.rows ≤ cell_limit
found_is_few l net chip found = let few = found.few in omega (arith, few)

pub plan_is_few : (l : LibraryView) (net : NetView) (planned : PlacedView)
    → ((rows : List PlacedRow) → cells_past 0 rows ≡ None
    → cells_in (map (λ (row : PlacedRow). row.cells) rows) ≤ cell_limit)
    → IsPlaced planned → IsPlanned l net planned → cells_in planned.net.rows ≤ cell_limit
plan_is_few l net planned few placed plan =
    let past : cells_past 0 (placed_rows planned) ≡ None =
    ap (λ (p : PlacedView). cells_past 0 (placed_rows p)) plan.is ∙ plan.within.few_cells in
    subst (λ (rows : List (List RowCell)). cells_in rows ≤ cell_limit)
    (sym (ap (λ (p : PlacedView). p.net.rows) (placed_again planned placed))) (few (placed_rows planned) past)

pub found_is_smaller : (l : LibraryView) (net : NetView) (chip planned : PlacedView) → IsCandidate l net chip
    → IsPlanned l net planned → IsNoLarger chip planned → IsCompactChip l net chip
found_is_smaller l net chip planned found plan smaller = inr (record {
  few = found.few;
  no_larger = λ within. subst (IsNoLarger chip) plan.is smaller;
})

pub plan_is_compact : (l : LibraryView) (net : NetView) (planned : PlacedView) → IsPlanned l net planned
    → IsCompactChip l net planned
plan_is_compact l net planned plan = inl plan

pub is_planned : (l : LibraryView) (net : NetView) (chip : PlacedView) → chip ≡ chip_of l net → IsWithin l net
    → IsPlanned l net chip
is_planned l net chip is within = record { is = is; within = within }

-- where the plan is refused
pub found_alone : (l : LibraryView) (net : NetView) (chip : PlacedView) → IsCandidate l net chip
    → (IsWithin l net → ⊥) → IsCompactChip l net chip
found_alone l net chip found not_within =
    inr (record { few = found.few; no_larger = λ within. absurd (not_within within) })

pub ruleset chosen = (found_is_few, plan_is_few, found_is_smaller, plan_is_compact, is_planned)
