-- The chip that is drawn of a netlist of cells.
use Rattle.std.proofs.Common.{ℕ, ◌≤◌, ◌<◌, ◌^◌, List, refl, sym, ap, subst, ◌∙◌, inl, inr, le_refl, arith}
use Rattle.std.specs.Prelude.{◌≢◌}
use Rattle.blif_read.specs.Parts.{NetView}
use Rattle.circuit.specs.SameAnswers.{SameAnswers}
use Rattle.rowed.specs.RowNets.{RowView, IsAnswer}
use Rattle.rowed.specs.PlacedNets.{PlacedView, IsPlaced, lagged}
use Rattle.repeater_rows.proofs.KeptLaws.{without_lag}
use Rattle.rowed.specs.Counts.{cells_in}
use Rattle.row_place.specs.Arranged.{IsArranged}
use Rattle.placement_check.specs.Wider.{IsWider}
use Rattle.plan_draw.specs.Packs.{pack}
use Rattle.cell_rows.proofs.Answered.{same_answers}
use Rattle.cell_library.specs.Library.{LibraryView}
use Rattle.cell_library.specs.Reach.{reach_of}
use Rattle.layout_make.specs.MayDraw.{MayDraw}
use Rattle.layout_make.specs.Size.{element_number}
use Rattle.rowed.specs.Limits.{element_limit}
use Rattle.plan_build.specs.Laws.{AnswersAs}
use Rattle.plan_build.proofs.SameThen.{same_then}
use Rattle.plan_limits.specs.Drawable.{IsDrawable}
use Rattle.plan_limits.specs.Delayed.{IsDelayed}
use Rattle.plan_draw.specs.CellPlans.{AreCellRows, chip_of_rows, KeepsSize, IsCellChip}
use Rattle.plan_draw.specs.DrawnChips.{IsDrawnChip}
use Rattle.plan_draw.specs.Refusals.{RefusesCells}
use Rattle.plan_draw.specs.declared.refusal.CellPlanRefusal.{CellPlanRefusal}
use Rattle.plan_draw.specs.declared.refusal.CellPlanRefusal.TheVariants.{Memory}
use Rattle.plan_draw.specs.Code.Found.{IsStanding, IsFoundChip}
use Rattle.plan_draw.proofs.Chips.{cells_may_draw, cells_answer}
use Rattle.plan_draw.proofs.OneChip.{one_rows, chip_or_refusal}

pub is_standing : (rows : RowView) (slots : List (List ℕ)) (placed : PlacedView) → IsArranged rows slots placed
    → IsStanding rows placed
is_standing rows slots placed arranged =
    record { keeps = arranged.keeps; same = arranged.same; stands = inr (inl (slots, arranged)) }

pub wider_stands : (rows : RowView) (placed : PlacedView) → IsPlaced placed
    → SameAnswers rows.inputs placed.net.inputs rows.outputs placed.net.outputs (IsAnswer rows) (IsAnswer placed.net)
    → IsWider rows placed.net → IsStanding rows placed
wider_stands rows placed keeps same wider = record { keeps = keeps; same = same; stands = inr (inr wider) }

pub ruleset standing = (is_standing, wider_stands)

-- cells that stand in the rows of a netlist of cells are a placed net that answers as the netlist
pub standing_keeps : (rows : RowView) (placed : PlacedView) → IsStanding rows placed → IsPlaced placed
standing_keeps rows placed stands = stands.keeps

pub standing_answers : (l : LibraryView) (net : NetView) (rows : RowView) (placed : PlacedView)
    → AreCellRows l net rows → IsStanding rows placed → AnswersAs net placed
standing_answers l net rows placed of_net stands =
    let cells : AnswersAs net (pack rows) =
    subst (AnswersAs net) (sym (ap pack of_net.rows_are.rows_are)) (same_answers of_net.rows_are.cells) in
    same_then _ _ _ _ _ _ _ _ _ cells stands.same

pub is_found : (l : LibraryView) (net : NetView) (rows : RowView) (placed chip : PlacedView)
    → AreCellRows l net rows → IsStanding rows placed → IsDrawable l net placed chip → IsFoundChip l net chip
is_found l net rows placed chip of_net stands drawable =
    record { rows = rows; of_net = of_net; placed = placed; stands = stands; drawable = drawable }

pub ruleset found = (standing_keeps, standing_answers, is_found)

-- neither chip has too many cells to be counted
few_elements_few : (chip : PlacedView) → element_number chip ≤ element_limit → cells_in chip.net.rows < 2 ^ 63
few_elements_few chip few = omega (arith, few)

pub found_few : (l : LibraryView) (net : NetView) (chip : PlacedView) → IsFoundChip l net chip
    → cells_in chip.net.rows < 2 ^ 63
found_few l net chip found = few_elements_few chip found.drawable.few

packed_elements : (l : LibraryView) (net : NetView) (chip : PlacedView) → IsCellChip l net chip
    → element_number chip ≤ element_limit
packed_elements l net chip is =
    subst (λ (p : PlacedView). element_number p ≤ element_limit) (sym is.is_chip) is.within.few_elements

pub packed_few : (l : LibraryView) (net : NetView) (chip : PlacedView) → IsCellChip l net chip
    → cells_in chip.net.rows < 2 ^ 63
packed_few l net chip is = few_elements_few chip (packed_elements l net chip is)

-- the packed chip
pub packed_is_drawn : (l : LibraryView) (net : NetView) (chip : PlacedView) → IsCellChip l net chip
    → IsDrawnChip l net chip
packed_is_drawn l net chip is = record {
  rows = is.rows;
  of_net = is.of_net;
  placed = pack is.rows;
  stands = inl refl;
  is_chip = ap (λ (p : PlacedView). lagged p 0) is.is_chip ∙ without_lag (pack is.rows) (reach_of l);
  few = packed_elements l net chip is;
  no_larger = λ within.
      subst (λ (p : PlacedView). cells_in chip.net.rows ≤ cells_in p.net.rows) is.is_chip
      (le_refl (cells_in chip.net.rows));
}

-- the chip that was found
found_is_drawn : (l : LibraryView) (net : NetView) (chip : PlacedView) → (found : IsFoundChip l net chip)
    → (KeepsSize l found.rows → cells_in chip.net.rows ≤ cells_in (chip_of_rows l found.rows).net.rows)
    → IsDrawnChip l net chip
found_is_drawn l net chip found no_larger = record {
  rows = found.rows;
  of_net = found.of_net;
  placed = found.placed;
  stands = found.stands.stands;
  is_chip = ap (λ (p : PlacedView). lagged p 0) found.drawable.is_chip
      ∙ without_lag found.placed (reach_of l);
  few = found.drawable.few;
  no_larger = no_larger;
}

-- it has no more cells than the packed one
pub found_is_smaller : (l : LibraryView) (net : NetView) (chip packed : PlacedView) → IsFoundChip l net chip
    → IsCellChip l net packed → cells_in chip.net.rows ≤ cells_in packed.net.rows → IsDrawnChip l net chip
found_is_smaller l net chip packed found is fewer =
    found_is_drawn l net chip found (λ within.
    subst (λ (p : PlacedView). cells_in chip.net.rows ≤ cells_in p.net.rows)
    (is.is_chip ∙ ap (chip_of_rows l) (one_rows l net is.rows found.rows is.of_net found.of_net)) fewer)

-- the packed one passes a limit
pub found_alone : (l : LibraryView) (net : NetView) (chip : PlacedView) (refusal : CellPlanRefusal)
    → IsFoundChip l net chip → refusal ≢ Memory → RefusesCells l net refusal → IsDrawnChip l net chip
found_alone l net chip refusal found other refuses =
    found_is_drawn l net chip found (λ within.
    absurd (chip_or_refusal l net refusal (chip_of_rows l found.rows) other refuses
    (record { rows = found.rows; of_net = found.of_net; is_chip = refl; within = within })))

pub found_draws : (l : LibraryView) (net : NetView) (chip : PlacedView) → IsFoundChip l net chip → MayDraw chip l
found_draws l net chip found = found.drawable.draws

pub found_answers : (l : LibraryView) (net : NetView) (chip : PlacedView) → IsFoundChip l net chip
    → AnswersAs net chip
found_answers l net chip found = found.drawable.answers

-- with its odd rows delayed
few_still : (chip out : PlacedView) → IsDelayed chip out → element_number chip ≤ element_limit
    → element_number out ≤ element_limit
few_still chip out delayed few = elim delayed.few [
  | inl same ↦ subst (λ (p : PlacedView). element_number p ≤ element_limit) (sym same) few
  | inr then ↦ then
]

pub still_drawn : (l : LibraryView) (net : NetView) (chip out : PlacedView) → IsDelayed chip out
    → IsDrawnChip l net chip → IsDrawnChip l net out
still_drawn l net chip out delayed is = record {
  rows = is.rows;
  of_net = is.of_net;
  placed = is.placed;
  stands = is.stands;
  is_chip = ap (λ (p : PlacedView). lagged p 0) delayed.is ∙ is.is_chip;
  few = few_still chip out delayed is.few;
  no_larger = λ keeps. omega (
    arith,
    ap (λ (p : PlacedView). cells_in p.net.rows) delayed.is,
    is.no_larger keeps,
  );
}

pub still_answers : (net : NetView) (chip out : PlacedView) → IsDelayed chip out → AnswersAs net chip
    → AnswersAs net out
still_answers net chip out delayed answers = subst (AnswersAs net) (sym delayed.is) answers

pub ruleset delays = (still_drawn, still_answers)

pub ruleset chosen = (
  found_few,
  packed_few,
  packed_is_drawn,
  found_is_smaller,
  found_alone,
  found_draws,
  found_answers,
  cells_may_draw,
  cells_answer,
)
