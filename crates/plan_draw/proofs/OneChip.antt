-- A netlist has one chip of its own cells or one refusal, never both.
use Rattle.std.proofs.Common.{◌≡◌, ℕ, refl, sym, ap, subst, ◌∙◌}
use Rattle.std.specs.Prelude.{◌≢◌}
use Rattle.blif_read.specs.Parts.{NetView}
use Rattle.rowed.specs.RowNets.{RowView}
use Rattle.rowed.specs.PlacedNets.{PlacedView}
use Rattle.cell_netlist.specs.Told.{HasFirstFault}
use Rattle.cell_netlist.specs.declared.fault.CellFault.{CellFault}
use Rattle.cell_netlist.proofs.OneFault.{first_fault_one, cells_no_fault}
use Rattle.cell_library.specs.Library.{LibraryView}
use Rattle.plan_build.specs.Plans.{three_of}
use Rattle.plan_draw.specs.CellPlans.{AreCellRows, chip_of_rows, IsCellChip}
use Rattle.plan_draw.specs.Refusals.{PassesSize, IsTooMuch, RefusesCells}
use Rattle.plan_draw.specs.declared.refusal.CellPlanRefusal.{CellPlanRefusal}
use Rattle.plan_draw.specs.declared.refusal.CellPlanRefusal.TheVariants.{NotCells, Slots, Cells, Rows, Elements, Memory}
use Rattle.plan_draw.proofs.OneNet.{one_net, cells_of}
use Rattle.plan_draw.proofs.Sizes.{past_size, one_size}

module _ (l : LibraryView) (net : NetView) where
  pub one_rows : (rows others : RowView) → AreCellRows l net rows → AreCellRows l net others → rows ≡ others
  one_rows rows others a b =
      one_net net (three_of l) a.levels b.levels a.last b.last rows others a.rows_are b.rows_are

  pub one_chip : (chip other : PlacedView) → IsCellChip l net chip → IsCellChip l net other → chip ≡ other
  one_chip chip other a b =
      a.is_chip ∙ ap (chip_of_rows l) (one_rows a.rows b.rows a.of_net b.of_net) ∙ sym b.is_chip

  -- the cases of a refusal for which memory is not to blame
  data Case (refusal : CellPlanRefusal) : Type 0 where
    not_cells : (line : ℕ) (kind : CellFault) → refusal ≡ NotCells line kind
        → HasFirstFault net (three_of l) line kind → Case refusal
    too_much : IsTooMuch l net refusal → Case refusal

  case_of : (refusal : CellPlanRefusal) → refusal ≢ Memory → RefusesCells l net refusal → Case refusal
  case_of (NotCells line kind) other fault = not_cells line kind refl fault
  case_of (Slots span) other much = too_much much
  case_of (Cells count) other much = too_much much
  case_of (Rows count) other much = too_much much
  case_of (Elements count) other much = too_much much
  case_of Memory other none = absurd (other refl)

  -- a netlist of cells has no fault
  no_fault : (rows : RowView) → AreCellRows l net rows → (line : ℕ) (kind : CellFault)
      → HasFirstFault net (three_of l) line kind → ⊥
  no_fault rows a line kind fault =
      cells_no_fault net (three_of l) a.levels a.last line kind (cells_of a.rows_are) fault

  not_both : (refusal : CellPlanRefusal) (chip : PlacedView) → Case refusal → IsCellChip l net chip → ⊥
  not_both refusal chip (not_cells line kind e fault) is = no_fault is.rows is.of_net line kind fault
  not_both refusal chip (too_much much) is =
      past_size l is.rows refusal
      (subst (λ (rows : RowView). PassesSize l rows refusal) (one_rows much.rows is.rows much.of_net is.of_net)
      much.passes)
      is.within

  pub chip_or_refusal : (refusal : CellPlanRefusal) (chip : PlacedView) → refusal ≢ Memory
      → RefusesCells l net refusal → IsCellChip l net chip → ⊥
  chip_or_refusal refusal chip other refuses is = not_both refusal chip (case_of refusal other refuses) is

  one_case : (one other : CellPlanRefusal) → Case one → Case other → one ≡ other
  one_case one other (not_cells m j e p) (not_cells n k f q) =
      let same = first_fault_one net (three_of l) m n j k p q in
      e ∙ ap (λ (line : ℕ). NotCells line j) same.0 ∙ ap (λ (kind : CellFault). NotCells n kind) same.1 ∙ sym f
  one_case one other (not_cells m j e p) (too_much q) = absurd (no_fault q.rows q.of_net m j p)
  one_case one other (too_much p) (not_cells n k f q) = absurd (no_fault p.rows p.of_net n k q)
  one_case one other (too_much p) (too_much q) =
      one_size l q.rows one other
      (subst (λ (rows : RowView). PassesSize l rows one) (one_rows p.rows q.rows p.of_net q.of_net) p.passes) q.passes

  pub one_refusal : (one other : CellPlanRefusal) → one ≢ Memory → other ≢ Memory → RefusesCells l net one
      → RefusesCells l net other → one ≡ other
  one_refusal one other some some' a b = one_case one other (case_of one some a) (case_of other some' b)
