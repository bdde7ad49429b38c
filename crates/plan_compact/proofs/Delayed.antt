-- A chip with its odd rows delayed answers as before, and is no larger.
use Rattle.std.proofs.Common.{◌≡◌, ◌≤◌, inl, inr, ap, sym, subst, arith}
use Rattle.blif_read.specs.Parts.{NetView}
use Rattle.rowed.specs.Counts.{cells_in}
use Rattle.rowed.specs.PlacedNets.{PlacedView, lagged}
use Rattle.cell_library.specs.Library.{LibraryView}
use Rattle.layout_make.specs.Size.{element_number}
use Rattle.rowed.specs.Limits.{element_limit}
use Rattle.plan_build.specs.Plans.{IsWithin, chip_of}
use Rattle.plan_build.specs.Laws.{AnswersAs}
use Rattle.plan_limits.specs.Delayed.{IsDelayed}
use Rattle.plan_compact.specs.Compact.{IsNoLarger, IsPlanned, IsFound, IsCompactChip}
use Rattle.plan_compact.specs.Junctions.{junctions_in}

same_size : (chip out other : PlacedView) → IsDelayed chip out → IsNoLarger chip other → IsNoLarger out other
same_size chip out other delayed size = subst (λ (p : PlacedView). IsNoLarger p other) (sym delayed.is)
    (record { cells = size.cells; junctions = size.junctions })

plan_size : (l : LibraryView) (net : NetView) (chip : PlacedView) → IsPlanned l net chip
    → IsNoLarger chip (chip_of l net)
plan_size l net chip planned = record {
  cells = omega (arith, ap (λ (p : PlacedView). cells_in p.net.rows) planned.is);
  junctions = omega (arith, ap (λ (p : PlacedView). junctions_in p.net.rows) planned.is);
}

few_then : (l : LibraryView) (net : NetView) (chip out : PlacedView) → IsDelayed chip out
    → element_number out ≤ element_limit → IsCompactChip l net chip → IsCompactChip l net out
few_then l net chip out delayed few (inl planned) =
    inr (record {
      few = few;
      no_larger = λ within. same_size chip out (chip_of l net) delayed
          (plan_size l net chip planned);
    })
few_then l net chip out delayed few (inr found) =
    inr (record {
      few = few;
      no_larger = λ within. same_size chip out (chip_of l net) delayed
          (found.no_larger within);
    })

pub still_compact : (l : LibraryView) (net : NetView) (chip out : PlacedView) → IsDelayed chip out
    → IsCompactChip l net chip → IsCompactChip l net out
still_compact l net chip out delayed compact = elim delayed.few [
  | inl same ↦ subst (IsCompactChip l net) (sym same) compact
  | inr few ↦ few_then l net chip out delayed few compact
]

pub still_answers : (net : NetView) (chip out : PlacedView) → IsDelayed chip out → AnswersAs net chip
    → AnswersAs net out
still_answers net chip out delayed answers = subst (AnswersAs net) (sym delayed.is) answers

pub ruleset delays = (still_compact, still_answers)
