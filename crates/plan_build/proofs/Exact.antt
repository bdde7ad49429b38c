-- Refusals are exact: a netlist that is refused passes a limit, and has one refusal.
use Rattle.std.specs.Prelude.{◌≡◌, ◌≢◌, ℕ, ◌≤◌}
use Rattle.std.proofs.Common.{refl, sym, ap, subst, ◌∙◌, arith, inl, inr}
use Rattle.std.proofs.lemmas.Option.{none-some, same_Some}
use Rattle.blif_read.specs.Parts.{NetView}
use Rattle.cell_library.specs.Library.{LibraryView}
use Rattle.plan_build.specs.Plans.{IsWithin, rows_height}
use Rattle.rowed.specs.Limits.{height_limit}
use Rattle.plan_build.specs.Refusals.{Refuses}
use Rattle.plan_build.specs.declared.refusal.PlanRefusal.{PlanRefusal}
use Rattle.plan_build.specs.declared.refusal.PlanRefusal.TheVariants.{Slots, Rows, Cells, Memory}

pub past_limit : (l : LibraryView) (net : NetView) (refusal : PlanRefusal) → refusal ≢ Memory
    → Refuses l net refusal → IsWithin l net → ⊥
past_limit l net Memory other refuses within = other refl
past_limit l net (Slots span) other refuses within = omega (arith, refuses.1, within.narrow)
past_limit l net (Cells cells) other (inl before) within = omega (arith, before.0, within.few_before)
past_limit l net (Cells cells) other (inr after) within = none-some cells (sym within.few_cells ∙ after.2)
past_limit l net (Rows rows) other refuses within =
    omega (arith, refuses.3, subst (λ (n : ℕ). rows_height l n ≤ height_limit) (sym refuses.4) within.low)

pub only_refusal : (l : LibraryView) (net : NetView) (one other : PlanRefusal) → one ≢ Memory → other ≢ Memory
    → Refuses l net one → Refuses l net other → one ≡ other
only_refusal l net Memory b some some' r s = absurd (some refl)
only_refusal l net a Memory some some' r s = absurd (some' refl)
only_refusal l net (Slots span) (Slots span') some some' r s = ap Slots (r.2 ∙ sym s.2)
only_refusal l net (Slots span) (Rows rows) some some' r s = absurd (omega (arith, r.1, s.1))
only_refusal l net (Slots span) (Cells cells) some some' r (inl s) = absurd (omega (arith, r.0, s.0))
only_refusal l net (Slots span) (Cells cells) some some' r (inr s) = absurd (omega (arith, r.1, s.1))
only_refusal l net (Rows rows) (Slots span) some some' r s = absurd (omega (arith, r.1, s.1))
only_refusal l net (Rows rows) (Rows rows') some some' r s = ap Rows (r.4 ∙ sym s.4)
only_refusal l net (Rows rows) (Cells cells) some some' r (inl s) = absurd (omega (arith, r.0, s.0))
only_refusal l net (Rows rows) (Cells cells) some some' r (inr s) = absurd (none-some cells (sym r.2 ∙ s.2))
only_refusal l net (Cells cells) (Slots span) some some' (inl r) s = absurd (omega (arith, r.0, s.0))
only_refusal l net (Cells cells) (Slots span) some some' (inr r) s = absurd (omega (arith, r.1, s.1))
only_refusal l net (Cells cells) (Rows rows) some some' (inl r) s = absurd (omega (arith, r.0, s.0))
only_refusal l net (Cells cells) (Rows rows) some some' (inr r) s = absurd (none-some cells (sym s.2 ∙ r.2))
only_refusal l net (Cells cells) (Cells cells') some some' (inl r) (inl s) = ap Cells (r.1 ∙ sym s.1)
only_refusal l net (Cells cells) (Cells cells') some some' (inl r) (inr s) = absurd (omega (arith, r.0, s.0))
only_refusal l net (Cells cells) (Cells cells') some some' (inr r) (inl s) = absurd (omega (arith, r.0, s.0))
only_refusal l net (Cells cells) (Cells cells') some some' (inr r) (inr s) =
    ap Cells (same_Some cells cells' (sym r.2 ∙ s.2))
