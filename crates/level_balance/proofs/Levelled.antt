-- What is counted and laid from an outline is the plan's.
use Rattle.std.proofs.Common.{◌≡◌, ℕ, ◌<◌, ◌≤◌, Bool, List, length, ap, ◌∙◌, sym, subst, arith, refl}
use Rattle.circuit.specs.PlainNets.{PlainView, IsPlainNet}
use Rattle.rowed.specs.declared.row_cell.RowCell.{RowCell}
use Rattle.rowed.specs.RowNets.{RowView}
use Rattle.level_balance.specs.Plan.{Frame, frame, laid, level_net}
use Rattle.level_balance.specs.Code.Turns.{laid_by}
use Rattle.level_balance.specs.Counts.{cell_count, capped}
use Rattle.rowed.specs.Counts.{cells_in}
use Rattle.level_balance.specs.Code.Rooms.{HasFew}
use Rattle.level_balance.proofs.Counted.{plan_count}
use Rattle.level_balance.proofs.PlanGiven.{plan_given}
use Rattle.level_balance.specs.Passes.{IsLevelled}

pub many : (cells count : ℕ) → 2000000 < cells → cells ≡ capped count → 2000000 < count
many cells count lt is = omega arith

pub few : (cells count : ℕ) → cells ≤ 2000000 → cells ≡ capped count → count ≤ 2000000
few cells count le is = omega arith

rows_are : (net : PlainView) (three : Bool) (f : Frame) (rows : List (List RowCell)) → f ≡ frame net three
    → rows ≡ laid_by f net.gates net.outputs → rows ≡ (level_net net three).rows
unfolding level_net laid
rows_are net three f rows e is = is ∙ ap (λ (g : Frame). laid_by g net.gates net.outputs) e

plan_is : (net : PlainView) (three : Bool) (rows : List (List RowCell)) → rows ≡ (level_net net three).rows
    → (let made : RowView = record { inputs = net.inputs; outputs = length net.outputs; rows = rows } in
    made ≡ level_net net three)
unfolding level_net
plan_is net three rows e =
    ap (λ (r : List (List RowCell)). let made : RowView =
    record { inputs = net.inputs; outputs = length net.outputs; rows = r } in made) e

-- the rows that are laid from the outline are the plan's, where they are few
pub levelled : (net : PlainView) (three : Bool) (f : Frame) (cells : ℕ) (rows : List (List RowCell))
    → IsPlainNet net → f ≡ frame net three
    → cells ≡ capped (cell_count net three) → cells ≤ 2000000 → rows ≡ laid_by f net.gates net.outputs
    → IsLevelled net three (record { inputs = net.inputs; outputs = length net.outputs; rows = rows })
levelled net three f cells rows known e total le laid_is =
    let small = few cells (cell_count net three) le total in
    let plan = plan_is net three rows (rows_are net three f rows e laid_is) in
    subst (IsLevelled net three) (sym plan) (plan_given net three known small)

-- the rows of a plan within the limit are few
pub few_laid : (net : PlainView) (three : Bool) (f : Frame) (cells : ℕ) → IsPlainNet net → f ≡ frame net three
    → cells ≡ capped (cell_count net three) → cells ≤ 2000000 → HasFew (laid_by f net.gates net.outputs)
few_laid net three f cells known e total le =
    let small = few cells (cell_count net three) le total in
    let count = plan_count net three known in
    let same = ap cells_in (rows_are net three f (laid_by f net.gates net.outputs) e refl) in omega arith
