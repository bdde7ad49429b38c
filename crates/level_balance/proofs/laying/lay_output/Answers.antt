use Rattle.std.proofs.Common.{◌≡◌, ℕ, pred, ◌-◌, ◌<◌, ◌^◌, List, [], ◌∷◌, sym, ap, ◌∙◌, subst, arith}
use Rattle.rowed.specs.declared.row_cell.RowCell.{RowCell}
use Rattle.level_balance.specs.Laying.{next}
use Rattle.level_balance.specs.Plan.{sources}
use Rattle.level_balance.specs.Code.Outlines.{frame_of}
use Rattle.level_balance.specs.Code.Rooms.{HasFew}
use Rattle.level_balance.proofs.Rooms.{shown_room, shown_place}
use Rattle.level_balance.proofs.laying.lay_output.Goals as goal

pub source_of-requires : goal.source_of-requires
source_of-requires c =
    let below : c.saturating_sub.result ≡ pred c.args.outline.now.last = c.saturating_sub.ensures
    ∙ (let z : c.args.outline.now.last - 1 ≡ pred c.args.outline.now.last = omega arith in z) in
    subst (λ (k : ℕ). HasFew (sources c.args.outline.now.inputs k c.args.ends.now c.args.rows.now.items c.args.use_at
    (c.args.output ∷ [])).rows) (sym below)
    (shown_room (frame_of c.args.outline.now) c.args.number c.args.output
    (record { rows = c.args.rows.now.items; ends = c.args.ends.now; use_at = c.args.use_at }) c.requires.few_cells)

pub put-requires : goal.put-requires
put-requires c =
    let below : c.saturating_sub.result ≡ pred c.args.outline.now.last = c.saturating_sub.ensures
    ∙ (let z : c.args.outline.now.last - 1 ≡ pred c.args.outline.now.last = omega arith in z) in
    subst (λ (r : List (List RowCell)). next r c.args.outline.now.last < 2 ^ 32)
    (sym (c.in_ok-source.ensures.rows
    ∙ ap (λ (k : ℕ). (sources c.args.outline.now.inputs k c.args.ends.now c.args.rows.now.items c.args.use_at
    (c.args.output ∷ [])).rows) below))
    (shown_place (frame_of c.args.outline.now) c.args.number c.args.output
    (record { rows = c.args.rows.now.items; ends = c.args.ends.now; use_at = c.args.use_at }) c.requires.few_cells)
