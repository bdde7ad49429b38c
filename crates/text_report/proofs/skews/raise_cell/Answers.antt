use Rattle.std.proofs.Common.{subst, sym, ◌∙◌, ℕ}
use Rattle.text_report.specs.Code.Skews.{FeedStands}
use Rattle.text_report.proofs.skews.raise_cell.Goals as goal

pub raise_wire-requires : goal.raise_wire-requires
raise_wire-requires c = c.requires 0

pub raise_wire-requires-2 : goal.raise_wire-requires-2
raise_wire-requires-2 c = subst (λ (rows : ℕ). FeedStands c.args.cells.now rows c.args.cell.now.feed1)
    (sym c.raise_wire.ensures.long) (c.requires 1)

pub raise_wire-requires-3 : goal.raise_wire-requires-3
raise_wire-requires-3 c = subst (λ (rows : ℕ). FeedStands c.args.cells.now rows c.args.cell.now.feed2)
    (sym (c.raise_wire-2.ensures.long ∙ c.raise_wire.ensures.long)) (c.requires 2)
