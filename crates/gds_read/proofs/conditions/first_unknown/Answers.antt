use Rattle.std.proofs.Common.{sym, ◌∙◌}
use Rattle.gds_read.specs.Code.Numbering.{number_in}
use Rattle.gds_read.proofs.Judged.{unknown_there, unknown_later, not_some}
use Rattle.gds_read.proofs.conditions.first_unknown.Goals as goal

pub returns-in-Some : goal.returns-in-Some
returns-in-Some c =
    unknown_there (number_in c.args.numbers.now.entries) c.args.structures.now c.loop-outline.outline-index
    c.outline-item.result c.in-Some.place _ c.loop-outline-test.true c.outline-item.is c.loop-outline.invariant
    (rw c.as_slice.ensures at c.in-Some.ensures)

pub loop-outline-preserved : goal.loop-outline-preserved
loop-outline-preserved c =
    unknown_later (number_in c.args.numbers.now.entries) c.args.structures.now c.loop-outline.outline-index
    c.outline-item.result _ c.loop-outline-test.true c.outline-item.is c.loop-outline.invariant
    (sym (not_some c.unknown_in.result c.in_default.not-Some) ∙ rw c.as_slice.ensures at c.unknown_in.ensures)
