use Rattle.std.proofs.Common.{sym, ◌∙◌, rules}
use Rattle.gds_read.proofs.Cursors.{field_here, field_none}
use Rattle.gds_read.proofs.cursor.field.Goals as goal

pub returns-then-kind_at-kind : goal.returns-then-kind_at-kind
returns-then-kind_at-kind c = c.data_at.ensures
    ∙ (sym (field_here c.records.rest.now c.args.kind c.records.invariant.whole (search rules)
    (sym c.kind_at.ensures ∙ c.if-kind_at-kind.true)) ∙ c.records.invariant.same)

pub returns : goal.returns
returns c = sym (field_none c.records.rest.now c.args.kind (search rules)) ∙ c.records.invariant.same
