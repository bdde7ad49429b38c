use Rattle.std.proofs.Common.{ap, sym, ◌∙◌, cond, not, ◌==◌}
use Rattle.std.proofs.lemmas.Bool.{ne_eqb}
use Rattle.truth_tables.specs.Tables.{holds}
use Rattle.truth_tables.proofs.Bits.{holds_not}
use Rattle.truth_tables.proofs.tables.signed.Goals as goal

pub returns-then-literal-eq1 : goal.returns-then-literal-eq1
returns-then-literal-eq1 c = λ i lt. holds_not c.args.table i c.ranges.table.fits lt
    ∙ ap (λ n. cond (n == 1) (not (holds c.args.table i)) (holds c.args.table i)) (sym c.if-literal-eq1.true)

pub returns-else-literal-eq1 : goal.returns-else-literal-eq1
returns-else-literal-eq1 c = λ i lt. ap (λ b. cond b (not (holds c.args.table i)) (holds c.args.table i))
    (sym (ne_eqb _ 1 c.if-literal-eq1.false))
