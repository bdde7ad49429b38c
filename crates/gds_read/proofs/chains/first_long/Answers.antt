use Rattle.std.proofs.Common.{ℕ, ap, ◌∙◌}
use Rattle.gds_read.specs.Code.Graphs.{graph_of, is_long}
use Rattle.gds_read.proofs.Graphs.{long_here, long_next}
use Rattle.gds_read.proofs.chains.first_long.Goals as goal

pub returns-then-mark_at : goal.returns-then-mark_at
returns-then-mark_at c =
    long_here c.args.structures.now c.loop-outline.outline-index c.outline-item.result c.loop-outline-test.true
    c.outline-item.is _ c.loop-outline.invariant
    c.mark_at.result (c.mark_at.ensures ∙ c.requires.marks c.named-number.result
    ∙ ap (λ (n : ℕ). is_long (graph_of c.args.structures.now) n) c.named-number.ensures) c.if-mark_at.true

pub loop-outline-preserved : goal.loop-outline-preserved
loop-outline-preserved c =
    long_next c.args.structures.now c.loop-outline.outline-index c.outline-item.result c.loop-outline-test.true
    c.outline-item.is _ c.loop-outline.invariant
    c.mark_at.result (c.mark_at.ensures ∙ c.requires.marks c.named-number.result
    ∙ ap (λ (n : ℕ). is_long (graph_of c.args.structures.now) n) c.named-number.ensures) c.if-mark_at.false
