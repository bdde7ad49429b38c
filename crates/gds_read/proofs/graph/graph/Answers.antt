use Rattle.std.proofs.Common.{List, map, ap, ◌∙◌}
use Rattle.gds_records.specs.Drawing.{place_of}
use Rattle.gds_read.specs.declared.outline.NamedUse.{NamedUse}
use Rattle.gds_read.specs.Code.Outlining.{names_in}
use Rattle.gds_read.proofs.Items.{made_more}
use Rattle.gds_read.proofs.graph.graph.Goals as goal

pub loop-outline-preserved : goal.loop-outline-preserved
loop-outline-preserved c =
    made_more (λ s. map (λ u. place_of u.name.now (names_in c.args.structures.now)) s.uses) c.args.structures.now
    c.loop-outline.outline-index c.outline-item.result c.loop-outline.graph _ c.in_ok-targets.field-0
    c.loop-outline-test.true c.outline-item.is
    (c.in_ok-targets.ensures
    ∙ ap (λ (us : List NamedUse). map (λ u. place_of u.name.now (names_in c.args.structures.now)) us)
    c.as_slice.ensures) c.in_ok-push.ensures.ok c.loop-outline.invariant
