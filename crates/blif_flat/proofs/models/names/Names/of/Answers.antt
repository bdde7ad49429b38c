use Rattle.std.proofs.Common.{◌∙◌, ap}
use Rattle.blif_read.specs.Code.Seen.{texts}
use Rattle.blif_flat.specs.Designs.{names_in}
use Rattle.blif_flat.specs.Code.Indexing.{names_held}
use Rattle.blif_flat.proofs.Indexes.{held_distinct}
use Rattle.blif_flat.proofs.models.names.Names.of.Goals.{then-named-le-FEW+in_ok-few_of, else-named-le-FEW+in_ok-table+in_ok-new}
use Rattle.blif_flat.proofs.models.names.Names.of.Goals as goal

pub invariant_of-result : goal.invariant_of-result
invariant_of-result c = held_distinct c.if-named-le-FEW.held (names_in c.args.named.now)
    (elim c.if-named-le-FEW.branch [
      | then-named-le-FEW+in_ok-few_of w ↦ ap names_held w.held-is ∙ w.in_ok-few_of.ensures
      | else-named-le-FEW+in_ok-table+in_ok-new w ↦ ap names_held w.held-is
          ∙ ap (λ t. texts t.keys) w.in_ok-new.ensures.ok ∙ w.in_ok-table.ensures
    ])
