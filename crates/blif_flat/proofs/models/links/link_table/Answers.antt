use Rattle.std.proofs.Common.{◌∙◌, ◌+◌, List, ap, sym, subst, arith, get_or, reverse, take}
use Rattle.std.proofs.lemmas.List.{get_or_read}
use Rattle.blif_read.specs.declared.models.Call.{Call}
use Rattle.blif_read.specs.declared.models.BlifModel.{BlifModel}
use Rattle.blif_flat.specs.Designs.{no_model}
use Rattle.blif_flat.specs.Code.Linked.{AreLinks, HasLinks}
use Rattle.blif_flat.proofs.Linking.{small, links_next}
use Rattle.blif_flat.proofs.models.links.link_table.Goals as goal

pub bounds-models-at : goal.bounds-models-at
bounds-models-at c = small c.args.models.now c.args.order.now c.loop-number.number-index
    c.requires.order c.loop-number-test.true

pub set-requires : goal.set-requires
set-requires c =
    let few = small c.args.models.now c.args.order.now c.loop-number.number-index c.requires.order
    c.loop-number-test.true in
    let size = c.loop-number.invariant.size in
    omega arith

pub loop-number-preserved : goal.loop-number-preserved
loop-number-preserved c =
    let models = c.args.models.now in
    let order = c.args.order.now in
    let i = c.loop-number.number-index in
    let n = get_or order i 0 in
    let few = small models order i c.requires.order c.loop-number-test.true in
    let here = get_or_read models n c.index-models-at.result few c.index-models-at.is no_model in
    let links = subst (λ (ms : List BlifModel). AreLinks ms c.as_slice.result.now c.in_ok-links.links) c.requires.same
    c.in_ok-links.ensures in
    let calls = c.as_slice.ensures ∙ ap (λ (m : BlifModel). m.calls) (sym c.index-models-at.is ∙ here) in
    subst (HasLinks models (reverse (take (i + 1) order))) (sym c.set.ensures)
    (links_next models order i c.requires.order c.loop-number-test.true c.loop-number.table c.in_ok-links.links
    c.loop-number.invariant (subst (λ (cs : List Call). AreLinks models cs c.in_ok-links.links) calls links))
