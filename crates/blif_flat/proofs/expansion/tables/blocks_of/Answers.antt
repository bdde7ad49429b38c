use Rattle.std.proofs.Common.{◌≡◌, ◌<◌, ◌∙◌, List, ◌+◌, ap, sym, subst, refl, arith, length, length-set, reverse}
use Rattle.std.proofs.Common.{take, get_or}
use Rattle.std.proofs.lemmas.Bool.{true≢false}
use Rattle.blif_read.specs.declared.models.BlifModel.{BlifModel}
use Rattle.blif_flat.specs.Code.Blocks.{ModelIn, wide, pieces, HasBlocks}
use Rattle.blif_flat.specs.Code.Outlines.{IsOutline}
use Rattle.blif_flat.proofs.Sizing.{at}
use Rattle.blif_flat.proofs.Tabling.{Outlined, small, calls_outlined, few_names, full_here, inputs_distinct}
use Rattle.blif_flat.proofs.Tabling.{blocks_next, outlines_next, no_blocks}
use Rattle.blif_flat.proofs.expansion.tables.blocks_of.Goals as goal
use Rattle.blif_flat.proofs.expansion.tables.blocks_of.Goals.{After-model-own, In_ok-places}

pub loop-number-init : goal.loop-number-init
loop-number-init c = record {
  many = c.in_ok-outlines.ensures;
  known = λ n off. absurd (true≢false (sym off));
  has = no_blocks c.args.models.now c.in_ok-blocks.blocks (length c.args.models.now) c.in_ok-blocks.ensures refl;
}

pub at-model-requires : goal.at-model-requires
at-model-requires c =
    let few = small c.args.models.now c.args.order.now c.loop-number.number-index c.requires.order
    c.loop-number-test.true in
    subst (λ (ms : List BlifModel). get_or c.args.order.now c.loop-number.number-index 0 < length ms)
    (sym c.requires.same) few

-- the model is the one whose number stands next in the order
own_is : (c : After-model-own) → c.model-own.result.now
    ≡ at c.args.models.now (get_or c.args.order.now c.loop-number.number-index 0)
own_is c =
    c.model-own.ensures ∙ c.at-model.ensures
    ∙ ap (λ (ms : List BlifModel). at ms (get_or c.args.order.now c.loop-number.number-index 0)) c.requires.same

-- and so is that of the places
places_are : (c : In_ok-places) → c.in_ok-places.places ≡ record {
  models = c.args.models.now;
  model = at c.args.models.now (get_or c.args.order.now c.loop-number.number-index 0);
}
places_are c =
    c.in_ok-places.ensures
    ∙ (λ j. record { models = c.requires.same j; model = own_is (goal.at.In_ok-places c).After-model-own j })

pub new-requires : goal.new-requires
new-requires c =
    let models = c.args.models.now in
    let order = c.args.order.now in
    let i = c.loop-number.number-index in
    let own = own_is (goal.at.new-requires c).After-model-own in
    record {
      outlined = rw (c.as_slice.ensures, own, c.requires.same)
          (calls_outlined models order i c.requires.order c.loop-number-test.true c.loop-number.outlines
          c.loop-number.invariant.known);
      room = rw (own, c.requires.same)
          (few_names models order i c.requires.order c.loop-number-test.true c.requires.narrow);
    }

pub block_of-requires : goal.block_of-requires
block_of-requires c =
    rw (c.as_slice-in-loop-number.ensures, places_are (goal.at.block_of-requires c).In_ok-places)
    (calls_outlined c.args.models.now c.args.order.now c.loop-number.number-index c.requires.order
    c.loop-number-test.true c.loop-number.outlines c.loop-number.invariant.known)

pub outline_of-requires : goal.outline_of-requires
outline_of-requires c =
    let models = c.args.models.now in
    let order = c.args.order.now in
    let i = c.loop-number.number-index in
    let is = places_are (goal.at.outline_of-requires c).In_ok-places in
    record {
      same = sym (ap (λ (p : ModelIn). p.model) c.in_ok-places.ensures ∙ c.model-own.ensures);
      distinct = rw is
          (inputs_distinct models order i c.requires.order c.loop-number-test.true c.requires.joined);
      full = rw is (sym (full_here models order i c.requires.order c.loop-number-test.true));
    }

pub set-requires : goal.set-requires
set-requires c =
    let few = small c.args.models.now c.args.order.now c.loop-number.number-index c.requires.order
    c.loop-number-test.true in
    let size = c.loop-number.invariant.has.size in
    omega arith

pub set-requires-in-loop-number : goal.set-requires-in-loop-number
set-requires-in-loop-number c =
    let few = small c.args.models.now c.args.order.now c.loop-number.number-index c.requires.order
    c.loop-number-test.true in
    let size = c.loop-number.invariant.many in
    omega arith

pub loop-number-preserved : goal.loop-number-preserved
loop-number-preserved c =
    let models = c.args.models.now in
    let order = c.args.order.now in
    let i = c.loop-number.number-index in
    let o = c.requires.order in
    let lt = c.loop-number-test.true in
    let is = places_are (goal.at.loop-number-preserved c).In_ok-places in
    let made = c.in_ok-block.ensures ∙ ap (λ (p : ModelIn). pieces (wide p.models) p.models p.model) is in
    let told = subst (λ (p : ModelIn). IsOutline p.models p.model c.in_ok-outline.outline) is
    c.in_ok-outline.ensures in
    record {
      many = ap length c.set-in-loop-number.ensures ∙ length-set c.loop-number.outlines _ _
          ∙ c.loop-number.invariant.many;
      known = subst (Outlined models (reverse (take (i + 1) order))) (sym c.set-in-loop-number.ensures)
          (outlines_next models order i o lt c.loop-number.outlines c.in_ok-outline.outline
          c.loop-number.invariant.known c.loop-number.invariant.many told);
      has = subst (HasBlocks models (reverse (take (i + 1) order))) (sym c.set.ensures)
          (blocks_next models order i o lt c.loop-number.blocks c.in_ok-block.block c.loop-number.invariant.has made);
    }
