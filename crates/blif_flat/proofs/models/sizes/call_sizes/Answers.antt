use Rattle.std.proofs.Common.{◌≡◌, ◌<◌, ◌∙◌, List, length, length-set, arith, ap, sym, subst, get_or}
use Rattle.std.proofs.lemmas.List.{get_or_read}
use Rattle.blif_read.specs.declared.models.BlifModel.{BlifModel}
use Rattle.blif_flat.specs.Designs.{no_model}
use Rattle.blif_flat.specs.Code.Sizes.{told, called_size}
use Rattle.blif_flat.proofs.Settling.{in_order}
use Rattle.blif_flat.proofs.Sizing.{at, table_next}
use Rattle.blif_flat.proofs.models.sizes.call_sizes.Goals as goal

pub bounds-models-at : goal.bounds-models-at
bounds-models-at c = in_order (λ n. n < length c.args.models.now) c.args.order.now c.loop-number.number-index 0
    c.loop-number-test.true c.requires.order.bounded

pub at-requires : goal.at-requires
at-requires c =
    let small = in_order (λ n. n < length c.args.models.now) c.args.order.now c.loop-number.number-index 0
    c.loop-number-test.true c.requires.order.bounded in
    subst (λ (ms : List BlifModel). get_or c.args.order.now c.loop-number.number-index 0 < length ms)
    (sym c.requires.same) small

pub index_mut-requires : goal.index_mut-requires
index_mut-requires c =
    let small = in_order (λ n. n < length c.args.models.now) c.args.order.now c.loop-number.number-index 0
    c.loop-number-test.true c.requires.order.bounded in
    let size : length c.loop-number.table.items ≡ length c.args.models.now = c.loop-number.invariant.size in
    omega (arith, c.loop-number.table.ok.0)

pub loop-number-preserved : goal.loop-number-preserved
loop-number-preserved c =
    let small = in_order (λ n. n < length c.args.models.now) c.args.order.now c.loop-number.number-index 0
    c.loop-number-test.true c.requires.order.bounded in
    let n = get_or c.args.order.now c.loop-number.number-index 0 in
    let read : c.index-models-at.result ≡ at c.args.models.now n =
    get_or_read c.args.models.now n c.index-models-at.result small c.index-models-at.is no_model in
    let found : c.at.result.now ≡ c.index-models-at.result = c.at.ensures
    ∙ ap (λ (ms : List BlifModel). at ms n) c.requires.same ∙ sym read in
    record {
      size = length-set c.loop-number.table.items _ _ ∙ c.loop-number.invariant.size;
      tells = table_next c.args.models.now c.args.order.now c.loop-number.table.items _ c.loop-number.number-index
          c.index-models-at.result c.model_size-size.result _ c.requires.order c.loop-number-test.true
          c.loop-number.invariant.size
          c.loop-number.invariant.tells small c.index-models-at.is c.deref.ensures.value
          (c.model_size-size.ensures c.args.models.now c.requires.numbers) (c.called_size.ensures
          ∙ ap (λ (m : BlifModel). told (called_size m c.model_size-size.result)) found);
    }
