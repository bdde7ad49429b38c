use Rattle.std.proofs.Common.{ap, ◌∙◌, arith, length, length-append, List, Bool, [], ◌∷◌}
use Rattle.circuit.specs.Gates.{valuation}
use Rattle.std.proofs.lemmas.Option.{slice_get-get_or}
use Rattle.std.proofs.Common.{get_or}
use Rattle.mig.specs.Graphs.{node_value}
use Rattle.mig.proofs.Valued.{fits_all, fits_more}
use Rattle.mig.proofs.values.node_values.Goals as goal

pub loop-node-preserved : goal.loop-node-preserved
loop-node-preserved c =
    let longer = ap length c.in_ok-push-2.ensures.items in
    let by_one = length-append c.loop-node.values.items (c.node_value-value.result ∷ []) in
    let size = c.loop-node.invariant.size in
    record {
      size = omega arith;
      fit = fits_more c.loop-node.node-index _ c.args.nodes.now c.args.word.now c.loop-node.values.items _ _
          c.node_value-value.result c.requires
          size (slice_get-get_or c.args.nodes.now c.loop-node.node-index
          (record { x = 0; y = 0; z = 0 }) c.loop-node-test.true)
          (c.node_value-value.ensures
          ∙ ap (λ (vs : List Bool). node_value (valuation vs)
          (get_or c.args.nodes.now c.loop-node.node-index (record { x = 0; y = 0; z = 0 }))) c.deref.ensures.value)
          c.in_ok-push-2.ensures.items c.loop-node.invariant.fit;
    }

pub returns : goal.returns
returns c = fits_all c.loop-node.node-index _ c.args.nodes.now c.args.word.now _
    (let past = c.loop-node-test.false in omega arith) c.loop-node.invariant.fit
