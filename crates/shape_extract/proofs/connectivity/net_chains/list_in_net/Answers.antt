use Rattle.std.proofs.Common.{◌≡◌, ◌+◌, ◌<◌, [], ◌∷◌, ◌++◌, Some, length, arith}
use Rattle.std.specs.Prelude.{slice_get, slice_index}
use Rattle.shape_extract.specs.Chains.{IsNextFrom}
use Rattle.shape_extract.proofs.Marked.{got_at}
use Rattle.shape_extract.proofs.NetChains.{walk_begun, walked_more, walked_past, walked_all}
use Rattle.shape_extract.proofs.connectivity.net_chains.list_in_net.Goals as goal
use Rattle.shape_extract.proofs.connectivity.net_chains.list_in_net.Goals.{then-shape-layer+in_ok-push}
use Rattle.shape_extract.proofs.connectivity.net_chains.list_in_net.Goals.{else-shape-layer}

pub loop-b-init : goal.loop-b-init
loop-b-init c = rw c.clear.ensures.items
    (walk_begun c.args.shapes.now c.args.nets.now c.requires.nets c.args.layer c.args.a c.requires.within)

pub loop-b-preserved : goal.loop-b-preserved
loop-b-preserved c =
    let got : slice_get c.args.shapes.now c.loop-b.b ≡ Some c.index-shapes-b.result =
    got_at _ _ _ c.loop-b-test.true c.index-shapes-b.is in
    let in_nets : c.loop-b.b < length c.args.nets.now = omega (arith, c.requires.nets.long) in
    let next : IsNextFrom c.args.nets.now (c.loop-b.b + 1) (slice_index c.args.nets.now c.loop-b.b)
    (slice_index c.args.next.now c.loop-b.b) = c.requires.chains.each c.loop-b.b in_nets in
    elim c.if-shape-layer.branch [
      | then-shape-layer+in_ok-push w ↦
          let longer : w.push.new.self.items ≡ c.loop-b.found.items ++ (c.loop-b.b ∷ []) = w.in_ok-push.ensures.items in
          rw (w.found-is, longer) (walked_more c.args.shapes.now c.args.nets.now c.requires.nets c.args.layer c.args.a
          c.requires.within c.loop-b.b c.loop-b.found.items c.loop-b.invariant c.loop-b-test.true
          c.index-shapes-b.result got _ next w.if-shape-layer.true)
      | else-shape-layer w ↦
          rw w.found-is (walked_past c.args.shapes.now c.args.nets.now c.requires.nets c.args.layer c.args.a
          c.requires.within c.loop-b.b c.loop-b.found.items c.loop-b.invariant c.loop-b-test.true
          c.index-shapes-b.result got _ next w.if-shape-layer.false)
    ]

pub returns : goal.returns
returns c = walked_all c.args.shapes.now c.args.nets.now c.requires.nets c.args.layer c.args.a c.requires.within
    c.loop-b.b c.loop-b.found.items c.loop-b-test.false c.loop-b.invariant
