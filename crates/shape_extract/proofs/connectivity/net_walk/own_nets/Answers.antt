use Rattle.std.proofs.Common.{◌≡◌, ◌++◌, ◌∷◌, [], arith}
use Rattle.shape_extract.specs.Distinct.{kinds_at}
use Rattle.shape_extract.proofs.KindNets.{label_within, nets_by_kinds}
use Rattle.shape_extract.proofs.PinFrameLists.{numbers_more}
use Rattle.shape_extract.proofs.connectivity.net_walk.own_nets.Goals as goal

pub net_of-requires-clause-label : goal.net_of-requires-clause-label
net_of-requires-clause-label c =
    label_within c.args.shapes.now c.args.kinds.now.numbers.items c.args.kinds.now.places.items (kinds_at
    c.args.shapes.now c.args.kinds.now.numbers.items)
    c.requires.distinct.those c.requires.places c.args.walked.now.labels.items c.args.walked.now.touched.items
    c.requires.nets c.requires.told c.loop-n.n (omega arith)

pub loop-n-preserved : goal.loop-n-preserved
loop-n-preserved c =
    let longer : c.push.new.self.items ≡ c.loop-n.nets.items ++ (c.net_of.result ∷ []) = c.in_ok-push.ensures.items in
    rw longer (numbers_more _ c.loop-n.n c.loop-n.nets.items c.net_of.result c.loop-n.invariant c.net_of.ensures)

pub returns : goal.returns
returns c = nets_by_kinds c.args.shapes.now c.args.kinds.now.numbers.items c.args.kinds.now.places.items
    (kinds_at c.args.shapes.now c.args.kinds.now.numbers.items) c.requires.distinct.those c.requires.places
    c.args.walked.now.labels.items
    c.args.walked.now.touched.items c.requires.nets c.requires.told c.loop-n.nets.items
    (omega (arith, c.loop-n.invariant.long)) (λ n lt. c.loop-n.invariant.each n (omega arith))
