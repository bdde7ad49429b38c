use Rattle.std.proofs.Common.{◌∙◌, ◌<◌, sym, ap, arith, length}
use Rattle.geom.specs.declared.shapes.Shape.{Shape}
use Rattle.shape_extract.proofs.NetDrivers.{net_below, drivers_more, drivers_same, drivers_all}
use Rattle.shape_extract.proofs.Each.{item_there}
use Rattle.shape_extract.proofs.circuits.drivers.drivers.Goals as goal
use Rattle.shape_extract.proofs.circuits.drivers.drivers.Goals.{then-shapes-q-eq-OUTPUT_PIN}
use Rattle.shape_extract.proofs.circuits.drivers.drivers.Goals.{else-shapes-q-eq-OUTPUT_PIN}

pub index_mut-requires : goal.index_mut-requires
index_mut-requires c =
    let within : c.loop-q.q < length c.args.flat.now.shapes = rw c.as_slice-shapes.ensures at c.loop-q-test.true in
    omega (arith, net_below _ _ c.requires.nets _ within, c.loop-q.invariant.long)

pub loop-q-preserved : goal.loop-q-preserved
loop-q-preserved c =
    let got = item_there c.as_slice-shapes.ensures c.loop-q-test.true c.index-shapes-q.is in
    elim c.if-shapes-q-eq-OUTPUT_PIN.branch [
      | then-shapes-q-eq-OUTPUT_PIN w ↦ rw w.drivers-is
          (drivers_more c.args.flat.now c.args.nets.now c.requires.nets c.requires.kept c.loop-q.q
          c.loop-q.drivers.items c.index-shapes-q.result c.loop-q.invariant got
          (ap (λ (s : Shape). s.layer) c.index-shapes-q.is ∙ w.if-shapes-q-eq-OUTPUT_PIN.true))
      | else-shapes-q-eq-OUTPUT_PIN w ↦ rw w.drivers-is
          (drivers_same c.args.flat.now c.args.nets.now c.requires.nets c.requires.kept c.loop-q.q
          c.loop-q.drivers.items c.index-shapes-q.result c.loop-q.invariant got
          (λ on. w.if-shapes-q-eq-OUTPUT_PIN.false (ap (λ (s : Shape). s.layer) (sym c.index-shapes-q.is) ∙ on)))
    ]

pub returns : goal.returns
returns c = drivers_all c.args.flat.now c.args.nets.now c.requires.nets c.requires.kept c.loop-q.q
    c.loop-q.drivers.items (rw c.as_slice-shapes.ensures at c.loop-q-test.false) c.loop-q.invariant
