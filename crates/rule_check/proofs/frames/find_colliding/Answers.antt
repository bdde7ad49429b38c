use Rattle.std.proofs.Common.{arith}
use Rattle.layout_rules.specs.GeometryRules.{FramesBroken}
use Rattle.shape_extract.specs.Distinct.{AreAt}
use Rattle.rule_check.proofs.Represented.{finds_named, places_of, frames_represent, frames_few}
use Rattle.rule_check.proofs.frames.find_colliding.Goals as goal

pub file_shapes-requires : goal.file_shapes-requires
file_shapes-requires c =
    omega (
      arith,
      c.requires,
      frames_few c.args.shapes.now c.in_ok-numbers.numbers.items c.from_vec-frames.result
          c.in_ok-numbers.ensures (rw c.from_vec-frames.ensures
          (rw c.as_slice.ensures.value at c.in_ok-shapes_at.ensures)),
    )

pub find_among-requires-clause-few : goal.find_among-requires-clause-few
find_among-requires-clause-few c =
    rw c.as_slice-2.ensures (omega (
      arith,
      c.requires,
      frames_few c.args.shapes.now c.in_ok-numbers.numbers.items c.from_vec-frames.result
          c.in_ok-numbers.ensures (rw c.from_vec-frames.ensures
          (rw c.as_slice.ensures.value at c.in_ok-shapes_at.ensures)),
    ))

pub named-requires : goal.named-requires
named-requires c =
    let at : AreAt c.args.shapes.now c.in_ok-numbers.numbers.items c.from_vec-frames.result =
    rw c.from_vec-frames.ensures (rw c.as_slice.ensures.value at c.in_ok-shapes_at.ensures) in
    rw c.as_slice-3.ensures.value (places_of c.in_ok-numbers.numbers.items (FramesBroken c.args.shapes.now)
    (FramesBroken c.from_vec-frames.result) c.in_ok-found.found
    (frames_represent c.args.shapes.now c.in_ok-numbers.numbers.items c.from_vec-frames.result
    c.in_ok-numbers.ensures at) (rw c.as_slice-2.ensures at c.in_ok-found.ensures))

pub returns : goal.returns
returns c =
    let at : AreAt c.args.shapes.now c.in_ok-numbers.numbers.items c.from_vec-frames.result =
    rw c.from_vec-frames.ensures (rw c.as_slice.ensures.value at c.in_ok-shapes_at.ensures) in
    rw (c.named.ensures, c.as_slice-3.ensures.value)
    (finds_named c.in_ok-numbers.numbers.items (FramesBroken c.args.shapes.now)
    (FramesBroken c.from_vec-frames.result) c.in_ok-found.found c.in_ok-numbers.ensures.rising
    (frames_represent c.args.shapes.now c.in_ok-numbers.numbers.items c.from_vec-frames.result
    c.in_ok-numbers.ensures at) (rw c.as_slice-2.ensures at c.in_ok-found.ensures))
