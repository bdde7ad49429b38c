use Rattle.std.proofs.Common.{◌∙◌, ap, refl, arith, inl}
use Rattle.std.specs.Prelude.{slice_set}
use Rattle.std.proofs.lemmas.Int.{ints}
use Rattle.geom.specs.Rectangle.{Rectangle}
use Rattle.poly_cut.proofs.slabs.join.Goals as goal

pub raised-whole-requires : goal.raised-whole-requires
raised-whole-requires c =
    let l = c.requires.low c.in-Some.number c.get.result.now c.get.ensures in
    let h = c.known.ensures.high in
    omega (arith, ints, l, h)

pub returns-in-Some : goal.returns-in-Some
returns-in-Some c =
    let e = c.in-Some.ensures in
    let on = e.1 c.get.result.now c.get.ensures in
    inl (record {
      place = c.in-Some.number;
      rect = c.get.result.now;
      found = e.0;
      there = c.get.ensures;
      left = on.0;
      right = on.1.0;
      level = on.1.1;
      rects_are = c.set.ensures ∙ ap (λ (r : Rectangle). slice_set c.args.stack.now.rects c.in-Some.number r)
          c.raised-whole.ensures;
      last_is = λ x. refl;
    })
