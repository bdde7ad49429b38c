use Rattle.std.proofs.Common.{sym, ◌∙◌, arith}
use Rattle.gds_read.proofs.WideFields.{at_fits}
use Rattle.gds_read.proofs.wide_values.is_ring.Goals as goal

pub returns-then-is_rectangle : goal.returns-then-is_rectangle
returns-then-is_rectangle c =
    sym (c.rectangles_are_rings.ensures.ring c.args.xy.now (at_fits c.args.xy.now (λ i. omega (arith, c.type_inv.xy i)))
    (sym c.is_rectangle.ensures ∙ c.if-is_rectangle.true))
