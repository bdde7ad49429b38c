use Rattle.std.proofs.Common.{sym, ◌∙◌}
use Rattle.shape_extract.proofs.SameShapes.{same_shape, shape_compares}
use Rattle.shape_extract.proofs.distinct_shapes.is_equal.Goals as goal

pub returns : goal.returns
returns c = (
  λ e. same_shape c.args.a.now c.args.b.now (sym c.eq.ensures ∙ e),
  λ e. c.eq.ensures ∙ shape_compares c.args.a.now c.args.b.now e,
)
