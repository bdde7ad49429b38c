use Rattle.std.proofs.Common.{arith}
use Rattle.shape_extract.proofs.Marked.{got_at}
use Rattle.shape_extract.proofs.circuits.cell_spans.span_under.Goals as goal

pub overflow_add-near : goal.overflow_add-near
overflow_add-near c = omega (arith, c.requires.ways.small c.args.bar)

pub overflow_add-result : goal.overflow_add-result
overflow_add-result c = omega (arith, c.requires.ways.small c.args.bar)

pub returns : goal.returns
returns c = record {
  before_shape = c.index-shapes-from.result;
  before_is = got_at _ _ _ c.requires.reached c.index-shapes-from.is;
  bar_shape = c.index-shapes-bar.result;
  bar_is = got_at _ _ _ c.requires.within c.index-shapes-bar.is;
  near_is = omega (arith, c.way_into-into.ensures);
  far_is = omega (arith, c.width.ensures);
}
