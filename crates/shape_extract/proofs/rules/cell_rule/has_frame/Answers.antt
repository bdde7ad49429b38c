use Rattle.std.proofs.Common.{◌∙◌, sym}
use Rattle.shape_extract.proofs.Marked.{got_at, no_frame_next, no_frame_all}
use Rattle.shape_extract.proofs.rules.cell_rule.has_frame.Goals as goal

pub loop-shape-preserved : goal.loop-shape-preserved
loop-shape-preserved c = no_frame_next _ _ _ c.loop-shape.invariant
    (got_at _ _ _ c.loop-shape-test.true c.shape-item.is) (sym c.is_frame.ensures ∙ c.if-is_frame.false)

pub returns : goal.returns
returns c = no_frame_all _ _ c.loop-shape-test.false c.loop-shape.invariant

pub returns-then-is_frame : goal.returns-then-is_frame
returns-then-is_frame c = (
  c.loop-shape.shape-index,
  record {
    shape = c.shape-item.result;
    shape_is = got_at _ _ _ c.loop-shape-test.true c.shape-item.is;
    passes_so = sym c.is_frame.ensures ∙ c.if-is_frame.true;
  },
)
