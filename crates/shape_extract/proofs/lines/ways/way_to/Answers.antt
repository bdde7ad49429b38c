use Rattle.std.proofs.Common.{inl, inr, refl, arith}
use Rattle.shape_extract.proofs.Searching.{said_true, said_false}
use Rattle.shape_extract.proofs.PartWays.{way_at_is}
use Rattle.shape_extract.proofs.Marked.{got_at}
use Rattle.shape_extract.proofs.lines.ways.way_to.Goals as goal

pub returns-then-is_part-clause-is : goal.returns-then-is_part-clause-is
returns-then-is_part-clause-is c = inl (said_true _ _ c.is_part.ensures c.if-is_part.true, refl)

pub returns-clause-is : goal.returns-clause-is
returns-clause-is c = inr (
  said_false _ _ c.is_part.ensures c.if-is_part.false,
  omega (
    arith,
    c.way_through.ensures,
    way_at_is c.args.shapes.now _ c.index-shapes-from.result
        (got_at _ _ _ c.requires.reached c.index-shapes-from.is),
  ),
)
