use Rattle.std.proofs.Common.{sym, subst}
use Rattle.geom.specs.Writable.{IsWritable}
use Rattle.layout_make.proofs.SizeBounds.{number_small}
use Rattle.layout_make.proofs.WritableLaw.{writable}
use Rattle.layout_make.proofs.drawing.draw.Goals as goal

pub element_number-count-requires : goal.element_number-count-requires
element_number-count-requires c = number_small c.args.placed.now c.args.library.now c.requires

pub returns-clause-writable : goal.returns-clause-writable
returns-clause-writable c = subst IsWritable (sym c.in_ok-layout_of.ensures)
    (writable c.args.placed.now c.args.library.now c.tracks_are_fewest.ensures.plan c.requires)
