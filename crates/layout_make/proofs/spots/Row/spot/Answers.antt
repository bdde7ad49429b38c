use Rattle.layout_make.proofs.RowCode.{spot_there}
use Rattle.layout_make.proofs.spots.Row.spot.Goals as goal

pub returns : goal.returns
returns c = spot_there c.args.self.now.cells.now c.args.self.now.slots.now c.args.number _ _ c.requires.cells
    c.requires.slots
