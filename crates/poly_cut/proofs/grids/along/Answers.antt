use Rattle.poly_cut.proofs.GridPlaces.{along_is}
use Rattle.poly_cut.proofs.grids.along.Goals as goal

pub returns : goal.returns
returns c = along_is c.args.from c.args.step c.args.steps c.requires.few c.requires.from c.requires.step
