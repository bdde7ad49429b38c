use Rattle.std.proofs.Common.{arith}
use Rattle.std.proofs.lemmas.Option.{slice_get_within}
use Rattle.shape_extract.proofs.NetDrivers.{net_below, only_source}
use Rattle.shape_extract.proofs.circuits.drivers.driver_of.Goals as goal

pub bounds-drivers-nets : goal.bounds-drivers-nets
bounds-drivers-nets c = omega (
  arith,
  c.requires.drivers.long,
  net_below c.args.flat.now.shapes c.args.nets.now c.requires.nets c.args.p
      (slice_get_within _ _ _ c.requires.input.pin_is),
)

pub returns : goal.returns
returns c = only_source c.args.flat.now c.args.nets.now c.requires.nets c.requires.kept c.args.drivers.now
    c.requires.drivers c.args.p c.requires.input
