use Rattle.shape_extract.proofs.NetDrivers.{DriversBelow}
use Rattle.shape_extract.proofs.circuits.drivers.drivers.Given as goal

abbrev pub invariant-loop-q : goal.invariant-loop-q
invariant-loop-q l = DriversBelow l.q l.fn.flat.shapes l.fn.nets l.drivers.items
