use Rattle.std.proofs.Common.{◌≡◌, take, map}
use Rattle.shape_extract.specs.Code.Ports.{port_of}
use Rattle.shape_extract.proofs.tables.ports.ports.Given as goal

abbrev pub invariant-loop-p : goal.invariant-loop-p
invariant-loop-p l = l.ports.items ≡ map (port_of l.shapes) (take l.p l.shapes)
