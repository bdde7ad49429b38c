use Rattle.example_faulty_chips.proofs.GeometryJudged.{narrow_wire, narrow_via, low_pin, wide_wire}
use Rattle.example_faulty_chips.proofs.laws.shapes_are_large_enough.Goals as goal

pub returns-clause-narrow : goal.returns-clause-narrow
returns-clause-narrow c = narrow_wire

pub returns-clause-via : goal.returns-clause-via
returns-clause-via c = narrow_via

pub returns-clause-pin : goal.returns-clause-pin
returns-clause-pin c = low_pin

pub returns-clause-wide : goal.returns-clause-wide
returns-clause-wide c = wide_wire
