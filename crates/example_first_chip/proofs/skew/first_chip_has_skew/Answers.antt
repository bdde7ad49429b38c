use Rattle.circuit_extracted.specs.FirstCircuit.{first_circuit}
use Rattle.example_first_chip.proofs.FirstSkew.{first_near, first_far, beyond, first_skew}
use Rattle.example_first_chip.proofs.skew.first_chip_has_skew.Goals as goal

pub returns : goal.returns
unfolding first_circuit
returns c =
    let lines = c.first_chip_has_lines.ensures in
    first_skew lines.even lines.odd c.first_chip_extracted.ensures.circuit
    (c.skew_is_computed.ensures.is first_circuit first_near first_far beyond)
