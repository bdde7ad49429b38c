use Rattle.cell_library.specs.Faults.{pins_keys}
use Rattle.cell_library.proofs.Keys.{found_least}
use Rattle.cell_library.proofs.document.unknown_pins_key.Goals as goal

pub returns : goal.returns
returns c = found_least pins_keys c.args.table.now c.first_unknown_pins_key.result
    c.first_unknown_pins_key.ensures.found c.first_unknown_pins_key.ensures.ordered
