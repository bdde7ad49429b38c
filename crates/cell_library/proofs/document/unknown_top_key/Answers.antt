use Rattle.cell_library.specs.Faults.{top_keys}
use Rattle.cell_library.proofs.Keys.{found_least}
use Rattle.cell_library.proofs.document.unknown_top_key.Goals as goal

pub returns : goal.returns
returns c = found_least top_keys c.args.table.now c.first_unknown_top_key.result c.first_unknown_top_key.ensures.found
    c.first_unknown_top_key.ensures.ordered
