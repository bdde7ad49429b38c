use Rattle.cell_library.proofs.Ranges.{said_keeps}
use Rattle.cell_library.proofs.said.each_library.Goals as goal

pub returns : goal.returns
returns c = said_keeps
