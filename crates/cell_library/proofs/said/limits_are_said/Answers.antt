use Rattle.std.proofs.Common.{ap}
use Rattle.cell_library.specs.Library.{limits_of}
use Rattle.cell_library.proofs.said.limits_are_said.Goals as goal

pub returns : goal.returns
returns c text library says = record {
  table = says.table;
  document = says.document;
  values = ap limits_of says.values;
}
