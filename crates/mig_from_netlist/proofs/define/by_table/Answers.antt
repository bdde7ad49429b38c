use Rattle.std.proofs.Common.{sym}
use Rattle.std.proofs.lemmas.List.{length-map}
use Rattle.mig.specs.Graphs.{literal_value}
use Rattle.mig_from_netlist.proofs.GateValues.{option_same}
use Rattle.mig_from_netlist.proofs.Planes.{table_value}
use Rattle.mig_from_netlist.proofs.define.by_table.Goals as goal

pub returns-clause-given : goal.returns-clause-given
returns-clause-given c = option_same c.decompose.result c.decompose.new.builder _ _
    (λ word v fit. table_value c.args.def.now c.cover_table-table.result _ _
    (sym (length-map c.args.inputs.now (literal_value v))) c.requires.few c.requires.planes
    c.cover_table-table.ensures)
    c.decompose.ensures.given
