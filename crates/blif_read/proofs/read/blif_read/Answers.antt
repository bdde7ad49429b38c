use Rattle.blif_read.proofs.Whole.{text_says, text_fails, text_cut}
use Rattle.blif_read.proofs.read.blif_read.Goals as goal

pub netlist-requires : goal.netlist-requires
netlist-requires c = text_cut c.args.text.now _ c.of-lines.ensures c.requires

pub returns-clause-ok : goal.returns-clause-ok
returns-clause-ok c = text_says c.netlist.result c.args.text.now _ c.of-lines.ensures
    c.netlist.ensures.sound c.netlist.ensures.parts

pub returns-clause-bad : goal.returns-clause-bad
returns-clause-bad c = text_fails c.netlist.result c.args.text.now _ c.of-lines.ensures c.netlist.ensures.bad
