use Rattle.blif_read.proofs.Whole.{text_cut}
use Rattle.blif_read.proofs.Told.{plain_says, plain_fails}
use Rattle.blif_read.proofs.texts.read_text.Goals as goal

pub netlist-requires : goal.netlist-requires
netlist-requires c = text_cut c.args.text.now _ c.of-lines.ensures c.requires

pub returns-in-Ok-clause-ok : goal.returns-in-Ok-clause-ok
returns-in-Ok-clause-ok c = plain_says c.args.text.now c.of-lines.result c.in-Ok.net c.of-lines.ensures
    c.is_design.result c.is_design.ensures c.if-is_design.false c.in-Ok.ensures.sound c.in-Ok.ensures.parts

pub returns-in-Err-clause-bad : goal.returns-in-Err-clause-bad
returns-in-Err-clause-bad c = plain_fails c.args.text.now c.of-lines.result c.in-Err.refusal c.of-lines.ensures
    c.is_design.result c.is_design.ensures c.if-is_design.false c.in-Err.ensures.bad
