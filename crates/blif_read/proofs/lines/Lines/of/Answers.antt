use Rattle.blif_read.proofs.Counted.{lines_of_text}
use Rattle.blif_read.proofs.lines.Lines.of.Goals as goal

pub returns : goal.returns
returns c = lines_of_text c.args.text.now
