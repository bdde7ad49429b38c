use Rattle.text_report.proofs.LeastOutline.{outline_least}
use Rattle.text_report.proofs.laws.outline_is_least.Goals as goal

pub returns : goal.returns
returns c = outline_least
