use Rattle.text_answers.proofs.InLanes.{test_holds}
use Rattle.text_answers.proofs.blocks.is_set.Goals as goal

pub returns : goal.returns
returns c = test_holds c.args.number c.args.lane
