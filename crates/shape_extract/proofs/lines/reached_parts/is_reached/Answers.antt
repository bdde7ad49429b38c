use Rattle.shape_extract.proofs.LineReach.{reached_said}
use Rattle.shape_extract.proofs.lines.reached_parts.is_reached.Goals as goal

pub returns : goal.returns
returns c = reached_said _ _ c.requires.walked _ c.requires.within
