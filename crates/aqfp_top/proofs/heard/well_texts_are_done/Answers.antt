use Rattle.aqfp_top.proofs.EndedWell.{judged_well_ends}
use Rattle.aqfp_top.proofs.heard.well_texts_are_done.Goals as goal

pub returns : goal.returns
returns c = judged_well_ends
