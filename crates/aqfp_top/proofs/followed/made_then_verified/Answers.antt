use Rattle.aqfp_top.proofs.VerifyingMade.{followed}
use Rattle.aqfp_top.proofs.followed.made_then_verified.Goals as goal

pub returns : goal.returns
returns c planner history later words out after made checked end check shown shown' answer text form hears is says =
    let verifies = c.built_is_verified.ensures.verified made.lib text made.equations made.chip made.cells made.says.lib_says
    made.of_net says in
    followed made.equations made.chip made.cells made.lib text verifies
    (c.each_layout_is_checked.ensures.well _ made.lib text verifies.sound) check checked end shown shown' answer form hears is
