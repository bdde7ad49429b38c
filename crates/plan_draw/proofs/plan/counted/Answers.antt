use Rattle.plan_draw.proofs.FewElements.{few_elements}
use Rattle.plan_draw.proofs.plan.counted.Goals as goal

pub element_number-elements-requires : goal.element_number-elements-requires
element_number-elements-requires c =
    few_elements c.args._library.now c.args._net.now c.args.chip c.requires.library c.requires.net c.requires.short
