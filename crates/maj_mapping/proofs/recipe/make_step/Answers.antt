use Rattle.maj_mapping.proofs.RightAll.{operand_below, names_inside}
use Rattle.maj_mapping.proofs.recipe.make_step.Goals as goal

pub inv-requires-clause-inside : goal.inv-requires-clause-inside
inv-requires-clause-inside c = rw c.gate_of-x-in-Inv.ensures
    (operand_below _ _ c.args.done.now (names_inside _ _ _ _ _ c.requires.good c.requires.a c.requires.b c.requires.c)
    c.requires.done c.in-Inv.x)
