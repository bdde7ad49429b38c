use Rattle.layout_make.proofs.ChipsDrawn.{first_drawn, second_drawn, third_drawn, least_drawn, wide_drawn}
use Rattle.layout_make.proofs.ChipsMayDraw.{may_least, may_wide}
use Rattle.layout_make.proofs.laws.worked_chips.Goals as goal

pub returns-clause-first : goal.returns-clause-first
returns-clause-first c = first_drawn

pub returns-clause-second : goal.returns-clause-second
returns-clause-second c = second_drawn

pub returns-clause-third : goal.returns-clause-third
returns-clause-third c = third_drawn

pub returns-clause-least : goal.returns-clause-least
returns-clause-least c = least_drawn

pub returns-clause-wide : goal.returns-clause-wide
returns-clause-wide c = wide_drawn

pub returns-clause-may_least : goal.returns-clause-may_least
returns-clause-may_least c = may_least

pub returns-clause-may_wide : goal.returns-clause-may_wide
returns-clause-may_wide c = may_wide
