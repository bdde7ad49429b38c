use Rattle.plan_draw.proofs.Chips.{cells_may_draw, cells_answer}
use Rattle.plan_draw.proofs.Sizes.{decided}
use Rattle.plan_draw.proofs.OneChip.{one_chip, chip_or_refusal, one_refusal}
use Rattle.plan_draw.proofs.laws.cell_plan_laws.Goals as goal

pub returns-clause-draws : goal.returns-clause-draws
returns-clause-draws c = cells_may_draw

pub returns-clause-answers : goal.returns-clause-answers
returns-clause-answers c = cells_answer

pub returns-clause-decided : goal.returns-clause-decided
returns-clause-decided c = decided

pub returns-clause-one : goal.returns-clause-one
returns-clause-one c = one_chip

pub returns-clause-past : goal.returns-clause-past
returns-clause-past c = chip_or_refusal

pub returns-clause-only : goal.returns-clause-only
returns-clause-only c = one_refusal
