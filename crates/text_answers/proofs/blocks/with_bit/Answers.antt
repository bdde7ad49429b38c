use Rattle.std.proofs.Common.{sym, ◌∙◌}
use Rattle.text_answers.proofs.InLanes.{set_here, set_others, clear_here, clear_others}
use Rattle.text_answers.proofs.blocks.with_bit.Goals as goal

pub returns-then-bit-clause-here : goal.returns-then-bit-clause-here
returns-then-bit-clause-here c = set_here c.args.number c.args.lane c.requires ∙ sym c.if-bit.true

pub returns-then-bit-clause-others : goal.returns-then-bit-clause-others
returns-then-bit-clause-others c = λ l below other. set_others c.args.number c.args.lane l c.requires other

pub returns-else-bit-clause-here : goal.returns-else-bit-clause-here
returns-else-bit-clause-here c = clear_here c.args.number c.args.lane c.requires ∙ sym c.if-bit.false

pub returns-else-bit-clause-others : goal.returns-else-bit-clause-others
returns-else-bit-clause-others c = λ l below other. clear_others c.args.number c.args.lane l c.requires below other
