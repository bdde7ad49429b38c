use Rattle.layout_rules.proofs.FirstLines.{even_line, odd_line}
use Rattle.layout_rules.proofs.laws.first_chip_has_lines.Goals as goal

pub returns-clause-even : goal.returns-clause-even
returns-clause-even c = even_line

pub returns-clause-odd : goal.returns-clause-odd
returns-clause-odd c = odd_line
