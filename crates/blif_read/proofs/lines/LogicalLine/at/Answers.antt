use Rattle.std.proofs.Common.{◌∙◌, ap, ℕ, List}
use Rattle.blif_read.specs.Lines.{Line}
use Rattle.blif_read.specs.Statements.{word}
use Rattle.blif_read.proofs.lines.LogicalLine.at.Goals as goal

abbrev line_with : ℕ → List (List ℕ) → Line
line_with number tokens = record { number = number; tokens = tokens }

pub invariant_of-result : goal.invariant_of-result
invariant_of-result c = c.statement_in-statement.ensures c.args.number
    ∙ ap (λ ts. word (line_with c.args.number ts)) c.copy.ensures.same
