use Rattle.std.proofs.Common.{◌≡◌, ◌∙◌, sym, ap, ℕ, List, [], ◌∷◌}
use Rattle.blif_read.specs.Lines.{Line}
use Rattle.blif_read.specs.Statements.{word, word_of}
use Rattle.blif_read.proofs.Passing.{row_word}
use Rattle.blif_read.proofs.lines.statement_in.Goals as goal

abbrev line_with : ℕ → List (List ℕ) → Line
line_with number tokens = record { number = number; tokens = tokens }

pub returns-then-begins_row : goal.returns-then-begins_row
returns-then-begins_row c number = row_word number c.args.tokens (c.begins_row.ensures c.if-begins_row.true)

pub returns-in-Some : goal.returns-in-Some
returns-in-Some c number = c.word_of.ensures ∙ ap (λ ts. word (line_with number ts)) (sym c.in-Some.ensures.some)

pub returns-in-None : goal.returns-in-None
returns-in-None c number = ap (λ ts. word (line_with number ts)) (sym c.in-None.ensures.none)
