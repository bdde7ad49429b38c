use Rattle.std.proofs.Common.{◌≡◌, [], length, ap, ◌∙◌, rules}
use Rattle.std.proofs.lemmas.List.{nil_from_length, length-map}
use Rattle.std.specs.Str.Lines.{lines}
use Rattle.text_answers.specs.WordsText.{is_one}
use Rattle.text_answers.proofs.Reading.{none_enters, one_enters, first_fits}
use Rattle.text_answers.proofs.run.enter.Goals as goal

pub returns-then-is_empty : goal.returns-then-is_empty
returns-then-is_empty c = let empty : c.args.rest.now ≡ [] = nil_from_length c.args.rest.now
    (search rules) in λ text width waiting. none_enters _ _ _ _ _ _ (search rules) empty waiting

pub returns : goal.returns
returns c = let long : length c.copy_word.new.into ≡ length c.args.word.now = ap length c.copy_word.ensures
    ∙ (length-map c.first_line.result.0.now is_one
    ∙ first_fits c.args.rest.now c.first_line.result.0.now (lines c.first_line.result.1.now)
    (length c.args.word.now) c.first_line.ensures.lines c.requires) in λ text width waiting. one_enters _ _
    c.first_line.result.0.now c.first_line.result.1.now _ _ _ _ _
    (search rules) c.first_line.ensures.lines c.copy_word.ensures long waiting
