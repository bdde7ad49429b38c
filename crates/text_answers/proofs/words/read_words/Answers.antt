use Rattle.std.proofs.Common.{◌≡◌, [], false, true, rules, refl}
use Rattle.std.proofs.lemmas.List.{nil_from_length}
use Rattle.text_answers.specs.WordsText.{is_word}
use Rattle.text_answers.proofs.Reading.{read_bad, read_more, read_all, words_wide}
use Rattle.text_answers.proofs.words.read_words.Goals as goal

pub returns-then-not-is_word-clause-bad : goal.returns-then-not-is_word-clause-bad
returns-then-not-is_word-clause-bad c = let bad : is_word c.args.width c.first_line.result.0.now ≡ false =
    search rules in read_bad _ _ _ c.first_line.result.1.now _ _ _ c.loop-rest.invariant
    c.first_line.ensures.lines bad refl

pub loop-rest-preserved : goal.loop-rest-preserved
loop-rest-preserved c = let good : is_word c.args.width c.first_line.result.0.now ≡ true =
    search rules in read_more _ _ _ _ _ _ c.loop-rest.invariant c.first_line.ensures.lines
    c.first_line.ensures.shorter good

pub returns-clause-says : goal.returns-clause-says
returns-clause-says c = let end : c.loop-rest.rest.now ≡ [] = nil_from_length c.loop-rest.rest.now (search rules) in
    (read_all _ _ _ _ c.loop-rest.invariant end).0

pub returns-clause-wide : goal.returns-clause-wide
returns-clause-wide c = let end : c.loop-rest.rest.now ≡ [] = nil_from_length c.loop-rest.rest.now
    (search rules) in words_wide c.args.width c.args.text.now (read_all _ _ _ _ c.loop-rest.invariant end).0
