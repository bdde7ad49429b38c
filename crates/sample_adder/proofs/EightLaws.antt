-- The eight words have the width of the netlist.
use Rattle.std.proofs.Common.{◌≡◌, ℕ, zero, suc, ◌*◌, [], ◌∷◌, length, refl, ◌∙◌, arith, All, length-append}
use Rattle.std.proofs.lemmas.List.Elements.{All-nil, All-push}
use Rattle.sample_adder.specs.EightWords.{sample_value, sample_word, first_words, eight}

word_width : (k width : ℕ) → length (sample_word k width) ≡ width
word_width k zero = refl
word_width k (suc i) =
    length-append (sample_word k i) (sample_value k i ∷ []) ∙ (let front = word_width k i in omega arith)

each_width : (width count : ℕ) → All (λ word. length word ≡ width) (first_words width count)
each_width width zero = All-nil (λ word. length word ≡ width)
each_width width (suc k) =
    let front = each_width width k in
    All-push (λ word. length word ≡ width) (first_words width k) (sample_word k width) front (word_width k width)

pub eight_widths : (bits : ℕ) → All (λ word. length word ≡ 2 * bits) (eight bits)
unfolding eight
eight_widths bits = each_width (2 * bits) 8

pub eight_words : (bits : ℕ) → length (eight bits) ≡ 8
unfolding eight
eight_words bits = refl
