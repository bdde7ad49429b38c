-- The sizes of samples, and the numbers of shapes.
use Rattle.std.proofs.Common.{ℕ, ◌≡◌, ◌<◌, ◌≤◌, ◌^◌, inl, inr, List, Option, Some, length, codes, arith}
use Rattle.std.specs.Fmt.{decimal}
use Rattle.aqfp_top.specs.Words.{word_at, IsSampleSize, IsSampleOf, IsNumber, IsShapesOf, HasForm}

-- a number that is read and small enough is a size
pub size_read : (text : List ℕ) (bits : ℕ) → text ≡ decimal bits → 1 ≤ bits → bits ≤ 64 → IsSampleSize text bits
size_read text bits spelled some few = record { spelled_so = spelled; some = some; few = few }

-- a size is read as its number
pub size_is_read : (text : List ℕ) (bits : ℕ) (read : Option ℕ)
    → ((number : ℕ) → number < 2 ^ 64 → text ≡ decimal number → read ≡ Some number)
    → IsSampleSize text bits → read ≡ Some bits
size_is_read text bits read reads size = let few = size.few in reads bits (omega (arith, few)) size.spelled_so

pub ruleset sizes = (size_read, size_is_read)

pub is_sample : (words : List (List ℕ)) (bits : ℕ) → length words ≡ 2 → word_at words 0 ≡ codes "sample"
    → IsSampleSize (word_at words 1) bits → IsSampleOf words bits
is_sample words bits two named size = record { two = two; named = named; size = size }

-- a number that is read
pub number_read : (text : List ℕ) (number : ℕ) → text ≡ decimal number → number < 2 ^ 64 → IsNumber text number
number_read text number spelled fits = record { spelled_so = spelled; fits = fits }

-- a number is read as itself
pub number_is_read : (text : List ℕ) (number : ℕ) (read : Option ℕ)
    → ((n : ℕ) → n < 2 ^ 64 → text ≡ decimal n → read ≡ Some n) → IsNumber text number → read ≡ Some number
number_is_read text number read reads is = reads number is.fits is.spelled_so

pub ruleset numbers = (number_read, number_is_read)

pub are_shapes : (words : List (List ℕ)) (first second : ℕ) → length words ≡ 4 → word_at words 0 ≡ codes "shapes"
    → IsNumber (word_at words 2) first → IsNumber (word_at words 3) second → IsShapesOf words first second
are_shapes words first second four named one other =
    record { four = four; named = named; first_is = one; second_is = other }

-- words that are none of a build or of a check have no form where they are none of a sample
pub two_words : (words : List (List ℕ)) → length words ≡ 2 → ((bits : ℕ) → IsSampleOf words bits → ⊥) → ¬ HasForm words
two_words words two none (inl (inl build)) = let four = build.0 in omega (arith, two, four)
two_words words two none (inl (inr (inl compact))) = let four = compact.0 in omega (arith, two, four)
two_words words two none (inl (inr (inr draw))) = let four = draw.0 in omega (arith, two, four)
two_words words two none (inr (inl (inl verify))) = let four = verify.0 in omega (arith, two, four)
two_words words two none (inr (inl (inr trace))) = let four = trace.0 in omega (arith, two, four)
two_words words two none (inr (inr (inl sample))) = none sample.bits sample.of_bits
two_words words two none (inr (inr (inr (inl equal)))) = let four = equal.0 in omega (arith, two, four)
two_words words two none (inr (inr (inr (inr (inl write))))) = let four = write.0 in omega (arith, two, four)
two_words words two none (inr (inr (inr (inr (inr (inl report)))))) =
    let three = report.0 in omega (arith, two, three)
two_words words two none (inr (inr (inr (inr (inr (inr shapes)))))) =
    let four = shapes.of_numbers.four in omega (arith, two, four)

pub ruleset forms = (is_sample, two_words, are_shapes)
