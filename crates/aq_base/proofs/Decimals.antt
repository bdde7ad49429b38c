-- Digits, and the numbers that they write.
use Rattle.std.proofs.Common.{ℕ, ◌≡◌, ◌≢◌, ◌<◌, ◌≤◌, ◌+◌, ◌*◌, ◌-◌, ◌^◌, ◌⊎◌, List, [], ◌∷◌, ◌++◌, ◌/◌, ◌%◌}
use Rattle.std.proofs.Common.{length-append, length, get_or, take, arith, refl, sym, ap, rules, Option, Some, None, inl}
use Rattle.std.proofs.Common.{inr}
use Rattle.std.specs.Char.{IsAsciiDigit}
use Rattle.std.specs.Prelude.{IfSome, IsNone}
use Rattle.std.specs.Fmt.{decimal}
use Rattle.std.specs.Str.Parse.{digits_value}
use Rattle.std.specs.Char.{digit_value}
use Rattle.std.proofs.lemmas.Int.Digits.{digits_value_more}
use Rattle.std.proofs.lemmas.Str.Parse.{digits_value-take-le, numerals_by_value, tells_by_index, IsNumeralModel}
use Rattle.std.proofs.lemmas.Fmt.{decimal-digits_value, decimal_nonempty, decimal_by_steps, digits_decimal}
use Rattle.std.proofs.lemmas.Fmt.{digits_value-decimal}
use Rattle.std.proofs.Math.ListN.{get_or-append}
use Rattle.aq_base.specs.Decimal.{IsAllDigits, HasOtherByte, HasLeadingZero, IsUnreadable}

digit_value-digit : (c : ℕ) → IsAsciiDigit c → digit_value c ≡ c - 48
digit_value-digit c d = search (rules, d)

-- one more digit
pub value_more : (text : List ℕ) (i : ℕ) → i < length text → IsAsciiDigit (get_or text i 0) →
    digits_value 10 (take (i + 1) text) ≡ digits_value 10 (take i text) * 10 + (get_or text i 0 - 48)
value_more text i within digit = rw (digits_value_more 10 text i within, digit_value-digit (get_or text i 0) digit) refl

pub ruleset digit_steps = value_more

-- a number that is too large at some digit stays so
pub too_large : (text : List ℕ) (i number : ℕ) → 2 ^ 64 ≤ number → number ≤ digits_value 10 (take i text)
    → 2 ^ 64 ≤ digits_value 10 text
too_large text i number large reached = omega (arith, digits_value-take-le 10 text i (omega arith))

pub own : IsNumeralModel IsAllDigits (digits_value 10)
own = numerals_by_value IsAllDigits tells_by_index

refusal : (text : List ℕ) → HasOtherByte text ⊎ (2 ^ 64 ≤ digits_value 10 text) → IsUnreadable text
refusal text (inl other) = inr (inl other)
refusal text (inr large) = inr (inr (inr large))

length_some : (text : List ℕ) → text ≢ [] → 0 < length text
length_some [] some = absurd (some refl)
length_some (x ∷ xs) some = omega arith

pub written_as : (text : List ℕ) (number : ℕ) → text ≢ [] → ¬ HasLeadingZero text → IsAllDigits text
    → digits_value 10 text ≡ number → number < 2 ^ 64 → text ≡ decimal number
written_as text number some zero digits value fits =
    let some' : 0 < length text = length_some text some in
    let one : get_or text 0 0 ≡ 48 → length text ≡ 1 = λ e. let short : ¬ (1 < length text) =
    λ h. zero (h, e) in omega arith in
    sym (rw (← value) (decimal-digits_value own text digits some' one (omega arith)))

-- a number's first digit is zero for 0 alone, which has one digit
record FirstDigit (number : ℕ) (digits : List ℕ) : Type 0 where
  some : 0 < length digits
  zero : get_or digits 0 0 ≡ 48 → number ≡ 0
  alone : number ≡ 0 → length digits ≡ 1

first_digit : (number : ℕ) → number < 2 ^ 64 → FirstDigit number (decimal number)
first_digit number fits = decimal_by_steps FirstDigit one more number fits where
  one : (n : ℕ) → n < 10 → FirstDigit n ((48 + n) ∷ [])
  one n small = record { some = omega arith; zero = λ e. omega (arith, e); alone = λ _. refl }

  more : (n : ℕ) (digits : List ℕ) → 10 ≤ n → FirstDigit (n / 10) digits → FirstDigit n (digits ++ ((48 + n % 10) ∷ []))
  more n digits large first = record {
    some = omega (arith, length-append digits ((48 + n % 10) ∷ []));
    zero = λ e. absurd (let none : n / 10 ≡ 0 = first.zero
        (let some : 0 < length digits = first.some in rw get_or-append at e) in omega arith);
    alone = λ e. absurd (omega (arith, e));
  }

-- what `decimal` writes is read
readable_parts : (number : ℕ) → number < 2 ^ 64 → ¬ IsUnreadable (decimal number)
readable_parts number fits (inl e) = let some : 0 < length (decimal number) =
    decimal_nonempty number fits in omega (arith, ap length e)
readable_parts number fits (inr (inl other)) = other.2 (digits_decimal own number fits other.0 other.1)
readable_parts number fits (inr (inr (inl zero))) = let first = first_digit number fits in let none : number ≡ 0 =
    first.zero zero.1 in let one : length (decimal number) ≡ 1 = first.alone none in omega (arith, zero.0)
readable_parts number fits (inr (inr (inr large))) = let value : digits_value 10 (decimal number) ≡ number =
    digits_value-decimal own number fits in omega arith

-- a text that is refused isn't what `decimal` writes
pub refused_text : (text : List ℕ) (number : ℕ) → IsUnreadable text → number < 2 ^ 64
    → text ≡ decimal number → None ≡ Some number
refused_text text number unreadable fits e = absurd (readable_parts number fits (rw e at unreadable))

-- the answer on a text with some digit and without a leading zero
pub answer_written : (text : List ℕ) (answer : Option ℕ) → text ≢ [] → ¬ HasLeadingZero text
    → IfSome answer (λ n. n < 2 ^ 64) →
    IfSome answer (λ n. IsAllDigits text × (digits_value 10 text ≡ n)) → IfSome answer (λ n. text ≡ decimal n)
answer_written text None some zero fits digits = tt
answer_written text (Some n) some zero fits digits = written_as text n some zero digits.0 digits.1 fits

pub answer_read : (text : List ℕ) (answer : Option ℕ) (number : ℕ) → text ≢ [] → ¬ HasLeadingZero text →
    IfSome answer (λ n. IsAllDigits text × (digits_value 10 text ≡ n))
    → (IsNone answer → HasOtherByte text ⊎ (2 ^ 64 ≤ digits_value 10 text)) →
    number < 2 ^ 64 → text ≡ decimal number → answer ≡ Some number
answer_read text None number some zero digits none fits e =
    absurd (readable_parts number fits (rw e at (refusal text (none refl))))
answer_read text (Some n) number some zero digits none fits e = let value : digits_value 10 (decimal number) ≡ number =
    digits_value-decimal own number fits in rw (← value, ← e) (ap (λ x. Some x) (sym digits.1))

pub ruleset decimal_texts = (refused_text, answer_written, answer_read)
