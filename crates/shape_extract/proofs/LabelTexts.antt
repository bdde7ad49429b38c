-- The number that a label's digits write, as it is read.
use Rattle.std.proofs.Common.{◌≡◌, ℕ, ◌<◌, ◌≤◌, ◌^◌, true, List, Option, Some, None, refl, sym, inl, inr}
use Rattle.std.specs.Prelude.{IsNone, MatchOption, ◌↔◌}
use Rattle.std.specs.Fmt.{decimal}
use Rattle.std.specs.Str.Parse.{digits_value}
use Rattle.std.proofs.lemmas.Bool.{cases_lt}
use Rattle.aq_base.specs.Decimal.{IsUnreadable}
use Rattle.layout_rules.specs.Labels.{is_decimal}
use Rattle.layout_rules.proofs.LabelLaws.{decimal-is_decimal}

-- the number is told where it is below 2^64
pub number_said : (text : List ℕ) (r : Option ℕ) → is_decimal text ≡ true → (IsNone r ↔ IsUnreadable text)
    → ((n : ℕ) → n < 2 ^ 64 → text ≡ decimal n → r ≡ Some n)
    → MatchOption r (2 ^ 64 ≤ digits_value 10 text) (λ n. digits_value 10 text ≡ n)
number_said text r h none read = elim (cases_lt (digits_value 10 text) (2 ^ 64)) [
  | inl less ↦
      let e : r ≡ Some (digits_value 10 text) = read (digits_value 10 text) less
      (sym (decimal-is_decimal text h less)) in
      rw e refl
  | inr more ↦ large r (none.1 (inr (inr (inr more)))) more
]
  where
    large : (o : Option ℕ) → IsNone o → 2 ^ 64 ≤ digits_value 10 text
        → MatchOption o (2 ^ 64 ≤ digits_value 10 text) (λ n. digits_value 10 text ≡ n)
    large None e more = more
    large (Some n) e more = absurd cc
