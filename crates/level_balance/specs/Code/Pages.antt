-- Numbers in pages: how one keeps them, and how many each has.
use Rattle.std.specs.Prelude.{◌≡◌, ℕ, ◌<◌, ◌≤◌, ◌^◌, ◌-◌, List, [], ◌∷◌, length}
use Rattle.level_balance.specs.declared.page.Kept.{Kept}
use Rattle.level_balance.specs.declared.page.Kept.TheVariants as kept

-- the numbers of a page
abbrev pub kept_numbers : Kept → List ℕ
kept_numbers (kept.Bytes numbers) = numbers.items
kept_numbers (kept.Halves numbers) = numbers.items
kept_numbers (kept.Words numbers) = numbers.items
kept_numbers (kept.Wide numbers) = numbers.items

-- the greatest number that a page can take as it is
abbrev pub most_kept : Kept → ℕ
most_kept (kept.Bytes numbers) = 2 ^ 8 - 1
most_kept (kept.Halves numbers) = 2 ^ 16 - 1
most_kept (kept.Words numbers) = 2 ^ 32 - 1
most_kept (kept.Wide numbers) = 2 ^ 64 - 1

-- each page has so many numbers, the last at most so many
abbrev pub ArePages : ℕ → List (List ℕ) → Type 0
ArePages size [] = Unit {0}
ArePages size (page ∷ pages) = (length page ≤ size) × (0 < length pages → length page ≡ size) × ArePages size pages
