-- What is told of each number of a list, where one more is pushed.
use Rattle.std.proofs.Common.{◌≡◌, ℕ, ◌+◌, ◌<◌, List, [], ◌∷◌, ◌++◌, length, arith, ap, sym, ◌∙◌, inl, inr}
use Rattle.std.specs.Prelude.{slice_index}
use Rattle.std.proofs.lemmas.Bool.{cases_eq}
use Rattle.std.proofs.lemmas.List.{get_or_push, get_or_append_left}

pub pushed : (xs : List ℕ) (x n : ℕ) (h : ℕ → ℕ) → length xs ≡ n → ((s : ℕ) → s < n → slice_index xs s ≡ h s) → x ≡ h n
    → (s : ℕ) → s < n + 1 → slice_index (xs ++ x ∷ []) s ≡ h s
pushed xs x n h long each is s lt = elim (cases_eq s n) [
  | inl e ↦ ap (slice_index (xs ++ x ∷ [])) e ∙ get_or_push xs x 0 n long ∙ is ∙ ap h (sym e)
  | inr ne ↦
      let low : s < n = omega (arith, ne) in
      get_or_append_left xs (x ∷ []) 0 s (omega (arith, long)) ∙ each s low
]
