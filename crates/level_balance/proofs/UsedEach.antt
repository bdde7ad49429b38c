-- Uses that are counted in an array: each gate has those of the list.
use Rattle.std.proofs.Common.{◌≡◌, ℕ, zero, suc, ◌+◌, ◌<◌, List, [], ◌∷◌, length, replicate, get_or, set}
use Rattle.std.proofs.Common.{slice_index_or, slice_set, refl, sym, ap, ◌∙◌, arith, inl, inr}
use Rattle.std.proofs.lemmas.Bool.{cases_eq}
use Rattle.std.proofs.lemmas.List.{length-set, get_or-set_same, get_or-set_other}
use Rattle.level_balance.specs.Uses.{uses_of}
use Rattle.level_balance.specs.Code.Served.{used_each}
use Rattle.level_balance.proofs.Linked.{uses_same, uses_other}

pub used_length : (fans xs : List ℕ) → length (used_each fans xs) ≡ length fans
used_length fans [] = refl
used_length fans (x ∷ xs) = used_length (slice_set fans x (suc (slice_index_or fans x 0))) xs
    ∙ length-set fans x (suc (slice_index_or fans x 0))

pub used_at : (fans xs : List ℕ) (q j : ℕ) → j < length fans
    → get_or (used_each fans xs) j 0 ≡ get_or fans j 0 + length (uses_of j q xs)
used_at fans [] q j lt = omega arith
used_at fans (x ∷ xs) q j lt =
    let more = suc (get_or fans x 0) in
    let size = length-set fans x more in
    let rest = used_at (set fans x more) xs (suc q) j (omega arith) in
    elim (cases_eq x j) [
      | inl same ↦
          (let here : get_or (set fans x more) j 0 ≡ more = ap (λ (t : ℕ). get_or (set fans x more) t 0) (sym same)
          ∙ get_or-set_same fans x more 0 (omega arith) in
          let count = ap length (uses_same j q x xs same) in
          let old = ap (λ (t : ℕ). get_or fans t 0) same in omega arith)
      | inr other ↦
          (let here : get_or (set fans x more) j 0 ≡ get_or fans j 0 =
          get_or-set_other fans x j more 0 (λ e. other (sym e)) in
          let count = ap length (uses_other j q x xs other) in omega arith)
    ]

pub none_at : (m j : ℕ) → get_or (replicate {A = ℕ} m 0) j 0 ≡ 0
none_at zero j = refl
none_at (suc m) zero = refl
none_at (suc m) (suc j) = none_at m j
