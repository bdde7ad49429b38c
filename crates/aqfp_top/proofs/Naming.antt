-- Two numbers of shapes have one fault at most.
use Rattle.std.proofs.Common.{ℕ, ◌≡◌, ◌<◌, ◌≤◌, ◌⊎◌, List, inl, inr, sym, ap, subst, ◌∙◌, arith}
use Rattle.geom.specs.FlatForm.{flat_count}
use Rattle.poly_cut.specs.declared.layout.WideLayout.{WideLayout}
use Rattle.poly_cut.specs.FlatForm.{wide_flat}
use Rattle.gds_records.specs.Stream.{IsWideStream}
use Rattle.aqfp_top.specs.Shown.{IsNumberFault}
use Rattle.aqfp_top.specs.declared.fault.Fault.{Fault}
use Rattle.aqfp_top.specs.declared.fault.Fault.TheVariants.{NoShape}

-- the first of the two that is past
abbrev IsWhich : ℕ → ℕ → ℕ → ℕ → Type 0
IsWhich first second count number = (number ≡ first) ⊎ ((first < count) × (number ≡ second))

same_which : (first second count a b : ℕ) → count ≤ a → count ≤ b → IsWhich first second count a
    → IsWhich first second count b → a ≡ b
same_which first second count a b p q (inl x) (inl y) = x ∙ sym y
same_which first second count a b p q (inl x) (inr y) = let less = y.0 in omega (arith, p, x, less)
same_which first second count a b p q (inr x) (inl y) = let less = x.0 in omega (arith, q, y, less)
same_which first second count a b p q (inr x) (inr y) = x.1 ∙ sym y.1

module _ (one_layout : (bytes : List ℕ) (layout other : WideLayout) → IsWideStream bytes layout
    → IsWideStream bytes other → layout ≡ other) where
  pub one_number_fault : (gds : List ℕ) (first second : ℕ) (f g : Fault) → IsNumberFault gds first second f
      → IsNumberFault gds first second g → f ≡ g
  one_number_fault gds first second (NoShape a n) (NoShape b m) p q =
      let same = one_layout gds p.layout q.layout p.read.stream q.read.stream in
      let counts : n ≡ m = p.none.count_is ∙ (ap (λ l. flat_count (wide_flat l)) same ∙ sym q.none.count_is) in
      let numbers : a ≡ b = same_which first second m a b (subst (λ c. c ≤ a) counts p.none.past) q.none.past
      (subst (λ c. IsWhich first second c a) counts p.none.which) q.none.which in
      λ i. NoShape (numbers i) (counts i)
  one_number_fault gds first second (NoShape a n) _ p q = absurd q
  one_number_fault gds first second _ g p q = absurd p
