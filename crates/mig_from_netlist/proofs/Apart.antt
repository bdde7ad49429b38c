-- Tables that are compared.
use Rattle.std.specs.Prelude.{◌≡◌, ℕ, ◌<◌, ◌^◌, ◌&&◌, Bool, true, false, not, cond, bit_and, bit_xor}
use Rattle.std.specs.Int.{bit_not}
use Rattle.std.proofs.Common.{refl, sym, ap, ◌∙◌, w64}
use Rattle.truth_tables.specs.Tables.{holds, mask}
use Rattle.mig_from_netlist.specs.Code.Parts.{AreParts}
use Rattle.mig_from_netlist.specs.declared.parts.Parts.{Parts}
use Rattle.truth_tables.proofs.Bits.{holds_and, holds_xor, holds_not, holds_none, holds_mask}

equal_there : (p t m : Bool) → (cond p (not t) t && m) ≡ false → m ≡ true → t ≡ p
equal_there true true m e on = refl
equal_there true false m e on = absurd (let k : m ≡ false = e in let z : true ≡ false = sym on ∙ k in cc)
equal_there false true m e on = absurd (let k : m ≡ false = e in let z : true ≡ false = sym on ∙ k in cc)
equal_there false false m e on = refl

module _ (table part m i : ℕ) where
  pub same_high : (place : ℕ) → place < 6 → i < 64 → m ≡ mask place → bit_and (bit_xor part table) m ≡ 0
      → holds i place ≡ true → holds table i ≡ holds part i
  same_high place low lt is none on =
      equal_there (holds part i) (holds table i) (holds m i)
      (ap (λ x. x && holds m i) (sym (holds_xor part table i)) ∙ sym (holds_and (bit_xor part table) m i)
      ∙ ap (λ n. holds n i) none ∙ holds_none i)
      (ap (λ n. holds n i) is ∙ holds_mask place i low lt ∙ on)

  pub same_low : (place : ℕ) → place < 6 → i < 64 → m < 2 ^ 64 → m ≡ mask place
      → bit_and (bit_xor part table) (bit_not w64 m) ≡ 0 → holds i place ≡ false → holds table i ≡ holds part i
  same_low place low lt fits is none off =
      equal_there (holds part i) (holds table i) (holds (bit_not w64 m) i)
      (ap (λ x. x && holds (bit_not w64 m) i) (sym (holds_xor part table i))
      ∙ sym (holds_and (bit_xor part table) (bit_not w64 m) i) ∙ ap (λ n. holds n i) none ∙ holds_none i)
      (holds_not m i fits lt ∙ ap not (ap (λ n. holds n i) is ∙ holds_mask place i low lt ∙ off))

pub are_parts : (table : ℕ) (parts : Parts) (m n : ℕ) → parts.place < 6 → m < 2 ^ 64 → n < 2 ^ 64
    → m ≡ mask parts.place → n ≡ mask parts.place
    → bit_and (bit_xor parts.high table) m ≡ 0 → bit_and (bit_xor parts.low table) (bit_not w64 n) ≡ 0
    → AreParts table parts
are_parts table parts m n low fm fn im in_ high low_ = record {
  place = low;
  high = λ i lt on. same_high table parts.high m i parts.place low lt im high on;
  low = λ i lt off. same_low table parts.low n i parts.place low lt fn in_ low_ off;
}
