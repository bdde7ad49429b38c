use Rattle.std.proofs.Common.{◌≡◌, ◌+◌, ◌++◌, ◌∷◌, [], List, ℕ, zero, suc, sym, ap, ◌∙◌, arith}
use Rattle.sorting.specs.Numbers.{numbers}
use Rattle.test_plans.proofs.repeaters.forty.Goals as goal

one_more : (from count last : ℕ) → from + count ≡ last → numbers from (suc count) ≡ numbers from count ++ (last ∷ [])
one_more from zero last e = ap (λ (n : ℕ). n ∷ []) (omega (arith, e))
one_more from (suc count) last e = ap (λ (ns : List ℕ). from ∷ ns) (one_more (suc from) count last (omega (arith, e)))

pub loop-slot-preserved : goal.loop-slot-preserved
loop-slot-preserved c =
    let slot = c.loop-slot.slot in
    let next : suc slot ≡ slot + 1 = omega arith in
    c.in_ok-push.ensures.items ∙ ap (λ (ns : List ℕ). ns ++ (slot ∷ [])) c.loop-slot.invariant
    ∙ sym (one_more 0 slot slot (omega arith)) ∙ ap (numbers 0) next
