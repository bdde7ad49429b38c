use Rattle.std.proofs.Common.{ap, ◌∙◌, ◌+◌, ℕ, length, refl}
use Rattle.std.proofs.lemmas.List.{length_push}
use Rattle.union_find.proofs.Pushed.{pushed}
use Rattle.union_find.proofs.heights.numbers.Goals as goal

pub loop-number-preserved : goal.loop-number-preserved
loop-number-preserved c = record {
  long =
      let long = length_push c.loop-number.numbers.items c.loop-number.number in
      ap length c.in_ok-push.ensures.items ∙ long ∙ ap (λ (n : ℕ). n + 1) c.loop-number.invariant.long;
  each =
      rw c.in_ok-push.ensures.items
      (pushed c.loop-number.numbers.items c.loop-number.number c.loop-number.number (λ s. s)
      c.loop-number.invariant.long c.loop-number.invariant.each refl);
}
