use Rattle.std.proofs.Common.{◌≡◌, ◌++◌, ◌∷◌, [], refl, arith}
use Rattle.std.specs.Prelude.{slice_index}
use Rattle.shape_extract.proofs.PinFrameLists.{numbers_more}
use Rattle.shape_extract.proofs.kinds.numbers_at.Goals as goal

pub loop-place-preserved : goal.loop-place-preserved
loop-place-preserved c =
    let longer : c.push.new.self.items ≡ c.loop-place.named.items ++ (slice_index c.args.numbers.now
    (slice_index c.args.places.now c.loop-place.place-index) ∷ []) = c.in_ok-push.ensures.items in
    rw longer (numbers_more _ c.loop-place.place-index c.loop-place.named.items _ c.loop-place.invariant refl)

pub returns : goal.returns
returns c = record {
  long = omega (arith, c.loop-place.invariant.long);
  each = λ k lt within. c.loop-place.invariant.each k (omega arith);
}
