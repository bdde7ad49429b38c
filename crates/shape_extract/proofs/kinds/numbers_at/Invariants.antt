use Rattle.std.proofs.Common.{◌≡◌}
use Rattle.std.specs.Prelude.{slice_index}
use Rattle.shape_extract.proofs.PinFrameLists.{NumbersTo}
use Rattle.shape_extract.proofs.kinds.numbers_at.Given as goal

abbrev pub invariant-loop-place : goal.invariant-loop-place
invariant-loop-place l =
    NumbersTo (λ p n. n ≡ slice_index l.numbers (slice_index l.places p)) l.place-index l.named.items
