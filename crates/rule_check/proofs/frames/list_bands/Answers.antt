use Rattle.std.proofs.lemmas.List.Sorted.{Contains-permutation}
use Rattle.rule_check.specs.Code.Bands.{band_of}
use Rattle.rule_check.proofs.frames.list_bands.Goals as goal

pub returns-clause-are : goal.returns-clause-are
returns-clause-are c n s got frame =
    rw c.from_vec.ensures (c.in_ok-bands-2.ensures.same (band_of s)
    (rw c.as_slice.ensures.value (Contains-permutation _ _ (band_of s) c.sort_unstable_by_key.ensures.permutation
    (c.in_ok-bands.ensures.are n s got frame))))
