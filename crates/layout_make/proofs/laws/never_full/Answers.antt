use Rattle.std.proofs.Common.{arith}
use Rattle.layout_make.proofs.Ready.{may_ready}
use Rattle.layout_make.proofs.WireLengths.{few_over, used_below}
use Rattle.layout_make.proofs.laws.never_full.Goals as goal

pub returns-clause-below : goal.returns-clause-below
returns-clause-below c p l r x may =
    few_over p l (may_ready p l c.tracks_are_fewest.ensures.plan may) may.placed may.library may.short r x

pub returns-clause-tracks : goal.returns-clause-tracks
returns-clause-tracks c p l r may =
    used_below p l (may_ready p l c.tracks_are_fewest.ensures.plan may) may.placed may.library may.short r

pub returns-clause-none : goal.returns-clause-none
returns-clause-none c p l r x may over =
    let few = few_over p l (may_ready p l c.tracks_are_fewest.ensures.plan may) may.placed may.library may.short r x in
    absurd (omega (arith, over.over, few))
