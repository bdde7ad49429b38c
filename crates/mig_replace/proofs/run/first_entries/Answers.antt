use Rattle.std.proofs.lemmas.Option.{slice_get-get_or}
use Rattle.mig_replace.proofs.Computing.{none_entry, leaf_entry, entries_more}
use Rattle.mig_replace.proofs.run.first_entries.Goals as goal

pub loop-place-init : goal.loop-place-init
loop-place-init c = λ b there. rw (c.in_ok-push.ensures.items, c.new-entries.ensures.items)
    (none_entry b c.args.leaves.now, tt)

pub loop-place-preserved : goal.loop-place-preserved
loop-place-preserved c =
    λ b there. rw c.in_ok-push-2.ensures.items
    (entries_more b c.args.leaves.now c.loop-place.entries.items _ (c.loop-place.invariant b there)
    (leaf_entry b c.args.leaves.now c.loop-place.place _ _ c.requires there
    (slice_get-get_or c.args.leaves.now c.loop-place.place _ c.loop-place-test.true) c.mask.ensures))
