use Rattle.std.proofs.Common.{refl}
use Rattle.mig_replace.proofs.Computing.{entries_later, entries_more, entries_joined}
use Rattle.mig.proofs.Built.{grown_then, grown_same}
use Rattle.mig_replace.proofs.run.run.Goals as goal

pub loop-one-init : goal.loop-one-init
loop-one-init c = record {
  grown = grown_same c.args.builder.now c.args.builder.now refl;
  entries = rw c.in_ok-extend_from_slice.ensures.items
      (entries_joined c.args.builder.now c.args.leaves.now c.in_ok-entries.entries.items c.args.others.now
      (c.in_ok-entries.ensures c.args.builder.now c.requires.there) c.requires.others);
}

pub loop-one-preserved : goal.loop-one-preserved
loop-one-preserved c = record {
  grown = grown_then c.args.builder.now c.loop-one.builder c.step.new.builder c.loop-one.invariant.grown
      c.in_ok-entry.ensures.grown;
  entries = rw c.in_ok-push.ensures.items
      (entries_more c.step.new.builder c.args.leaves.now c.loop-one.entries.items c.in_ok-entry.entry
      (entries_later c.loop-one.builder c.step.new.builder c.args.leaves.now c.loop-one.entries.items
      c.in_ok-entry.ensures.grown c.loop-one.invariant.entries) c.in_ok-entry.ensures.entry);
}
