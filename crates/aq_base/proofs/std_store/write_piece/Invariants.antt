use Rattle.std.proofs.Common.{◌≡◌, ◌≤◌, length, take}
use Rattle.aq_base.specs.Acts.{wrote}
use Rattle.aq_base.specs.Disks.{acts_of}
use Rattle.aq_base.proofs.std_store.write_piece.Given as goal

abbrev pub invariant-loop : goal.invariant-loop
invariant-loop g l = record {
  within : l.done ≤ length l.piece;
  written : acts_of l.disk ≡ wrote (take l.done l.piece) (acts_of l.initial.disk);
}
