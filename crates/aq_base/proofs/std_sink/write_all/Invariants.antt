use Rattle.std.proofs.Common.{◌≡◌, ◌≤◌, length, take}
use Rattle.std.specs.Io.KnownBytes.{Appends}
use Rattle.aq_base.specs.Acts.{wrote}
use Rattle.aq_base.specs.Pipes.{calls_of, writer_of}
use Rattle.aq_base.proofs.std_sink.write_all.Given as goal

abbrev pub invariant-loop : goal.invariant-loop
invariant-loop g l = record {
  within : l.done ≤ length l.piece;
  calls : calls_of l.pipe ≡ wrote (take l.done l.piece) (calls_of l.initial.pipe);
  written : Appends (g.W.Write.contents (writer_of l.initial.pipe)) (g.W.Write.contents (writer_of l.pipe))
      (take l.done l.piece);
}
