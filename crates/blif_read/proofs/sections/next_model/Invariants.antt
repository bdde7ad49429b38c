use Rattle.std.proofs.Common.{◌<◌, ◌^◌, length}
use Rattle.blif_read.proofs.Modelled.{IsBehind}
use Rattle.blif_read.proofs.sections.next_model.Given as goal

abbrev pub invariant-lines : goal.invariant-lines
invariant-lines l = record {
  behind : IsBehind l.at l.rest l.lines;
  few : length l.lines < 2 ^ 63;
}

abbrev pub decreases-lines : goal.decreases-lines
decreases-lines l = length l.rest
