use Rattle.std.proofs.Common.{◌+◌, ◌≤◌, length}
use Rattle.blif_read.proofs.Passing.{Passing}
use Rattle.blif_read.proofs.lines.pass_lines.Given as goal

abbrev pub invariant-lines : goal.invariant-lines
invariant-lines l = record {
  later : l.number ≤ l.next;
  fits : l.next + length l.rest ≤ l.number + length l.fn.text;
  passing : Passing l.number l.fn.text l.rest l.next l.any;
}

abbrev pub decreases-lines : goal.decreases-lines
decreases-lines l = length l.rest
