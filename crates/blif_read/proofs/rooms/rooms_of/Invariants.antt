use Rattle.std.proofs.Common.{length}
use Rattle.blif_read.proofs.rooms.rooms_of.Given as goal

abbrev pub decreases-lines : goal.decreases-lines
decreases-lines l = length l.rest
