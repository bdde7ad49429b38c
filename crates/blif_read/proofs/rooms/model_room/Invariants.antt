use Rattle.std.proofs.Common.{length}
use Rattle.blif_read.proofs.rooms.model_room.Given as goal

abbrev pub decreases-lines : goal.decreases-lines
decreases-lines l = length l.rest
