use Rattle.std.proofs.Common.{arith}
use Rattle.gds_read.proofs.Decoded.{front}
use Rattle.gds_read.proofs.cursor.kind_at.Goals as goal

pub bounds-bytes-2 : goal.bounds-bytes-2
bounds-bytes-2 c = let f = front c.args.bytes.now c.requires.spelled c.requires.some in omega (arith, f.head)
