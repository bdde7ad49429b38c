use Rattle.std.proofs.Common.{arith}
use Rattle.gds_read.proofs.Decoded.{front}
use Rattle.gds_read.proofs.cursor.data_at.Goals as goal

pub record_length-requires : goal.record_length-requires
record_length-requires c = (front c.args.bytes.now c.requires.spelled c.requires.some).head

pub split_at-requires : goal.split_at-requires
split_at-requires c = let f = front c.args.bytes.now c.requires.spelled c.requires.some in
    omega (arith, f.enough, c.record_length.ensures)

pub split_at-requires-2 : goal.split_at-requires-2
split_at-requires-2 c = let f = front c.args.bytes.now c.requires.spelled c.requires.some in
    omega (arith, f.least, c.record_length.ensures, c.split_at.ensures.front_len)
