use Rattle.std.proofs.Common.{◌≡◌, ◌-◌, length, vec_len, arith}
use Rattle.gds_records.proofs.Flowing.{dropped}
use Rattle.gds_records.proofs.writer.drop_piece.Goals as goal

pub returns : goal.returns
returns c =
    let all : vec_len c.args.buffer.now ≡ length c.args.buffer.now.items = omega arith in
    let rest : c.len-rest.result - 65536 ≡ length c.args.buffer.now.items - 65536 = omega arith in
    dropped 65536 c.args.buffer.now.items _ _ _ _ c.requires all rest c.copy_within.ensures.items
    c.truncate.ensures.items
