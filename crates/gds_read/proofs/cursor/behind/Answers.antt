use Rattle.std.proofs.Common.{ℕ, drop, ap, ◌∙◌, arith}
use Rattle.gds_read.proofs.Decoded.{front, goes}
use Rattle.gds_read.proofs.cursor.behind.Goals as goal

pub record_length-requires : goal.record_length-requires
record_length-requires c = (front c.args.bytes.now c.requires.spelled c.requires.some).head

pub split_at-requires : goal.split_at-requires
split_at-requires c = let f = front c.args.bytes.now c.requires.spelled c.requires.some in
    omega (arith, f.enough, c.record_length.ensures)

pub returns : goal.returns
returns c = goes c.args.bytes.now _ c.requires.spelled c.requires.some
    (c.split_at.ensures.back ∙ ap (λ (n : ℕ). drop n c.args.bytes.now) c.record_length.ensures)
