use Rattle.std.proofs.Common.{take, arith}
use Rattle.std.proofs.lemmas.List.{length-drop, length-take}
use Rattle.gds_records.specs.Faults.{length_of}
use Rattle.gds_read.proofs.Decoded.{front}
use Rattle.gds_read.proofs.cursor.length_at.Goals as goal

pub record_length-requires : goal.record_length-requires
record_length-requires c = (front c.args.bytes.now c.requires.spelled c.requires.some).head

pub returns : goal.returns
returns c =
    let f = front c.args.bytes.now c.requires.spelled c.requires.some in
    record {
      value = omega (
        arith,
        f.least,
        f.enough,
        c.record_length.ensures,
        length-drop 4
            (take (length_of c.args.bytes.now) c.args.bytes.now),
        length-take
            (length_of c.args.bytes.now) c.args.bytes.now,
      );
      within = omega (arith, f.enough, c.record_length.ensures);
      head = c.record_length.ensures;
    }
