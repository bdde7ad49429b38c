use Rattle.std.proofs.Common.{ap, arith, length, length-append, length-take, take}
use Rattle.shown_names.specs.Names.{shown_bytes}
use Rattle.shown_names.proofs.Showing.{bytes_room}
use Rattle.shown_names.proofs.name.ShownName.push_bytes.Goals as goal

pub push_byte-requires : goal.push_byte-requires
push_byte-requires c =
    let bytes = c.args.bytes.now in
    let taken = take c.loop-byte.byte-index bytes in
    omega (
      arith,
      ap length c.loop-byte.invariant,
      length-append c.args.self.now (shown_bytes taken),
      bytes_room taken,
      length-take c.loop-byte.byte-index bytes,
      c.requires,
      c.loop-byte-test.true,
    )
