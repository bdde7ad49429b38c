use Rattle.std.proofs.Common.{sym, ◌∙◌}
use Rattle.level_balance.proofs.Rooms.{constant_room}
use Rattle.level_balance.proofs.rows.source_of.Goals as goal

pub put-requires : goal.put-requires
put-requires c =
    constant_room c.args.below.now.inputs c.args.below.now.row c.args.below.now.ends.now c.args.rows.now.items
    c.args.number c.args.gate (sym c.is_constant.ensures ∙ c.if-is_constant.true) c.requires
