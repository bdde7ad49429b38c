use Rattle.std.proofs.Common.{rules}
use Rattle.plan_draw.specs.Code.Found.{IsStanding}
use Rattle.plan_draw.proofs.DrawnRows.{standing_answers}
use Rattle.plan_draw.proofs.found.drawable.Goals as goal

pub drawable_chip-requires-clause-answers : goal.drawable_chip-requires-clause-answers
drawable_chip-requires-clause-answers c =
    let stands : IsStanding c.args._rows.now c.in-Some.placed = search rules in
    standing_answers c.args.library.now c.args.net.now c.args._rows.now c.in-Some.placed c.requires.rows stands
