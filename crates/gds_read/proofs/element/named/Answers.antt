use Rattle.gds_read.proofs.Elements.{some_number, no_number}
use Rattle.gds_read.proofs.element.named.Goals as goal

pub returns-in-Some : goal.returns-in-Some
returns-in-Some c = some_number c.args.numbers.now.entries c.args.structures.now c.args.name.now c.in-Some.number
    c.requires c.in-Some.ensures

pub returns-in-None : goal.returns-in-None
returns-in-None c = no_number c.args.numbers.now.entries c.args.structures.now c.args.name.now c.requires
    c.in-None.ensures
