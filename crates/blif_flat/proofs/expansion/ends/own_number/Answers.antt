use Rattle.std.proofs.Common.{◌∙◌, sym}
use Rattle.blif_flat.proofs.OutputNumbers.{own_number_some, own_number_none}
use Rattle.blif_flat.proofs.expansion.ends.own_number.Goals as goal

pub returns-in-Some : goal.returns-in-Some
returns-in-Some c = λ places is size. own_number_some c.args.numbers.now.entries places
    c.args.name.now c.in-Some.number is
    (sym c.number_of.ensures ∙ c.in-Some.is)

pub returns-in-None : goal.returns-in-None
returns-in-None c = λ places is size. own_number_none c.args.numbers.now.entries places c.args.name.now c.args.count is
    (sym c.number_of.ensures ∙ c.in-None.is) size
