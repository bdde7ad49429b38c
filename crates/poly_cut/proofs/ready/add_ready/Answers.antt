use Rattle.std.proofs.Common.{Option, refl, subst}
use Rattle.poly_cut.specs.declared.ready.Ready.{Ready}
use Rattle.poly_cut.specs.Code.Readied.{IsReadied}
use Rattle.poly_cut.proofs.Readying.{left_out}
use Rattle.poly_cut.proofs.ready.add_ready.Goals as goal

pub returns-in-None : goal.returns-in-None
returns-in-None c =
    left_out c.args.structures.now c.args.item.now c.args.ready.now _ refl
    (subst (λ (o : Option Ready). IsReadied c.args.structures.now c.args.item.now o) c.in-None.is c.in_ok-adds.ensures)
