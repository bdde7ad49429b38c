use Rattle.std.proofs.Common.{refl, sym, ap, subst, ◌∙◌, List}
use Rattle.rowed.specs.declared.row_cell.RowCell.{RowCell}
use Rattle.rowed.specs.RowNets.{IsRowNet}
use Rattle.row_place.specs.Examples.{tied_net}
use Rattle.rowed.proofs.TestedNets.{row_net_from_test}
use Rattle.test_plans.proofs.places.tied_net.Goals as goal

pub invariant_of-result : goal.invariant_of-result
unfolding tied_net
invariant_of-result c =
    subst (λ (rows : List (List RowCell)). IsRowNet (record tied_net { rows = rows }))
    (sym (c.from_vec.ensures ∙ c.in_ok-rows.ensures)) (row_net_from_test tied_net refl)

pub returns : goal.returns
unfolding tied_net
returns c = ap (λ (rows : List (List RowCell)). record tied_net { rows = rows })
    (c.from_vec.ensures ∙ c.in_ok-rows.ensures)
