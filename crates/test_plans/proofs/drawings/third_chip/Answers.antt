use Rattle.std.proofs.Common.{sym, subst}
use Rattle.rowed.specs.PlacedNets.{PlacedView}
use Rattle.cell_library.specs.LibraryA.{library_a_view}
use Rattle.layout_make.specs.MayDraw.{MayDraw}
use Rattle.test_plans.proofs.ChipsMayDraw.{may_third}
use Rattle.test_plans.proofs.drawings.third_chip.Goals as goal

pub layout-requires : goal.layout-requires
layout-requires c known =
    subst (λ (p : PlacedView). MayDraw p library_a_view) (sym c.in_ok-net.ensures) (may_third known)
