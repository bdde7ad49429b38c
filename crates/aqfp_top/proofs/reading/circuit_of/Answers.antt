use Rattle.cell_library.specs.Library.{limits_of}
use Rattle.poly_cut.specs.FlatForm.{wide_flat}
use Rattle.aqfp_top.proofs.Judging.{is_ruled}
use Rattle.aqfp_top.proofs.reading.circuit_of.Goals as goal

pub returns-clause-ok : goal.returns-clause-ok
returns-clause-ok c =
    is_ruled (wide_flat c.args.layout) (limits_of c.args.cells.now) c.in_ok-chip.chip c.in_ok-chip.ensures.ok
