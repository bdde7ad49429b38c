use Rattle.aqfp_top.specs.Words.{spelled}
use Rattle.aqfp_top.proofs.Running.{shapes_run}
use Rattle.aqfp_top.proofs.ShowingShapes.{showing_only}
use Rattle.aqfp_top.proofs.shapes.shapes.Goals as goal

pub returns-clause-only : goal.returns-clause-only
returns-clause-only g c = showing_only c.show.result c.show.ensures.only

pub returns-clause-runs : goal.returns-clause-runs
returns-clause-runs g c =
    shapes_run c.args.first c.args.second _ _ (spelled c.args.words.now) c.in_ok-gds.gds.items _ _ c.show.result
    c.in_ok-gds.ensures.history c.in_ok-gds.ensures.fits c.show.ensures.answer c.show.ensures.only c.show.ensures.prints
