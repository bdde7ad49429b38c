use Rattle.layout_rules.specs.CircuitRules.{IsInput}
use Rattle.std.proofs.Common.{false}
use Rattle.shape_extract.proofs.CellFeeds.{plain_input, driven_from}
use Rattle.shape_extract.proofs.circuits.cell_feeds.feed_of.Goals as goal

pub driver_of-driver-requires-clause-input : goal.driver_of-driver-requires-clause-input
driver_of-driver-requires-clause-input c =
    plain_input c.args.tables.now.flat.now c.args.p c.requires.input c.in_default.ensures

pub returns : goal.returns
returns c =
    let input : IsInput c.args.tables.now.flat.now false c.args.p =
    plain_input c.args.tables.now.flat.now c.args.p c.requires.input c.in_default.ensures in
    driven_from _ _ _ _ _ c.requires.tables c.args.p c.driver_of-driver.result c.source_of-source.result input
    c.driver_of-driver.ensures c.source_of-source.ensures
