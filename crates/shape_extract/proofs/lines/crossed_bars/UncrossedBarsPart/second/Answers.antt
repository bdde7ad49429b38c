use Rattle.layout_rules.specs.Code.ChainRule.{IsChainUncrossed}
use Rattle.shape_extract.proofs.Searching.{alone_yes, alone_no, said_true, said_false}
use Rattle.shape_extract.proofs.lines.crossed_bars.UncrossedBarsPart.second.Goals as goal

pub returns : goal.returns
returns c = alone_no (IsChainUncrossed c.args.self.now.shapes.now) c.args.a
    (said_false _ _ c.in_ok-is_not_crossed.ensures c.if-branch.false)

pub returns-then-branch : goal.returns-then-branch
returns-then-branch c = alone_yes (IsChainUncrossed c.args.self.now.shapes.now) c.args.a
    (said_true _ _ c.in_ok-is_not_crossed.ensures c.if-branch.true)
