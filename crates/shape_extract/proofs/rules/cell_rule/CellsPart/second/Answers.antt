use Rattle.std.proofs.Common.{◌⊎◌}
use Rattle.layout_rules.specs.CircuitRules.{IsNoCell, IsStrayPin}
use Rattle.shape_extract.proofs.Searching.{alone_yes, alone_no, said_true, said_false}
use Rattle.shape_extract.proofs.rules.cell_rule.CellsPart.second.Goals as goal

pub returns : goal.returns
returns c = alone_no (λ n. IsNoCell c.args.self.now.shapes.now n ⊎ IsStrayPin c.args.self.now.shapes.now n) c.args.a
    (said_false _ _ c.in_ok-is_at_fault.ensures c.if-branch.false)

pub returns-then-branch : goal.returns-then-branch
returns-then-branch c = alone_yes (λ n. IsNoCell c.args.self.now.shapes.now n
    ⊎ IsStrayPin c.args.self.now.shapes.now n) c.args.a (said_true _ _ c.in_ok-is_at_fault.ensures c.if-branch.true)
