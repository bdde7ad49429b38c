use Rattle.layout_rules.specs.ExcitationRule.{IsCutOff}
use Rattle.shape_extract.proofs.Searching.{alone_yes, alone_no, said_true, said_false}
use Rattle.shape_extract.proofs.lines.reached_parts.CutOffPartsPart.second.Goals as goal

pub returns : goal.returns
returns c = alone_no (IsCutOff c.args.self.now.shapes.now) c.args.a
    (said_false _ _ c.is_cut_off.ensures c.if-is_cut_off.false)

pub returns-then-is_cut_off : goal.returns-then-is_cut_off
returns-then-is_cut_off c = alone_yes (IsCutOff c.args.self.now.shapes.now) c.args.a
    (said_true _ _ c.is_cut_off.ensures c.if-is_cut_off.true)
