use Rattle.layout_rules.proofs.LinesAgree.{laid_out, none_cut_off}
use Rattle.shape_extract.proofs.circuits.cell_spans.cell_spans.Goals as goal

pub ways_of-requires-clause-lines : goal.ways_of-requires-clause-lines
ways_of-requires-clause-lines c = laid_out c.args.shapes.now c.requires.kept

pub ways_of-requires-clause-cut_off : goal.ways_of-requires-clause-cut_off
ways_of-requires-clause-cut_off c = none_cut_off c.args.shapes.now c.requires.kept
