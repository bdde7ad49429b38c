use Rattle.text_report.proofs.NetSums.{lengths_whole}
use Rattle.text_report.proofs.lengths.net_lengths.Goals as goal

pub returns : goal.returns
returns c = lengths_whole c.args.shapes.now c.args.nets.now c.in_ok-lengths.lengths.items c.in_ok-lengths.ensures.long
    c.in_ok-lengths.ensures.lengths c.requires.kept
