use Rattle.shape_extract.proofs.CellFeeds.{on_within, output_passes, place_there, source_from}
use Rattle.shape_extract.proofs.Each.{item_read}
use Rattle.shape_extract.proofs.circuits.cell_feeds.source_of.Goals as goal

pub bounds-tables-frame : goal.bounds-tables-frame
bounds-tables-frame c = place_there _ _ _ _ _ c.requires.tables c.args.q _
    (c.requires.known.frames.each c.args.q (output_passes c.args.tables.now.flat.now c.args.q c.requires.output))

pub returns : goal.returns
returns c =
    let got = item_read c.as_slice.ensures (on_within _ _ _ c.requires.output) c.index-as_slice-q.is in
    rw c.from.ensures (source_from _ _ _ _ _ c.requires.tables c.args.q _ c.index-as_slice-q.result got
    c.requires.output (c.requires.known.frames.each c.args.q
    (output_passes c.args.tables.now.flat.now c.args.q c.requires.output)))
