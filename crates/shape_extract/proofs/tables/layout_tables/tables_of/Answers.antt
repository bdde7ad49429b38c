use Rattle.shape_extract.proofs.tables.layout_tables.tables_of.Goals as goal

pub pin_frames-requires-clause-kept : goal.pin_frames-requires-clause-kept
pin_frames-requires-clause-kept c = rw c.as_slice-shapes.ensures c.requires.kept
