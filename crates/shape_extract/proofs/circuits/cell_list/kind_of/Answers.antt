use Rattle.std.proofs.lemmas.Option.{slice_get_within}
use Rattle.shape_extract.proofs.CellLists.{no_kind}
use Rattle.shape_extract.proofs.Each.{item_read}
use Rattle.shape_extract.proofs.circuits.cell_list.kind_of.Goals as goal

pub returns-in-None : goal.returns-in-None
returns-in-None c =
    let got = item_read c.as_slice.ensures (slice_get_within _ _ _ c.requires.frame.shape_is) c.index-as_slice-f.is in
    absurd (no_kind c.args.tables.now.flat.now c.requires.tables.five.cells c.args.f c.requires.frame
    c.index-as_slice-f.result got c.in-None.ensures)
