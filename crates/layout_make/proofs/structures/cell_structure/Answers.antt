use Rattle.std.proofs.Common.{◌∙◌}
use Rattle.layout_make.proofs.RowsDrawn.{same_structure}
use Rattle.layout_make.proofs.structures.cell_structure.Goals as goal

pub returns : goal.returns
returns c =
    same_structure c.args.library.now c.args.kind c.from_vec.result c.from_vec-2.result
    (search (
      c.from_vec.ensures,
      c.in_ok-extend_from_slice.ensures.items,
      c.as_bytes.ensures.value,
      c.kind_name.ensures,
      c.new-name.ensures.items,
    ))
    (c.from_vec-2.ensures ∙ c.in_ok-elements.ensures)
