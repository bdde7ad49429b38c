use Rattle.std.proofs.Common.{◌∙◌, ap, length, arith}
use Rattle.std.proofs.lemmas.List.{length-map}
use Rattle.layout_make.specs.Draw.{cell_structure}
use Rattle.layout_make.proofs.TopDrawn.{used_given, few_kinds, layout_is}
use Rattle.layout_make.proofs.drawing.layout_of.Goals as goal

pub kind_structures-requires : goal.kind_structures-requires
kind_structures-requires c = used_given c.args.placed.now c.args.library.now c.requires.may.given _
    (c.deref.ensures.value ∙ c.in_ok-kinds.ensures)

pub overflow_cast-top : goal.overflow_cast-top
overflow_cast-top c =
    omega (
      arith,
      c.len-top.ensures,
      ap length c.in_ok-structures.ensures,
      length-map c.deref.result.now
          (cell_structure c.args.library.now),
      ap length (c.deref.ensures.value ∙ c.in_ok-kinds.ensures),
      few_kinds
          c.args.placed.now,
    )

pub returns : goal.returns
returns c =
    layout_is c.args.placed.now c.args.library.now c.deref.result.now c.in_ok-structures.structures.items _ _ _ _
    (c.deref.ensures.value ∙ c.in_ok-kinds.ensures) c.in_ok-structures.ensures
    (search (c.from_vec.ensures, c.in_ok-extend_from_slice.ensures.items, c.new-name.ensures.items))
    (c.from_vec-2.ensures ∙ c.in_ok-elements.ensures) (c.from_vec-3.ensures ∙ c.in_ok-push.ensures.items)
    (omega (arith, c.len-top.ensures))
