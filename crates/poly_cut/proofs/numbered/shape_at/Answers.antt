use Rattle.std.proofs.Common.{List, sym, ap, subst, ◌∙◌}
use Rattle.std.specs.Prelude.{option_map}
use Rattle.poly_cut.specs.declared.layout.WideStructure.{WideStructure}
use Rattle.poly_cut.specs.declared.numbered.Drawn.TheVariants as Drawn
use Rattle.poly_cut.specs.Code.Numbered.{AreShort, EndsWithin}
use Rattle.poly_cut.proofs.Finding.{all_short, top_ends, shape_flat}
use Rattle.poly_cut.proofs.numbered.shape_at.Goals as goal

pub shape_in-requires-clause-short : goal.shape_in-requires-clause-short
shape_in-requires-clause-short c =
    subst (λ (ss : List WideStructure). AreShort ss) (sym c.as_slice.ensures)
    (all_short c.args.wide.now c.requires.layout)

pub shape_in-requires-clause-deep : goal.shape_in-requires-clause-deep
shape_in-requires-clause-deep c =
    subst (λ (ss : List WideStructure). EndsWithin 65 ss c.args.wide.now.top) (sym c.as_slice.ensures)
    (top_ends c.args.wide.now c.requires.layout)

pub returns-in-Some : goal.returns-in-Some
returns-in-Some c =
    ap (option_map Drawn.Shape) (shape_flat c.args.wide.now c.as_slice.result.now c.args.number _ c.as_slice.ensures
    (sym c.in-Some.is ∙ c.in_ok-shape.ensures))

pub returns-in-None : goal.returns-in-None
returns-in-None c =
    ap (option_map Drawn.Shape) (shape_flat c.args.wide.now c.as_slice.result.now c.args.number _ c.as_slice.ensures
    (sym c.in-None.is ∙ c.in_ok-shape.ensures))
