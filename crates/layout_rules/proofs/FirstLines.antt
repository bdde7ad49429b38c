-- Each of the first chip's two lines is one path from its start.
use Rattle.std.proofs.Common.{[], ◌∷◌, refl}
use Rattle.geom.specs.FirstChip.{first_flat}
use Rattle.layout_rules.specs.declared.layers.TheConstants.{EVEN_LINE, ODD_LINE}
use Rattle.layout_rules.specs.ExcitationLines.{IsLine}
use Rattle.layout_rules.proofs.Lines.{line_of, line_of_two}

pub even_line : IsLine first_flat.shapes EVEN_LINE (3 ∷ 4 ∷ [])
unfolding first_flat
even_line = line_of_two first_flat.shapes EVEN_LINE 3 4 (line_of _ _ refl refl refl refl refl refl refl refl refl refl)
    refl refl refl

pub odd_line : IsLine first_flat.shapes ODD_LINE (13 ∷ 14 ∷ [])
unfolding first_flat
odd_line = line_of_two first_flat.shapes ODD_LINE 13 14 (line_of _ _ refl refl refl refl refl refl refl refl refl refl)
    refl refl refl
