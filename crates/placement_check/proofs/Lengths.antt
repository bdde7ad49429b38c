-- What is tested side by side has as many on both sides.
use Rattle.std.proofs.Common.{◌≡◌, ℕ, suc, List, [], ◌∷◌, false, length, refl, ap}
use Rattle.rowed.proofs.SeatLaws.{or_none}
use Rattle.rowed.specs.declared.row_cell.RowCell.{RowCell}
use Rattle.mig.specs.Graphs.{GraphView}
use Rattle.placement_check.specs.Labels.{fits, row_fits, rows_fit_from}

pub unlabelled : (g : GraphView) (below : List ℕ) (cells : List RowCell) (labels : List ℕ)
    → (length cells ≡ length labels → ⊥) → false ≡ row_fits g below cells labels
unlabelled g below [] [] ne = absurd (ne refl)
unlabelled g below [] (l ∷ labels) ne = refl
unlabelled g below (c ∷ cells) [] ne = refl
unlabelled g below (c ∷ cells) (l ∷ labels) ne =
    or_none (fits g below l c) _ (unlabelled g below cells labels (λ e. ne (ap suc e)))

pub none_labelled : (g : GraphView) (below : List ℕ) (rows : List (List RowCell)) (labels : List (List ℕ))
    → (length rows ≡ length labels → ⊥)
    → false ≡ rows_fit_from g below rows labels
none_labelled g below [] [] ne = absurd (ne refl)
none_labelled g below [] (l ∷ labels) ne = refl
none_labelled g below (r ∷ rows) [] ne = refl
none_labelled g below (r ∷ rows) (l ∷ labels) ne =
    or_none (row_fits g below r l) _ (none_labelled g l rows labels (λ e. ne (ap suc e)))
