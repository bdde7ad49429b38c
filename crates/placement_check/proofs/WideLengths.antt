-- What has marks for its cells has as many; and the cells of a row stand in their places one after the other.
use Rattle.std.proofs.Common.{◌≡◌, ◌+◌, ◌<◌, ℕ, zero, suc, List, [], ◌∷◌, Bool, false, true, length, drop, refl, sym}
use Rattle.std.proofs.Common.{ap, ◌∙◌, arith}
use Rattle.std.specs.Prelude.{◌&&◌}
use Rattle.rowed.proofs.SeatLaws.{or_none}
use Rattle.rowed.specs.declared.row_cell.RowCell.{RowCell}
use Rattle.placement_check.specs.declared.marks.Mark.{Mark}
use Rattle.placement_check.specs.declared.marks.Place.{Place}
use Rattle.placement_check.specs.Wider.{fits_mark, row_marked, rows_marked, is_found, row_stands}

module _ (net : List (List RowCell)) (became : List ℕ) (places : List (List Place)) where
  pub unmarked : (d : ℕ) (below : List Mark) (c : ℕ) (cells : List RowCell) (marks : List Mark)
      → (length cells ≡ length marks → ⊥) → false ≡ row_marked net became places d below c cells marks
  unmarked d below c [] [] ne = absurd (ne refl)
  unmarked d below c [] (m ∷ marks) ne = refl
  unmarked d below c (x ∷ cells) [] ne = refl
  unmarked d below c (x ∷ cells) (m ∷ marks) ne =
      or_none (fits_mark net became places d below c x m) _
      (unmarked d below (c + 1) cells marks (λ e. ne (ap suc e)))

  pub none_marked : (d : ℕ) (below : List Mark) (rows : List (List RowCell)) (marks : List (List Mark))
      → (length rows ≡ length marks → ⊥) → false ≡ rows_marked net became places d below rows marks
  none_marked d below [] [] ne = absurd (ne refl)
  none_marked d below [] (m ∷ marks) ne = refl
  none_marked d below (r ∷ rows) [] ne = refl
  none_marked d below (r ∷ rows) (m ∷ marks) ne =
      or_none (row_marked net became places d below 0 r m) _
      (none_marked (d + 1) m rows marks (λ e. ne (ap suc e)))

module _ (places : List (List Place)) (marks : List (List Mark)) (r : ℕ) where
  step : (cells : List RowCell) (c k : ℕ) → c < length cells
      → row_stands places marks r k (drop c cells)
      ≡ (is_found places marks r k && row_stands places marks r (k + 1) (drop (suc c) cells))
  step [] c k lt = absurd (omega arith)
  step (x ∷ cells) zero k lt = refl
  step (x ∷ cells) (suc c) k lt = step cells c k (omega arith)

  pub not_found : (cells : List RowCell) (c : ℕ) → c < length cells
      → row_stands places marks r c (drop c cells) ≡ row_stands places marks r 0 cells
      → is_found places marks r c ≡ false → false ≡ row_stands places marks r 0 cells
  not_found cells c lt so_far fails =
      let rest = row_stands places marks r (c + 1) (drop (suc c) cells) in
      sym (sym so_far ∙ step cells c c lt ∙ ap (λ (b : Bool). b && rest) fails)

  pub found_on : (cells : List RowCell) (c : ℕ) → c < length cells
      → row_stands places marks r c (drop c cells) ≡ row_stands places marks r 0 cells
      → is_found places marks r c ≡ true
      → row_stands places marks r (c + 1) (drop (c + 1) cells) ≡ row_stands places marks r 0 cells
  found_on cells c lt so_far stands =
      let rest = row_stands places marks r (c + 1) (drop (suc c) cells) in
      let next : c + 1 ≡ suc c = omega arith in
      ap (λ (n : ℕ). row_stands places marks r (c + 1) (drop n cells)) next
      ∙ sym (ap (λ (b : Bool). b && rest) stands) ∙ sym (step cells c c lt) ∙ so_far
