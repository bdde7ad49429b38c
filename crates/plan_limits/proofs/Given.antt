-- Cells whose kinds were all seen to be given.
use Rattle.std.specs.Prelude.{◌≡◌, ◌<◌, ℕ, zero, suc, List, [], ◌∷◌, length, Some}
use Rattle.std.proofs.Common.{arith}
use Rattle.std.proofs.lemmas.Option.{none-some}
use Rattle.rowed.specs.declared.row_cell.RowCell.{RowCell}
use Rattle.rowed.specs.PlacedNets.{PlacedView}
use Rattle.rowed.specs.RowNets.{cell_at}
use Rattle.cell_library.specs.Library.{LibraryView, IsGiven}
use Rattle.layout_make.specs.MayDraw.{GivesKinds}
use Rattle.plan_build.proofs.KeptKinds.{rows_from}

row_within : (rows : List (List RowCell)) (r c : ℕ) (cell : RowCell) → cell_at rows r c ≡ Some cell → r < length rows
row_within [] r c cell is = absurd (none-some cell is)
row_within (row ∷ rows) zero c cell is = omega arith
row_within (row ∷ rows) (suc r) c cell is = let more = row_within rows r c cell is in omega arith

pub gives_kinds : (l : LibraryView) (chip : PlacedView)
    → ((r c : ℕ) (x : RowCell) → r < length chip.net.rows → cell_at chip.net.rows r c ≡ Some x → IsGiven l x.kind)
    → GivesKinds l chip.net.rows
gives_kinds l chip each = rows_from (IsGiven l) chip.net.rows
    (λ r c x at. each r c x (row_within chip.net.rows r c x at) at)
