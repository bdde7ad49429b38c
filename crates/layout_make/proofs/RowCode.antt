-- What the code reads of a row.
use Rattle.std.proofs.Common.{◌≡◌, ℕ, zero, suc, ◌<◌, refl, ap, ◌∙◌, ◌+◌, ◌≤◌, arith, List, [], ◌∷◌, length, drop, Some}
use Rattle.std.proofs.Common.{slice_get, slice_index_or}
use Rattle.std.proofs.lemmas.Option.{same_Some}
use Rattle.rowed.specs.declared.row_cell.RowCell.{RowCell}
use Rattle.layout_make.specs.Spots.{Spot, spots_of}

pub spot_there : (cells : List RowCell) (slots : List ℕ) (n : ℕ) (c : RowCell) (s : ℕ) → n < length cells
    → n < length slots → slice_get (spots_of cells slots) n ≡ Some
    (record { cell = slice_index_or cells n c; slot = slice_index_or slots n s })
spot_there [] slots n c s lc ls = absurd (omega arith)
spot_there (d ∷ cells) [] n c s lc ls = absurd (omega arith)
spot_there (d ∷ cells) (t ∷ slots) zero c s lc ls = refl
spot_there (d ∷ cells) (t ∷ slots) (suc n) c s lc ls = spot_there cells slots n c s (omega arith) (omega arith)

pub spot_bounds : (cells : List RowCell) (slots : List ℕ) (n : ℕ) (x : Spot)
    → slice_get (spots_of cells slots) n ≡ Some x → (n < length cells) × (n < length slots)
spot_bounds [] slots n x e = absurd (let k : slice_get (spots_of [] slots) n ≡ Some x = e in cc)
spot_bounds (c ∷ cells) [] n x e = absurd cc
spot_bounds (c ∷ cells) (s ∷ slots) zero x e = (omega arith, omega arith)
spot_bounds (c ∷ cells) (s ∷ slots) (suc n) x e = let k = spot_bounds cells slots n x e in let a = k.0 in
    let b = k.1 in (omega arith, omega arith)

pub spots_long : (cells : List RowCell) (slots : List ℕ) → length slots ≡ length cells
    → length (spots_of cells slots) ≡ length cells
spots_long [] slots e = refl
spots_long (c ∷ cells) [] e = absurd (omega arith)
spots_long (c ∷ cells) (s ∷ slots) e = let k = spots_long cells slots (omega arith) in omega arith

pub drop_at : {A : Type 0} (xs : List A) (n : ℕ) (x : A) → slice_get xs n ≡ Some x → drop n xs ≡ x ∷ drop (n + 1) xs
drop_at {A} xs n x e = go xs n e ∙ ap (λ (m : ℕ). x ∷ drop m xs) (let k : suc n ≡ n + 1 = omega arith in k)
  where
    go : (xs : List A) (n : ℕ) → slice_get xs n ≡ Some x → drop n xs ≡ x ∷ drop (suc n) xs
    go [] n e = absurd cc
    go (y ∷ xs) zero e = ap (λ (z : A). z ∷ xs) (same_Some _ _ e)
    go (y ∷ xs) (suc n) e = go xs n e

pub drop_all : {A : Type 0} (xs : List A) (n : ℕ) → length xs ≤ n → drop n xs ≡ []
drop_all [] zero le = refl
drop_all [] (suc n) le = refl
drop_all (x ∷ xs) zero le = absurd (omega arith)
drop_all (x ∷ xs) (suc n) le = drop_all xs n (omega arith)
