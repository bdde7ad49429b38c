-- Integers that are all columns.
use Rattle.std.proofs.Common.{ℕ, ℤ, pos, negsuc, ◌≡◌, Bool, true, false, ◌&&◌, cond, List, [], ◌∷◌, map, Option, Some}
use Rattle.std.proofs.Common.{None, refl, find, filter_map, is_none, nat_le}
use Rattle.std.specs.List.{cons_option}
use Rattle.cell_library.specs.Documents.{natural_within}
use Rattle.cell_library.specs.Says.{natural}

within_natural : (b : Bool) (n m : ℕ) → cond b (Some n) None ≡ Some m → m ≡ n
within_natural true n m e = cc
within_natural false n m e = cc

natural_is : (z : ℤ) (m : ℕ) → natural_within 0 2999 z ≡ Some m → m ≡ natural z
natural_is (pos n) m e = within_natural (nat_le 0 n && nat_le n 2999) n m e
natural_is (negsuc n) m e = cc

first_column : (z : ℤ) (zs : List ℤ) (o : Option ℕ) → natural_within 0 2999 z ≡ o → (rest : Option ℤ) (columns : List ℕ)
    → None ≡ cond (is_none o) (Some z) rest →
    (None ≡ rest → columns ≡ map natural zs) → cons_option o columns ≡ natural z ∷ map natural zs
first_column z zs None e rest columns none more = cc
first_column z zs (Some m) e rest columns none more = rw (natural_is z m e, more none) refl

-- where none is outside, the columns among the integers are all of them
pub columns_all : (zs : List ℤ) → None ≡ find (λ z. is_none (natural_within 0 2999 z)) zs
    → filter_map (natural_within 0 2999) zs ≡ map natural zs
columns_all [] none = refl
columns_all (z ∷ zs) none = first_column z zs (natural_within 0 2999 z) refl
    (find (λ z. is_none (natural_within 0 2999 z)) zs) (filter_map (natural_within 0 2999) zs) none (columns_all zs)

pub ruleset all_columns = columns_all
