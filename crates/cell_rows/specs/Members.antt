-- Rows of a netlist of cells: the definitions that stand in each, in the order of the text.
use Rattle.std.specs.Prelude.{ℕ, zero, suc, ◌+◌, ◌&&◌, ◌==◌, Bool, not, cond, List, [], ◌∷◌, ◌++◌, length, take, nat_eq}
use Rattle.std.specs.Prelude.{slice_index}
use Rattle.std.specs.List.{count_by}
use Rattle.cell_netlist.specs.Uses.{CellView, named, is_name}

-- the numbers below n that pass a test, in order
abbrev pub passing_below : (ℕ → Bool) → ℕ → List ℕ
passing_below p zero = []
passing_below p (suc n) = cond (p n) (passing_below p n ++ n ∷ []) (passing_below p n)

-- n elements, each told by its place
abbrev pub listed : {A : Type 0} → (ℕ → A) → ℕ → List A
listed f zero = []
listed f (suc n) = listed f n ++ f n ∷ []

-- definition j is a cell, and no name, and its level is r
abbrev pub stands_in : CellView → List ℕ → ℕ → ℕ → Bool
stands_in d levels r j = not (is_name d (d.net.inputs + j)) && (slice_index levels j == r)

-- the definitions whose cells stand in row r
abbrev pub members : CellView → List ℕ → ℕ → List ℕ
members d levels r = passing_below (stands_in d levels r) (length d.net.defs)

-- the place of definition j's cell in its row: how many cells of the row stand before it in the text
abbrev pub place_of : CellView → List ℕ → ℕ → ℕ
place_of d levels j = length (passing_below (stands_in d levels (slice_index levels j)) j)

-- how often definitions before definition j name a signal
abbrev pub uses_before : CellView → ℕ → ℕ → ℕ
uses_before d j s = count_by (nat_eq s) (named (take j d.net.defs))
