-- Lemmas on the order of a row: it is that of the plan, it has each cell, it keeps the span, and cells are picked by
-- it.
use Rattle.std.proofs.Common.{◌≡◌, ℕ, suc, ◌+◌, ◌<◌, ◌≤◌, List, [], ◌∷◌, ◌++◌, Some, length, drop, map, get_or, add-one}
use Rattle.std.proofs.Common.{drop-cons, append_assoc, refl, sym, ◌∙◌, ap, subst, arith, slice_get}
use Rattle.std.proofs.Math.Path.{fun_ext}
use Rattle.std.specs.List.{AllByRecursion}
use Rattle.std.proofs.lemmas.Option.{slice_get-get_or}
use Rattle.rowed.specs.declared.source.Source.{Source}
use Rattle.rowed.specs.declared.row_cell.RowCell.{RowCell}
use Rattle.sorting.specs.Sorting.{by_key}
use Rattle.sorting.proofs.SortingLaws.{by_key_all}
use Rattle.sorting.specs.Numbers.{numbers}
use Rattle.sorting.proofs.NumbersLaws.{length-by_key_numbers}
use Rattle.rowed.specs.Limits.{slot_limit}
use Rattle.rowed.specs.Extent.{packed_span}
use Rattle.row_place.specs.Keys.{key}
use Rattle.row_place.specs.Places.{picked}
use Rattle.row_place.proofs.PlanSpans.{picked_all, slots_by_key}
use Rattle.row_place.specs.Code.Arrays.{moved_cell}
use Rattle.sorting.proofs.Inverted.{numbers_below}

-- sorting by the list of keys is sorting by the plan's keys
pub order_is_plan : (slot : Source → ℕ) (row next : List RowCell) (keys read order : List ℕ) → length keys ≡ length row
    → ((c : ℕ) → get_or keys c 0 ≡ key slot row next c) → read ≡ keys
    → order ≡ by_key (λ c. get_or read c 0) (numbers 0 (length read))
    → order ≡ by_key (key slot row next) (numbers 0 (length row))
order_is_plan slot row next keys read order long each is sorted =
    sorted ∙ ap (λ (l : List ℕ). by_key (λ c. get_or l c 0) (numbers 0 (length l))) is
    ∙ ap (λ (f : ℕ → ℕ). by_key f (numbers 0 (length keys))) (fun_ext each)
    ∙ ap (λ (n : ℕ). by_key (key slot row next) (numbers 0 n)) long

pub order_within : (f : ℕ → ℕ) (n : ℕ) (order : List ℕ) → order ≡ by_key f (numbers 0 n)
    → AllByRecursion (λ c. c < n) order
order_within f n order e = subst (AllByRecursion (λ c. c < n)) (sym e)
    (by_key_all (λ c. c < n) f (numbers 0 n) (numbers_below 0 n n (omega arith)))

pub order_length : (f : ℕ → ℕ) (n : ℕ) (order : List ℕ) → order ≡ by_key f (numbers 0 n) → length order ≡ n
order_length f n order e = ap length e ∙ length-by_key_numbers f n

slots_moved : (places : List ℕ) (cells : List RowCell) → packed_span (map (moved_cell places) cells) ≡ packed_span cells
slots_moved places [] = refl
slots_moved places (cell ∷ cells) = let rest = slots_moved places cells in omega (arith, rest)

-- a row takes as many slots in any order
pub slots_kept : (places : List ℕ) (row cells : List RowCell) (f : ℕ → ℕ) (order : List ℕ)
    → order ≡ by_key f (numbers 0 (length row)) → cells ≡ map (moved_cell places) (picked row order)
    → packed_span row ≤ slot_limit → packed_span cells ≤ slot_limit
slots_kept places row cells f order sorted is within =
    let same : packed_span cells ≡ packed_span row =
    ap packed_span is ∙ slots_moved places (picked row order) ∙ ap (λ (l : List ℕ). packed_span (picked row l)) sorted
    ∙ slots_by_key row f (numbers 0 (length row))
    ∙ ap packed_span (picked_all row) in
    omega (arith, same, within)

-- one more cell is picked
pub cell_picked : (f : RowCell → RowCell) (row : List RowCell) (order : List ℕ) (i d : ℕ) (e : RowCell)
    (made made' : List RowCell) → i < length order → get_or order i d < length row
    → made' ≡ made ++ f (get_or row (get_or order i d) e) ∷ []
    → made ++ map f (picked row (drop i order)) ≡ map f (picked row order)
    → made' ++ map f (picked row (drop (i + 1) order)) ≡ map f (picked row order)
cell_picked f row order i d e made made' lt within write so =
    let there : slice_get row (get_or order i d) ≡ Some (get_or row (get_or order i d) e) = slice_get-get_or row
    (get_or order i d) e within in
    let here : drop i order ≡ get_or order i d ∷ drop (suc i) order = drop-cons order i d lt in
    rw (write, add-one, append_assoc) (rw (here, there) at so)
