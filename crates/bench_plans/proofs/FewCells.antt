-- The rows of a net have fewer than 2^64 cells together.
use Rattle.std.proofs.Common.{ℕ, ◌*◌, ◌<◌, ◌≤◌, ◌^◌, List, [], length, arith, get_or}
use Rattle.std.specs.List.{sum_by}
use Rattle.std.proofs.lemmas.List.Elements.{All-from_get_or}
use Rattle.std.proofs.lemmas.List.Sums.{sum_by-le}
use Rattle.rowed.specs.declared.row_cell.RowCell.{RowCell}
use Rattle.rowed.specs.RowNets.{RowView, IsRowNet}

abbrev IsShort : List RowCell → Type 0
IsShort row = length row ≤ 4294967295

pub few_cells : (net : RowView) → IsRowNet net → sum_by length net.rows < 2 ^ 64
few_cells net known =
    let short : (r : ℕ) → r < length net.rows → IsShort (get_or net.rows r []) =
    λ r h. omega (arith, known.few_cells r) in
    let total : sum_by length net.rows ≤ length net.rows * 4294967295 =
    sum_by-le length 4294967295 net.rows (All-from_get_or IsShort net.rows [] short)
    in
    omega (arith, total, known.few_rows)
