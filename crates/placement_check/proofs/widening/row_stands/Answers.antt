use Rattle.std.proofs.Common.{◌≡◌, ◌<◌, false, true, length, sym, ◌∙◌, rules}
use Rattle.placement_check.proofs.WideLengths.{not_found, found_on}
use Rattle.placement_check.proofs.widening.row_stands.Goals as goal

pub returns-then-not-is_found : goal.returns-then-not-is_found
returns-then-not-is_found c =
    let lt : c.loop-cell.cell < length c.args.cells.now = search rules in
    let fails : c.is_found.result ≡ false = search rules in
    not_found c.args.places.now c.args.marks.now c.args.number c.args.cells.now c.loop-cell.cell lt
    c.loop-cell.invariant (sym c.is_found.ensures ∙ fails)

pub loop-cell-preserved : goal.loop-cell-preserved
loop-cell-preserved c =
    let lt : c.loop-cell.cell < length c.args.cells.now = search rules in
    let stands : c.is_found.result ≡ true = search rules in
    found_on c.args.places.now c.args.marks.now c.args.number c.args.cells.now c.loop-cell.cell lt
    c.loop-cell.invariant (sym c.is_found.ensures ∙ stands)
