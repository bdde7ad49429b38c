use Rattle.std.proofs.Common.{◌≡◌, ◌-◌, ◌<◌, sym, ◌∙◌, rules, arith, false, get_or, length, pos, w64, to_z, of_z}
use Rattle.std.specs.Prelude.{◌==◌}
use Rattle.std.proofs.lemmas.Bool.Decides.{nat_tests}
use Rattle.std.proofs.lemmas.Int.{to_z-of_z}
use Rattle.shape_extract.specs.Searches.{SaysWhether}
use Rattle.shape_extract.proofs.RowEdges.{ends_said}
use Rattle.shape_extract.proofs.tables.row_edges.ends_with.Goals as goal

pub returns : goal.returns
returns c =
    let last : to_z w64 (of_z w64 (get_or c.args.numbers.now (length c.args.numbers.now - 1) (pos 0))) ≡ get_or
    c.args.numbers.now (length c.args.numbers.now - 1) (pos 0) = search (rules, to_z-of_z) in
    let other : to_z w64 (of_z w64 c.args.y) ≡ c.args.y = search (rules, to_z-of_z) in
    let says : SaysWhether c.are_same.result
    (get_or c.args.numbers.now (length c.args.numbers.now - 1) (pos 0) ≡ c.args.y) =
    rw (last, other) at c.are_same.ensures in
    let test : (length c.args.numbers.now == 0) ≡ false = sym c.is_empty.ensures ∙ c.if-is_empty.false in
    let some : 0 < length c.args.numbers.now = grind (arith, nat_tests) in
    ends_said c.args.numbers.now c.args.y c.are_same.result (pos 0) some says
