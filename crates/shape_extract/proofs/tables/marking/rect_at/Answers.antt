use Rattle.std.proofs.Common.{◌≡◌, rules, w64, to_z, of_z}
use Rattle.std.proofs.lemmas.Int.{to_z-of_z}
use Rattle.shape_extract.proofs.Partners.{point_held}
use Rattle.shape_extract.proofs.tables.marking.rect_at.Goals as goal

pub returns : goal.returns
returns c =
    let x : to_z w64 (of_z w64 c.args.x) ≡ c.args.x = search (rules, to_z-of_z) in
    let y : to_z w64 (of_z w64 c.args.y) ≡ c.args.y = search (rules, to_z-of_z) in
    let x0 : to_z w64 (of_z w64 c.span_at-x0.result.low) ≡ c.span_at-x0.result.low = search (rules, to_z-of_z) in
    let x1 : to_z w64 (of_z w64 c.span_at-x0.result.high) ≡ c.span_at-x0.result.high = search (rules, to_z-of_z) in
    let y0 : to_z w64 (of_z w64 c.span_at-y0.result.low) ≡ c.span_at-y0.result.low = search (rules, to_z-of_z) in
    let y1 : to_z w64 (of_z w64 c.span_at-y0.result.high) ≡ c.span_at-y0.result.high = search (rules, to_z-of_z) in
    point_held c.args.x c.args.y _ _ _ _
    (rw x0 (rw x at c.span_at-x0.ensures.from))
    (rw x1 (rw x at c.span_at-x0.ensures.to))
    (rw y0 (rw y at c.span_at-y0.ensures.from))
    (rw y1 (rw y at c.span_at-y0.ensures.to))
