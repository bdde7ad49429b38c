use Rattle.std.proofs.Common.{ℕ, ◌<◌, max, ◌∙◌, ap, sym, length, arith}
use Rattle.rowed.proofs.SpanLaws.{long_row, as_many, widest_next, same_span}
use Rattle.rowed.proofs.placed.Placed.span.Goals as goal

pub span_of-span-requires : goal.span_of-span-requires
span_of-span-requires c =
    ap length c.slots_at.ensures ∙ long_row c.args.self.now.net.rows c.args.self.now.slots _ c.known.ensures.seated
    ∙ sym (ap length c.cells_at.ensures)

pub loop-number-preserved : goal.loop-number-preserved
loop-number-preserved c =
    let placed = c.args.self.now in
    let below : c.loop-number.number < length placed.net.rows =
    omega (arith, c.loop-number-test.true, c.row_count-number-end.ensures) in
    widest_next placed.net.rows placed.slots c.loop-number.number c.loop-number.widest c.max-widest.result _ below
    (omega (arith, as_many placed c.known.ensures, below))
    (c.max-widest.ensures ∙ ap (λ (n : ℕ). max n c.loop-number.widest)
    (same_span c.span_of-span.result _ _ _ _ c.span_of-span.ensures c.cells_at.ensures c.slots_at.ensures))
    c.loop-number.invariant
