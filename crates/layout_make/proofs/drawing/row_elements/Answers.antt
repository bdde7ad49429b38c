use Rattle.std.proofs.Common.{rules, ◌≡◌, ℕ, suc, ◌∙◌, ap, sym, length, arith}
use Rattle.rowed.proofs.SpanLaws.{long_row}
use Rattle.layout_make.specs.Sheet.{lower_edge, lead_first, step_low}
use Rattle.layout_make.specs.Tags.{sheet}
use Rattle.layout_make.proofs.Heights.{stands_low}
use Rattle.layout_make.proofs.Ready.{lawful, may_ready}
use Rattle.layout_make.specs.Code.Boxes.{lead_low}
use Rattle.layout_make.proofs.RowsDrawn.{so_far, edge_here, lead_at}
use Rattle.layout_make.proofs.TopDrawn.{RowGiven, two_below, right_some, so_wired, so_last, few_kinds}
use Rattle.layout_make.proofs.drawing.row_elements.Goals as goal
use Rattle.layout_make.proofs.drawing.row_elements.Goals.{then-number-count+in_ok-edge, else-number-count}

pub loop-number-init : goal.loop-number-init
loop-number-init c = so_far c.args.placed.now c.args.library.now _ c.in_ok-elements.ensures.items

pub push_row-requires-clause-long : goal.push_row-requires-clause-long
push_row-requires-clause-long c =
    ap length c.of-row.ensures.slots ∙ long_row c.args.placed.now.net.rows c.args.placed.now.slots _
    c.known.ensures.seated ∙ sym (ap length c.of-row.ensures.cells)

pub push_row-requires-clause-some : goal.push_row-requires-clause-some
push_row-requires-clause-some c =
    omega (
      arith,
      c.right_end-right.ensures,
      right_some c.args.placed.now c.args.library.now
          (may_ready c.args.placed.now c.args.library.now c.tracks_are_fewest.ensures.plan c.requires.may)
          (lawful c.args.library.now c.known-2.ensures.library),
    )

pub push_row-requires-clause-kinds : goal.push_row-requires-clause-kinds
push_row-requires-clause-kinds c = omega (arith, ap length c.requires.kinds, few_kinds c.args.placed.now)

pub push_row-requires-clause-two_before : goal.push_row-requires-clause-two_before
push_row-requires-clause-two_before c =
    two_below c.args.placed.now c.args.library.now c.loop-number.number _ _ _ _ c.loop-number.invariant
    (omega (arith, c.loop-number-test.true, c.row_count-count.ensures))

pub push_row-requires-clause-edge : goal.push_row-requires-clause-edge
push_row-requires-clause-edge c =
    omega (
      arith,
      edge_here c.args.placed.now c.args.library.now c.loop-number.number _ _ _ _ c.loop-number.invariant
          (omega (arith, c.loop-number-test.true, c.row_count-count.ensures)),
      stands_low c.args.placed.now
          c.args.library.now c.tracks_are_fewest.ensures.plan c.requires.may c.loop-number.number
          (omega (arith, c.loop-number-test.true, c.row_count-count.ensures)),
    )

pub loop-number-preserved : goal.loop-number-preserved
loop-number-preserved c =
    let lag : c.placed.inside.lag ≡ c.args.placed.now.lag = search rules in
    let low = lead_low c.args.library.now c.placed.inside.lag c.loop-number.number c.loop-number.edge
    c.loop-number.two_before in
    let first : low ≡ step_low (sheet c.args.placed.now c.args.library.now)
    (lead_first c.args.placed.now.lag (suc c.loop-number.number)) =
    ap (λ (n : ℕ). lead_low c.args.library.now n c.loop-number.number c.loop-number.edge c.loop-number.two_before) lag
    ∙ lead_at c.args.placed.now c.args.library.now c.loop-number.number _ _ _ _ c.loop-number.invariant
    (omega (arith, c.loop-number-test.true, c.row_count-count.ensures)) in
    let given : RowGiven c.args.placed.now c.args.library.now c.loop-number.number _ _ c.placed.inside.lag _ _ low =
    record {
      kinds_are = c.requires.kinds;
      right_is = c.right_end-right.ensures;
      lag_is = lag;
      cells_are = c.of-row.ensures.cells;
      slots_are = c.of-row.ensures.slots;
      first_is = first;
    } in
    elim c.if-number-count.branch [
      | then-number-count+in_ok-edge w ↦ so_wired c.loop-number.invariant
          (omega (arith, w.if-number-count.true, c.row_count-count.ensures)) given c.in_ok-push_row.ensures
          (ap (λ (v : _). v.items) w.elements-is ∙ w.in_ok-edge.ensures.elements)
          (w.edge-is ∙ w.in_ok-edge.ensures.next)
      | else-number-count w ↦ so_last c.loop-number.invariant
          (omega (arith, c.loop-number-test.true, c.row_count-count.ensures))
          (omega (arith, w.if-number-count.false, c.row_count-count.ensures)) given c.in_ok-push_row.ensures
          (ap (λ (v : _). v.items) w.elements-is) w.edge-is
    ]
