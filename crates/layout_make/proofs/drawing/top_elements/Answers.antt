use Rattle.std.proofs.Common.{rules, ◌≡◌, ℕ, ◌/◌, ◌∙◌, ap, sym, length, arith, [], ◌++◌, slice_index_or}
use Rattle.std.specs.List.{flat_map}
use Rattle.sorting.specs.Numbers.{numbers}
use Rattle.rowed.specs.RowNets.{row_at}
use Rattle.rowed.proofs.SpanLaws.{long_row}
use Rattle.circuit.specs.declared.cell_kind.CellKind.TheVariants.{Buffer}
use Rattle.layout_make.specs.declared.marks.Ports.TheVariants.{Inputs, Outputs}
use Rattle.layout_make.specs.Draw.{last_row, row_elements}
use Rattle.layout_make.specs.Code.Boxes.{lag_boxes}
use Rattle.layout_make.proofs.RowsDrawn.{lag_drawn}
use Rattle.layout_make.proofs.Heights.{stands_low}
use Rattle.layout_make.proofs.Ready.{lawful, last_suc}
use Rattle.layout_make.proofs.TopDrawn.{labels_fit, top_is, last_at}
use Rattle.layout_make.proofs.drawing.top_elements.Goals as goal

pub push_lag-requires : goal.push_lag-requires
push_lag-requires c =
    let lag : c.placed.inside.lag ≡ c.args.placed.now.lag = search rules in
    omega (arith, lag, c.requires.may.lag)

pub input_column-column-requires-clause-given : goal.input_column-column-requires-clause-given
input_column-column-requires-clause-given c = c.known-2.ensures.library.given Buffer (λ e. cc)

pub push_labels-requires-clause-long : goal.push_labels-requires-clause-long
push_labels-requires-clause-long c = ap length c.of-bottom.ensures.slots
    ∙ long_row c.args.placed.now.net.rows c.args.placed.now.slots _ c.known.ensures.seated
    ∙ sym (ap length c.of-bottom.ensures.cells)

pub push_labels-requires-clause-fits : goal.push_labels-requires-clause-fits
push_labels-requires-clause-fits c =
    labels_fit c.args.placed.now c.args.library.now c.tracks_are_fewest.ensures.plan c.requires.may 0 Inputs _ _ _
    c.of-bottom.ensures.cells c.of-bottom.ensures.slots
    (omega (
      arith,
      c.input_column-column.ensures,
      (lawful c.args.library.now c.known-2.ensures.library).input_most
          Buffer 0 (c.known-2.ensures.library.given Buffer (λ e. cc)) (omega arith),
    ))

pub output_column-column-requires-clause-given : goal.output_column-column-requires-clause-given
output_column-column-requires-clause-given c = c.known-2.ensures.library.given Buffer (λ e. cc)

pub overflow_add-edge : goal.overflow_add-edge
overflow_add-edge c =
    omega (
      arith,
      c.in_ok-elements.ensures.edge,
      c.height.ensures,
      stands_low c.args.placed.now c.args.library.now
          c.tracks_are_fewest.ensures.plan c.requires.may (last_row c.args.placed.now)
          (omega (arith, last_suc c.args.placed.now (omega (arith, c.known.ensures.net_keeps.two_rows)))),
    )

pub push_labels-requires-2-clause-long : goal.push_labels-requires-2-clause-long
push_labels-requires-2-clause-long c = ap length c.of-top.ensures.slots
    ∙ long_row c.args.placed.now.net.rows c.args.placed.now.slots _ c.known.ensures.seated
    ∙ sym (ap length c.of-top.ensures.cells)

pub push_labels-requires-2-clause-y : goal.push_labels-requires-2-clause-y
push_labels-requires-2-clause-y c =
    omega (
      arith,
      c.saturating_sub-y.ensures,
      c.in_ok-elements.ensures.edge,
      c.height.ensures,
      stands_low
          c.args.placed.now c.args.library.now c.tracks_are_fewest.ensures.plan c.requires.may
          (last_row c.args.placed.now)
          (omega (arith, last_suc c.args.placed.now (omega (arith, c.known.ensures.net_keeps.two_rows)))),
    )

pub push_labels-requires-2-clause-fits : goal.push_labels-requires-2-clause-fits
push_labels-requires-2-clause-fits c =
    labels_fit c.args.placed.now c.args.library.now c.tracks_are_fewest.ensures.plan c.requires.may
    (last_row c.args.placed.now) Outputs _ _ _
    (c.of-top.ensures.cells ∙ ap (row_at c.args.placed.now.net.rows)
    (last_at c.args.placed.now _ c.known.ensures c.row_count-last.ensures))
    (c.of-top.ensures.slots ∙ ap (λ (n : ℕ). slice_index_or c.args.placed.now.slots n [])
    (last_at c.args.placed.now _ c.known.ensures c.row_count-last.ensures))
    (omega (
      arith,
      c.output_column-column.ensures,
      (lawful c.args.library.now c.known-2.ensures.library).output_most
          Buffer 0 (c.known-2.ensures.library.given Buffer (λ e. cc)) (omega arith),
    ))

pub returns : goal.returns
returns c =
    let lag : c.placed.inside.lag ≡ c.args.placed.now.lag = search rules in
    let last = last_at c.args.placed.now _ c.known.ensures c.row_count-last.ensures in
    top_is c.args.library.now
    (c.in_ok-push_lag.ensures
    ∙ ap (λ (n : ℕ). c.in_ok-elements.elements.items ++ lag_boxes c.args.library.now n) lag
    ∙ ap (λ (es : _). es ++ lag_boxes c.args.library.now c.args.placed.now.lag) c.in_ok-elements.ensures.elements
    ∙ ap (λ (es : _). flat_map (row_elements c.args.placed.now c.args.library.now)
    (numbers 0 (length c.args.placed.now.net.rows)) ++ es) (lag_drawn c.args.placed.now c.args.library.now))
    (record {
      cells_are = c.of-bottom.ensures.cells;
      slots_are = c.of-bottom.ensures.slots;
      column_is = c.input_column-column.ensures;
      y_is = ap (λ (n : ℕ). n / 2) c.pin.ensures;
      count_is = c.input_count.ensures;
    })
    (record {
      cells_are = c.of-top.ensures.cells ∙ ap (row_at c.args.placed.now.net.rows) last;
      slots_are = c.of-top.ensures.slots ∙ ap (λ (n : ℕ). slice_index_or c.args.placed.now.slots n []) last;
      column_is = c.output_column-column.ensures;
      y_is = search (c.saturating_sub-y.ensures, c.in_ok-elements.ensures.edge, c.height.ensures, c.pin-2.ensures);
      count_is = c.output_count.ensures;
    })
    c.in_ok-push_labels.ensures c.in_ok-push_labels-2.ensures
