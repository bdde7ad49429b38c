use Rattle.std.proofs.Common.{◌≡◌, ◌-◌, length, sym, ap, subst, ◌∙◌, arith}
use Rattle.std.specs.Prelude.{Option, IfOk, option_map}
use Rattle.std.proofs.lemmas.Option.{slice_get_past}
use Rattle.poly_cut.specs.declared.numbered.Drawn.{Drawn}
use Rattle.poly_cut.specs.declared.numbered.Drawn.TheVariants as Found
use Rattle.poly_cut.specs.FlatForm.{wide_flat}
use Rattle.poly_cut.proofs.Finding.{shapes_exact, labels_exact, drawn_shape, drawn_label}
use Rattle.poly_cut.proofs.numbered.drawn_at.Goals as goal
use Rattle.poly_cut.proofs.numbered.drawn_at.Goals.{After-count_at-shapes, After-count_at}

shapes : (c : After-count_at-shapes) → c.count_at-shapes.result ≡ length (wide_flat c.args.wide.now).shapes
shapes c =
    shapes_exact c.args.wide.now c.as_slice-structures.result.now c.in_ok-counts.counts.items c.as_slice.result.now
    c.count_at-shapes.result c.requires c.as_slice-structures.ensures c.as_slice.ensures.value c.in_ok-counts.ensures
    c.count_at-shapes.ensures

labels : (c : After-count_at) → c.count_at.result ≡ length (wide_flat c.args.wide.now).labels
labels c =
    labels_exact c.args.wide.now c.as_slice-structures.result.now c.in_ok-counts-2.counts.items c.as_slice-2.result.now
    c.count_at.result c.requires c.as_slice-structures.ensures c.as_slice-2.ensures.value c.in_ok-counts-2.ensures
    c.count_at.ensures

pub returns-then-number-shapes : goal.returns-then-number-shapes
returns-then-number-shapes c =
    let count = shapes (goal.at.returns-then-number-shapes c).After-count_at-shapes in
    subst (λ (d : Option Drawn). IfOk c.shape_at.result (λ found. found ≡ d))
    (drawn_shape (wide_flat c.args.wide.now) c.args.number (omega arith)) c.shape_at.ensures

pub returns-then-number-count_at : goal.returns-then-number-count_at
returns-then-number-count_at c =
    let count = shapes (goal.at.returns-then-number-count_at c).After-count_at-shapes in
    let rest = labels (goal.at.returns-then-number-count_at c).After-count_at in
    let flat = wide_flat c.args.wide.now in
    ap (option_map Found.Label)
    (sym (slice_get_past flat.labels (c.args.number - c.count_at-shapes.result) (omega arith)))
    ∙ drawn_label flat c.args.number c.count_at-shapes.result count c.if-number-shapes.false

pub returns : goal.returns
returns c =
    let count = shapes (goal.at.returns c).After-count_at-shapes in
    subst (λ (d : Option Drawn). IfOk c.label_at.result (λ found. found ≡ d))
    (drawn_label (wide_flat c.args.wide.now) c.args.number c.count_at-shapes.result count c.if-number-shapes.false)
    c.label_at.ensures
