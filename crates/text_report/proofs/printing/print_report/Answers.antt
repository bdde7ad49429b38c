use Rattle.std.proofs.Common.{◌≡◌, ℕ, List, sym, subst, arith, OnOk, IfErr}
use Rattle.aq_base.specs.Output.{printed}
use Rattle.geom.specs.declared.shapes.Shape.{Shape}
use Rattle.layout_rules.specs.declared.rule.Rule.TheVariants.{E2}
use Rattle.layout_rules.specs.ExcitationRule.{ExcitationBroken}
use Rattle.layout_rules.specs.Reports.{ReportsNone}
use Rattle.cell_library.specs.Library.{limits_of}
use Rattle.shape_extract.specs.CellPlaces.{AreCellPlaces, near_at, far_at}
use Rattle.shape_extract.specs.declared.circuits.cell_spans.Span.{Span}
use Rattle.text_answers.specs.Printing.{PrintsWithin}
use Rattle.text_report.proofs.Kept.{order_from, short_from}
use Rattle.text_report.proofs.PrintedRows.{the_report}
use Rattle.text_report.proofs.printing.print_report.Goals as goal

pub cell_spans-requires-clause-kept : goal.cell_spans-requires-clause-kept
cell_spans-requires-clause-kept g c =
    subst (λ (shapes : List Shape). ReportsNone (ExcitationBroken shapes)) (sym c.as_slice.ensures)
    (c.requires.rules E2)

pub read_figures-requires-clause-order : goal.read_figures-requires-clause-order
read_figures-requires-clause-order g c =
    order_from c.args.flat.now c.args.circuit.now (limits_of c.args.library.now) c.requires.circuit c.requires.rules

pub read_figures-requires-clause-short : goal.read_figures-requires-clause-short
read_figures-requires-clause-short g c =
    short_from c.args.flat.now c.args.circuit.now (limits_of c.args.library.now) c.requires.circuit c.requires.rules
    (omega (arith, c.limit-limit.ensures, c.limit-limit.type_inv))

-- the cells lie as the spans say
found : (shapes listed : List Shape) (spans items : List Span) → listed ≡ shapes → spans ≡ items
    → AreCellPlaces listed (near_at items) (far_at items) → AreCellPlaces shapes (near_at spans) (far_at spans)
found shapes listed spans items shapes_are spans_are places =
    subst (λ (xs : List Span). AreCellPlaces shapes (near_at xs) (far_at xs)) (sym spans_are)
    (subst (λ (s : List Shape). AreCellPlaces s (near_at items) (far_at items)) shapes_are places)

pub returns-clause-added : goal.returns-clause-added
returns-clause-added g c near far places =
    let spans : List Span = c.deref.result.now in
    subst (λ (t : List ℕ). OnOk c.print_lines.result
    (g.O.Sink.output c.print_lines.new.out ≡ printed t (g.O.Sink.output c.args.out.now)))
    (the_report c.args.flat.now c.args.circuit.now (near_at spans) (far_at spans) near far
    c.in-Ok-read_figures.figures c.limit-limit.result c.args.library.now.limit c.in-Ok-read_figures.ensures
    (c.skew_is_computed.ensures.greater c.args.circuit.now (near_at spans) (far_at spans)) c.limit-limit.ensures
    (c.cells_have_places.ensures.once c.args.flat.now (limits_of c.args.library.now) (near_at spans) (far_at spans)
    near far (c.requires.rules E2)
    (found _ _ _ _ c.as_slice.ensures c.deref.ensures.value c.in-Ok.ensures) places)) c.print_lines.ensures.added

pub returns-clause-part : goal.returns-clause-part
returns-clause-part g c near far places =
    let spans : List Span = c.deref.result.now in
    subst (λ (t : List ℕ). IfErr c.print_lines.result
    (PrintsWithin (g.O.Sink.output c.args.out.now) (g.O.Sink.output c.print_lines.new.out) t))
    (the_report c.args.flat.now c.args.circuit.now (near_at spans) (far_at spans) near far
    c.in-Ok-read_figures.figures c.limit-limit.result c.args.library.now.limit c.in-Ok-read_figures.ensures
    (c.skew_is_computed.ensures.greater c.args.circuit.now (near_at spans) (far_at spans)) c.limit-limit.ensures
    (c.cells_have_places.ensures.once c.args.flat.now (limits_of c.args.library.now) (near_at spans) (far_at spans)
    near far (c.requires.rules E2)
    (found _ _ _ _ c.as_slice.ensures c.deref.ensures.value c.in-Ok.ensures) places)) c.print_lines.ensures.part
