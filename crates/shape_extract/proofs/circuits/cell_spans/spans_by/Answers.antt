use Rattle.std.proofs.Common.{◌≡◌, ◌<◌, ◌+◌, length, Some, arith, refl, sym, subst}
use Rattle.std.proofs.lemmas.Option.{slice_get_read, slice_get_within}
use Rattle.std.specs.Prelude.{slice_get}
use Rattle.shape_extract.proofs.FrameSpans.{AreSpansBelow, no_spans, spans_more, spans_all}
use Rattle.shape_extract.proofs.circuits.cell_spans.spans_by.Goals as goal

pub loop-place-init : goal.loop-place-init
loop-place-init c = no_spans _ _ _ c.new-spans.ensures.items

pub span_of-requires-clause-frame : goal.span_of-requires-clause-frame
span_of-requires-clause-frame c =
    let lt : c.loop-place.place < length c.in_ok-frames.frames.items = omega arith in
    c.in_ok-frames.ensures.are.only c.loop-place.place c.index.result.now (slice_get_read c.in_ok-frames.frames.items
    (length c.in_ok-frames.frames.items) c.loop-place.place c.index.result.now refl lt c.index.ensures)

pub span_of-requires-clause-within : goal.span_of-requires-clause-within
span_of-requires-clause-within c =
    let lt : c.loop-place.place < length c.in_ok-frames.frames.items = omega arith in
    let passes = c.in_ok-frames.ensures.are.only c.loop-place.place c.index.result.now
    (slice_get_read c.in_ok-frames.frames.items (length c.in_ok-frames.frames.items) c.loop-place.place
    c.index.result.now refl lt c.index.ensures) in
    slice_get_within c.args.shapes.now c.index.result.now passes.shape passes.shape_is

pub loop-place-preserved : goal.loop-place-preserved
loop-place-preserved c =
    let lt : c.loop-place.place < length c.in_ok-frames.frames.items = omega arith in
    let at : slice_get c.in_ok-frames.frames.items c.loop-place.place ≡ Some c.index.result.now =
    slice_get_read c.in_ok-frames.frames.items (length c.in_ok-frames.frames.items) c.loop-place.place
    c.index.result.now refl lt c.index.ensures in
    subst (AreSpansBelow (c.loop-place.place + 1) c.args.shapes.now c.in_ok-frames.frames.items)
    (sym c.in_ok-push.ensures.items)
    (spans_more c.loop-place.place c.args.shapes.now c.in_ok-frames.frames.items c.loop-place.spans.items
    c.index.result.now c.in_ok-span.span c.loop-place.invariant at c.in_ok-span.ensures)

pub returns : goal.returns
returns c =
    let all : length c.in_ok-frames.frames.items ≡ c.loop-place.place = omega arith in
    spans_all c.loop-place.place c.args.shapes.now c.in_ok-frames.frames.items c.loop-place.spans.items
    c.in_ok-frames.ensures.are c.loop-place.invariant all
