use Rattle.std.proofs.Common.{◌≡◌, ◌∙◌, sym}
use Rattle.std.proofs.lemmas.Option.{same_Some}
use Rattle.shape_extract.proofs.Marked.{got_at}
use Rattle.shape_extract.proofs.FrameSpans.{placed_under}
use Rattle.shape_extract.proofs.circuits.cell_spans.span_of.Goals as goal

pub span_under-requires-clause-within : goal.span_under-requires-clause-within
span_under-requires-clause-within c = c.in_ok-bar.ensures.within

pub span_under-requires-clause-before : goal.span_under-requires-clause-before
span_under-requires-clause-before c = c.requires.walked.long

pub span_under-requires-clause-reached : goal.span_under-requires-clause-reached
span_under-requires-clause-reached c = c.in_ok-bar.ensures.reached

pub returns : goal.returns
returns c = λ frame got.
    let same : c.index-shapes-f.result ≡ frame = same_Some c.index-shapes-f.result frame
    (sym (got_at _ _ _ c.requires.within c.index-shapes-f.is) ∙ got) in
    placed_under c.args.shapes.now c.args.before.now c.args.ways.now c.requires.ways c.args.f c.in_ok-bar.bar
    c.in_ok-bar.ensures frame got c.span_under.result
    (rw same at c.span_under.ensures)
