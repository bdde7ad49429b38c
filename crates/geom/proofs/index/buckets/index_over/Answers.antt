use Rattle.std.proofs.Common.{◌≡◌, ◌∙◌, sym, length}
use Rattle.std.proofs.lemmas.List.{length-map}
use Rattle.geom.specs.Code.Filed.{rects_in}
use Rattle.geom.specs.declared.index.spots.Spot.{Spot}
use Rattle.geom.proofs.Placing.{index_is, unfiled_so}
use Rattle.geom.proofs.index.buckets.index_over.Goals as goal

pub invariant_of-result : goal.invariant_of-result
invariant_of-result c =
    let all : c.len-count.result ≡ length (rects_in c.args.unfiled) =
    c.len-count.ensures ∙ sym (length-map c.args.unfiled (λ (s : Spot). s.rect)) in
    index_is (rects_in c.args.unfiled) c.in_ok-laid_out.laid_out.items _ _ _
    (rw c.as_slice.ensures.value at c.in_ok-starts.ensures) all _ _
    (rw (c.as_slice-2.ensures.value, c.as_slice-3.ensures.value) at c.in_ok-grids.ensures)
    c.in_ok-blocks.ensures

pub returns : goal.returns
returns c =
    let all : c.len-count.result ≡ length (rects_in c.args.unfiled) =
    c.len-count.ensures ∙ sym (length-map c.args.unfiled (λ (s : Spot). s.rect)) in
    unfiled_so (rects_in c.args.unfiled) c.in_ok-laid_out.laid_out.items _ _ _
    (rw c.as_slice.ensures.value at c.in_ok-starts.ensures) all
