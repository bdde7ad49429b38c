use Rattle.geom.specs.Rectangle.{Rectangle}
use Rattle.poly_cut.specs.declared.layout.Point.{Point}
use Rattle.std.proofs.Common.{false, length, ap, refl, ◌∙◌, ◌≡◌, [], List, sym, subst}
use Rattle.std.specs.Prelude.{IsPermutation, ◌==◌}
use Rattle.std.proofs.lemmas.Result.{IfOk-weaker}
use Rattle.poly_cut.specs.declared.ends.End.{End}
use Rattle.poly_cut.specs.Rings.{Edge, edges}
use Rattle.poly_cut.specs.Cuts.{ring_cut, slabs, all_joined}
use Rattle.poly_cut.specs.Code.Sweeping.{FromBelow, ends_of, steep, levels_of}
use Rattle.poly_cut.specs.Code.Levels.{LevelsFromLeft}
use Rattle.poly_cut.proofs.RingEnds.{from_sort, left_sort, swept_cut}
use Rattle.poly_cut.proofs.cutting.swept.Goals as goal

pub sweep-requires-clause-below : goal.sweep-requires-clause-below
sweep-requires-clause-below c = subst (λ (l : List End). FromBelow l) (sym c.as_slice.ensures.value)
    (from_sort c.sort_unstable.new.self.items c.sort_unstable.ensures.sorted)

pub sweep-requires-clause-left : goal.sweep-requires-clause-left
sweep-requires-clause-left c = subst (λ (l : List End). LevelsFromLeft l) (sym c.as_slice.ensures.value)
    (left_sort c.sort_unstable.new.self.items c.sort_unstable.ensures.sorted)

of_ring : (ring : List Point) (ends moved given : List End) → ends ≡ ends_of (steep (edges ring))
    → IsPermutation ends moved → given ≡ moved → IsPermutation (ends_of (steep (edges ring))) given
of_ring ring ends moved given is perm same = subst (λ (l : List End). IsPermutation (ends_of (steep (edges ring))) l)
    (sym same) (subst (λ (l : List End). IsPermutation l moved) is perm)

pub returns-clause-whole : goal.returns-clause-whole
returns-clause-whole c =
    let ring = c.args.ring.now in
    let perm = of_ring ring _ _ c.as_slice.result.now c.in_ok-ends.ensures c.sort_unstable.ensures.permutation
    c.as_slice.ensures.value in
    IfOk-weaker c.sweep.result (λ rects. c.args.first ≡ false → (es : List Edge)
    → IsPermutation (ends_of es) c.as_slice.result.now
    → rects ≡ all_joined [] (slabs es (levels_of c.as_slice.result.now)))
    (λ rects. c.args.first ≡ false → rects ≡ ring_cut ring)
    (λ rects so whole. swept_cut ring c.as_slice.result.now rects perm (so whole (steep (edges ring)) perm))
    c.sweep.ensures.whole

pub returns-clause-some : goal.returns-clause-some
returns-clause-some c =
    let ring = c.args.ring.now in
    let perm = of_ring ring _ _ c.as_slice.result.now c.in_ok-ends.ensures c.sort_unstable.ensures.permutation
    c.as_slice.ensures.value in
    IfOk-weaker c.sweep.result (λ rects. (es : List Edge) → IsPermutation (ends_of es) c.as_slice.result.now
    → (length rects == 0) ≡ (length (all_joined [] (slabs es (levels_of c.as_slice.result.now))) == 0))
    (λ rects. (length rects == 0) ≡ (length (ring_cut ring) == 0))
    (λ rects so. so (steep (edges ring)) perm ∙ ap (λ (l : List Rectangle). length l == 0)
    (swept_cut ring c.as_slice.result.now _ perm refl))
    c.sweep.ensures.some
