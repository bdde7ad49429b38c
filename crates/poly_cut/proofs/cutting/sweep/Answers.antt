use Rattle.std.proofs.Common.{◌≡◌, ℕ, ◌-◌, ◌<◌, List, Some, true, get_or, ℤ, pos, ◌<ℤ◌, sym, ◌∙◌, arith, length}
use Rattle.std.specs.Prelude.{slice_get, int_lt}
use Rattle.std.proofs.lemmas.Int.{ints}
use Rattle.std.proofs.lemmas.Option.{slice_get-get_or}
use Rattle.poly_cut.specs.declared.ends.End.{End}
use Rattle.poly_cut.specs.Code.Sweeping.{end}
use Rattle.poly_cut.proofs.Sweeps.{group_left, next_within, level_swept, all_swept, test_first, test_whole, some_swept}
use Rattle.poly_cut.proofs.cutting.sweep.Goals as goal

below : (a b : ℤ) → int_lt a b ≡ true → a <ℤ b
below a b h = grind (arith, ints)

here : (ends : List End) (k : ℕ) → k < length ends → slice_get ends k ≡ Some (get_or ends k (end (pos 0) (pos 0)))
here ends k lt = slice_get-get_or ends k (end (pos 0) (pos 0)) lt

pub rise-requires-clause-left : goal.rise-requires-clause-left
rise-requires-clause-left c =
    group_left c.levels.number (c.next_level-next.result - c.levels.number) c.args.ends.now _ c.requires.below
    c.requires.left (here c.args.ends.now c.levels.number c.levels.invariant.within)
    (λ i g lo hi q. c.next_level-next.ensures.level i _ g
    (here c.args.ends.now c.levels.number c.levels.invariant.within) lo
    (let m = c.next_level-next.ensures.more in omega (arith, hi, m)) q)

pub rise-requires-clause-at : goal.rise-requires-clause-at
rise-requires-clause-at c = rw (c.level_at.ensures.y, c.level_at.ensures.top)
    (c.levels.invariant.at _ (here c.args.ends.now c.levels.number c.levels.invariant.within))

pub levels-preserved : goal.levels-preserved
levels-preserved c =
    let e = here c.args.ends.now c.levels.number c.levels.invariant.within in
    let n = c.next_level-next.ensures in
    let test = below _ _ (test_first _ _ (sym c.goes_on.ensures ∙ c.levels-test.true)) in
    let lt = next_within c.levels.number c.next_level-next.result c.args.ends.now _ _ n.within e
    (sym c.in-Some.ensures.value) c.levels.invariant.within test (λ i g. n.level i _ g e) in
    let f = here c.args.ends.now c.next_level-next.result lt in
    let above = n.above _ _ e f in
    let low = c.requires.below c.next_level-next.result (length c.args.ends.now - 1) _ _ (omega (arith, lt)) f
    (sym c.in-Some.ensures.value) in
    level_swept c.levels.number c.next_level-next.result c.args.ends.now c.in-Some.top.now.y c.levels.walls.items
    c.levels.stack.rects c.levels.stack.last c.requires.below c.levels.invariant _ _ e f n.more
    (λ i g lo hi q. n.level i _ g e lo hi q) above c.rise.new.walls.items c.in_ok-rise.ensures.walls
    c.rise.new.stack.rects c.rise.new.stack.last
    (rw c.level_at.ensures.top at
    (c.in_ok-rise.ensures.at (get_or c.args.ends.now c.next_level-next.result (end (pos 0) (pos 0))).y
    (rw c.level_at.ensures.y above) (rw c.level_at.ensures.top low)))
    (rw c.level_at.ensures.y at
    (c.in_ok-rise.ensures.joined (get_or c.args.ends.now c.next_level-next.result (end (pos 0) (pos 0))).y
    (rw c.level_at.ensures.y above) (rw c.level_at.ensures.top low)))

pub returns-clause-whole : goal.returns-clause-whole
returns-clause-whole c = λ whole.
    all_swept c.levels.number c.args.ends.now c.in-Some.top.now.y c.levels.walls.items c.levels.stack.rects
    c.levels.stack.last _ _ c.requires.below c.levels.invariant
    (here c.args.ends.now c.levels.number c.levels.invariant.within)
    (λ k. c.in-Some.top.now.y) (sym c.in-Some.ensures.value)
    (test_whole _ c.args.first _ whole (sym c.goes_on.ensures ∙ c.levels-test.false))

pub returns-clause-some : goal.returns-clause-some
returns-clause-some c =
    some_swept c.levels.number c.args.ends.now c.in-Some.top.now.y c.levels.walls.items c.levels.stack.rects
    c.levels.stack.last _ _ c.args.first c.requires.below c.levels.invariant
    (here c.args.ends.now c.levels.number c.levels.invariant.within)
    (λ k. c.in-Some.top.now.y) (sym c.in-Some.ensures.value) (sym c.goes_on.ensures ∙ c.levels-test.false)
