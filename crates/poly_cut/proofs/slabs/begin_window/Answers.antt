use Rattle.std.proofs.Common.{◌≡◌, ◌⊎◌, ℕ, ℤ, List, pos, suc, ◌+◌, ◌/◌, ◌<◌, ◌≤◌, max, length, get_or, Some}
use Rattle.std.proofs.Common.{subst, refl, rules, arith, w64, to_z, of_z, drop}
use Rattle.std.specs.Prelude.{slice_get}
use Rattle.std.proofs.lemmas.Int.{to_z-of_z}
use Rattle.std.proofs.lemmas.Option.{slice_get-get_or}
use Rattle.geom.specs.Rectangle.{Rectangle}
use Rattle.poly_cut.specs.Code.Sweeping.{end}
use Rattle.poly_cut.specs.Code.Levels.{IsPair, Goes, Begins}
use Rattle.poly_cut.proofs.Spans.{got_less}
use Rattle.poly_cut.proofs.Openings.{slab_of, first_pairs, joins_pair, off_past, off_none}
use Rattle.poly_cut.proofs.slabs.begin_window.Goals as goal
use Rattle.poly_cut.proofs.slabs.begin_window.Goals.{After-right-1}

-- a wall as it is read
wall : (walls : List ℤ) (k n : ℕ) → k ≡ n → n < length walls
    → to_z w64 (of_z w64 (get_or walls k (pos 0))) ≡ get_or walls k (pos 0)
    → slice_get walls n ≡ Some (to_z w64 (of_z w64 (get_or walls k (pos 0))))
wall walls k n e lt is = rw is (rw e (slice_get-get_or walls n (pos 0) lt))

pair : (c : After-right-1) → IsPair c.args.walls.now c.loop-pair.pair
    (to_z w64 (of_z w64 (get_or c.args.walls.now (c.loop-pair.pair + c.loop-pair.pair) (pos 0))))
    (to_z w64 (of_z w64 (get_or c.args.walls.now (c.loop-pair.pair + c.loop-pair.pair + 1) (pos 0))))
pair c =
    let h = c.loop-pair.pair in
    record {
      first = wall c.args.walls.now (h + h) (h + h) refl (omega arith) (search (rules, to_z-of_z));
      second = wall c.args.walls.now (h + h + 1) (suc (h + h)) (omega arith) (omega arith) (search (rules, to_z-of_z));
    }

pub loop-pair-init : goal.loop-pair-init
loop-pair-init c =
    let e = slice_get-get_or c.args.ends.now c.args.number (end (pos 0) (pos 0)) c.requires.within in
    let is : c.max-first.result ≡ max c.args.from c.first_pair.result = c.max-first.ensures in
    let p : c.args.from + c.args.from ≤ length c.args.walls.now = c.requires.before.within in
    let q : c.first_pair.result + c.first_pair.result ≤ length c.args.walls.now = c.first_pair.ensures.within in
    first_pairs (slab_of c.args.ends.now c.args.walls.now c.args.level.now c.requires.rising c.requires.high)
    c.args.number c.requires.left c.requires.before c.requires.behind e (omega (arith, is)) (omega (arith, is, p, q))
    (λ i w more less g. c.first_pair.ensures.before i w (omega (arith, is, more, less)) g)

pub returns-then-is_past-clause-off : goal.returns-then-is_past-clause-off
returns-then-is_past-clause-off c =
    off_past c.loop-pair.pair c.args.walls.now (drop c.args.number c.args.ends.now) _ c.requires.rising
    (pair (goal.at.returns-then-is_past-clause-off c).After-right-1).first (c.is_past.ensures.yes c.if-is_past.true)

pub between-requires-clause-wide : goal.between-requires-clause-wide
between-requires-clause-wide c =
    let p = pair (goal.at.between-requires-clause-wide c).After-right-1 in
    got_less c.args.walls.now _ _ _ _ c.requires.rising (omega arith) p.first p.second

pub loop-pair-preserved : goal.loop-pair-preserved
loop-pair-preserved c =
    let n : c.loop-pair.pair + 1 ≡ suc c.loop-pair.pair = omega arith in
    rw n (joins_pair (slab_of c.args.ends.now c.args.walls.now c.args.level.now c.requires.rising c.requires.high)
    c.loop-pair.invariant (pair (goal.at.loop-pair-preserved c).After-right-1)
    (subst (λ (t : Rectangle). Goes c.loop-pair.stack.rects c.loop-pair.stack.last t c.join.new.stack.rects
    c.join.new.stack.last ⊎ Begins c.loop-pair.stack.rects c.loop-pair.stack.last t c.join.new.stack.rects
    c.join.new.stack.last) c.between.ensures c.in_ok-join.ensures))

pub returns-clause-whole : goal.returns-clause-whole
returns-clause-whole c = λ whole w.
    (let e : length c.args.walls.now / 2 ≡ c.loop-pair.pair = omega arith in rw e (c.loop-pair.invariant.whole whole w))

pub returns-clause-off : goal.returns-clause-off
returns-clause-off c = off_none _ c.args.walls.now _ (omega arith)
