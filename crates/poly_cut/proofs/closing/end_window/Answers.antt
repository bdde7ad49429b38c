use Rattle.std.proofs.Common.{◌≡◌, ℤ, pos, suc, ◌+◌, get_or, Some, sym, ap, ◌∙◌, rules, arith, w64, to_z, of_z, drop}
use Rattle.std.specs.Prelude.{slice_get}
use Rattle.std.proofs.lemmas.Int.{to_z-of_z}
use Rattle.std.proofs.lemmas.Option.{slice_get-get_or}
use Rattle.poly_cut.proofs.OffWindows.{drop_first}
use Rattle.poly_cut.proofs.Endings.{Window, pair_ended, window_ended, low_kept}
use Rattle.poly_cut.proofs.Openings.{off_past, off_none}
use Rattle.poly_cut.specs.Code.Sweeping.{end}
use Rattle.poly_cut.proofs.closing.end_window.Goals as goal
use Rattle.poly_cut.proofs.closing.end_window.Goals.{After-first_pair-pair, After-left-1}

abbrev window : After-first_pair-pair → Window
window c = record {
  rest = drop c.args.number c.args.ends.now;
  walls = c.args.walls.now;
  level = c.args.level.now.y;
  last = c.args.last.now;
  old = c.args.rects.now;
  first = c.first_pair-pair.result;
  end = get_or c.args.ends.now c.args.number (end (pos 0) (pos 0));
  rising = c.requires.rising;
  standing = c.requires.standing;
  head = drop_first c.args.ends.now c.args.number _
      (slice_get-get_or c.args.ends.now c.args.number (end (pos 0) (pos 0)) c.requires.within);
  before = c.first_pair-pair.ensures.before;
  from = c.first_pair-pair.ensures.from;
}

wall : (c : After-left-1) → slice_get c.args.walls.now (c.loop-pair.pair + c.loop-pair.pair) ≡ Some
    (to_z w64 (of_z w64 (get_or c.args.walls.now (c.loop-pair.pair + c.loop-pair.pair) (pos 0))))
wall c =
    let a : to_z w64 (of_z w64 (get_or c.args.walls.now (c.loop-pair.pair + c.loop-pair.pair) (pos 0))) ≡ get_or
    c.args.walls.now (c.loop-pair.pair + c.loop-pair.pair) (pos 0) = search (rules, to_z-of_z) in
    slice_get-get_or c.args.walls.now (c.loop-pair.pair + c.loop-pair.pair) (pos 0) (omega arith)
    ∙ ap (λ (x : ℤ). Some x) (sym a)

pub end_at-requires-clause-low : goal.end_at-requires-clause-low
end_at-requires-clause-low c = low_kept c.args.rects.now c.loop-pair.rects c.args.last.now c.args.walls.now
    c.args.level.now.y c.loop-pair.invariant.same c.requires.low

pub loop-pair-preserved : goal.loop-pair-preserved
loop-pair-preserved c =
    let p = goal.at.loop-pair-preserved c in
    let n : c.loop-pair.pair + 1 ≡ suc c.loop-pair.pair = omega arith in
    rw n (pair_ended (window p.After-first_pair-pair) c.loop-pair.pair c.loop-pair.rects c.end_at.new.rects
    c.loop-pair.invariant _ (wall p.After-left-1) (c.is_past.ensures.no c.if-is_past.false) c.loop-pair.auto.pair
    c.end_at.ensures.some c.end_at.ensures.none)

pub returns-then-is_past : goal.returns-then-is_past
returns-then-is_past c =
    let p = goal.at.returns-then-is_past c in
    window_ended (window p.After-first_pair-pair) c.loop-pair.pair c.loop-pair.rects c.loop-pair.invariant
    (off_past c.loop-pair.pair c.args.walls.now _ _ c.requires.rising (wall p.After-left-1)
    (c.is_past.ensures.yes c.if-is_past.true))

pub returns : goal.returns
returns c = window_ended (window (goal.at.returns c).After-first_pair-pair) c.loop-pair.pair c.loop-pair.rects
    c.loop-pair.invariant (off_none _ c.args.walls.now _ c.loop-pair-test.false)
