use Rattle.std.proofs.Common.{◌≡◌, ℕ, ℤ, List, sym, subst, ◌∙◌}
use Rattle.std.proofs.lemmas.Result.{on_ok_weaker}
use Rattle.poly_cut.specs.Code.Sweeping.{Rising}
use Rattle.poly_cut.specs.Code.Levels.{IsPair, Clear, IsOpen, Standing, all_toggled}
use Rattle.poly_cut.proofs.OffWindows.{all_rising}
use Rattle.poly_cut.proofs.LevelSteps.{ended_low, ended_high, ended_standing, ended_clear, risen_at}
use Rattle.poly_cut.proofs.cutting.rise.Goals as goal

pub begin_level-requires-clause-rising : goal.begin_level-requires-clause-rising
begin_level-requires-clause-rising c =
    let w : c.as_slice-2.result.now ≡ all_toggled c.args.ends.now c.args.walls.now.items = c.as_slice-2.ensures.value
    ∙ c.in_ok-toggle_all.ensures in
    subst (λ (l : List ℤ). Rising l) (sym w) (all_rising c.args.ends.now c.args.walls.now.items c.requires.at.rising)

pub begin_level-requires-clause-low : goal.begin_level-requires-clause-low
begin_level-requires-clause-low c = ended_low c.args.ends.now c.args.walls.now.items c.args.stack.now.rects
    c.end_level.new.rects c.args.stack.now.last c.args.level.now.y c.args.level.now.top c.requires.left c.requires.at
    c.end_level.ensures

pub begin_level-requires-clause-standing : goal.begin_level-requires-clause-standing
begin_level-requires-clause-standing c =
    let w : c.as_slice-2.result.now ≡ all_toggled c.args.ends.now c.args.walls.now.items = c.as_slice-2.ensures.value
    ∙ c.in_ok-toggle_all.ensures in
    subst (λ (l : List ℤ). Standing c.end_level.new.rects c.args.stack.now.last l c.args.level.now.y) (sym w)
    (ended_standing c.args.ends.now c.args.walls.now.items c.args.stack.now.rects c.end_level.new.rects
    c.args.stack.now.last c.args.level.now.y c.args.level.now.top c.requires.left c.requires.at c.end_level.ensures)

pub begin_level-requires-clause-whole : goal.begin_level-requires-clause-whole
begin_level-requires-clause-whole c = ended_high c.args.ends.now c.args.walls.now.items c.args.stack.now.rects
    c.end_level.new.rects c.args.stack.now.last c.args.level.now.y c.args.level.now.top c.requires.left c.requires.at
    c.end_level.ensures

pub begin_level-requires-clause-clear : goal.begin_level-requires-clause-clear
begin_level-requires-clause-clear c =
    let w : c.as_slice-2.result.now ≡ all_toggled c.args.ends.now c.args.walls.now.items = c.as_slice-2.ensures.value
    ∙ c.in_ok-toggle_all.ensures in
    subst (λ (l : List ℤ). (i : ℕ) (a b : ℤ) → IsPair l i a b → Clear c.args.ends.now a b
    → IsOpen c.end_level.new.rects c.args.stack.now.last a b c.args.level.now.top) (sym w)
    (ended_clear c.args.ends.now c.args.walls.now.items c.args.stack.now.rects c.end_level.new.rects
    c.args.stack.now.last c.args.level.now.y c.args.level.now.top c.requires.left c.requires.at c.end_level.ensures)

pub returns-clause-at : goal.returns-clause-at
returns-clause-at c =
    let w : c.as_slice-2.result.now ≡ all_toggled c.args.ends.now c.args.walls.now.items = c.as_slice-2.ensures.value
    ∙ c.in_ok-toggle_all.ensures in
    on_ok_weaker c.begin_level.result
    (λ r. risen_at c.end_level.new.rects c.toggle_all.new.walls.items c.args.level.now.y c.args.level.now.top
    c.begin_level.new.stack.rects c.begin_level.new.stack.last
    (subst (λ (l : List ℤ). Rising l) (sym c.in_ok-toggle_all.ensures)
    (all_rising c.args.ends.now c.args.walls.now.items c.requires.at.rising))
    (rw c.as_slice-2.ensures.value at r))
    c.begin_level.ensures
