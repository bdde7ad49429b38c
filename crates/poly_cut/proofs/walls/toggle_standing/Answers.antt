use Rattle.std.proofs.Common.{◌≡◌, ℤ, List, refl, sym, subst, rules, w64, to_z, of_z}
use Rattle.std.proofs.lemmas.Int.{to_z-of_z}
use Rattle.poly_cut.specs.Code.Sweeping.{Rising}
use Rattle.poly_cut.proofs.Parity.{toggled_rising}
use Rattle.poly_cut.proofs.TwoWalls.{taken_so, moved_on_so}
use Rattle.poly_cut.proofs.walls.toggle_standing.Goals as goal

pub returns-then-stands_at : goal.returns-then-stands_at
returns-then-stands_at c =
    taken_so c.args.walls.now.items c.as_slice.result.now c.take_two.new.walls.items c.args.place c.args.first.now.x
    c.args.second.now.x c.as_slice.ensures.value c.requires.rising c.requires.stands (c.if-stands_at.ensures refl)
    c.take_two.ensures

pub returns-then-fits : goal.returns-then-fits
returns-then-fits c =
    let same : to_z w64 (of_z w64 c.args.second.now.x) ≡ c.args.second.now.x = search (rules, to_z-of_z) in
    moved_on_so c.args.walls.now.items c.as_slice-2.result.now c.args.place c.args.first.now.x c.args.second.now.x _
    c.as_slice-2.ensures.value c.requires.rising c.requires.stands (c.if-fits.ensures.right refl)
    (c.if-fits.ensures.left refl) same

pub toggle-requires-2 : goal.toggle-requires-2
toggle-requires-2 c = subst (λ (l : List ℤ). Rising l) (sym c.in_ok-toggle.ensures)
    (toggled_rising c.args.first.now.x c.args.walls.now.items c.requires.rising)
