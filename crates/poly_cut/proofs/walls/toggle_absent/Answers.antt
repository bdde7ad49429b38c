use Rattle.std.proofs.Common.{◌≡◌, ℤ, List, refl, sym, subst, ◌∙◌, rules, w64, to_z, of_z}
use Rattle.std.proofs.lemmas.Int.{to_z-of_z}
use Rattle.std.proofs.lemmas.Result.{on_ok_weaker}
use Rattle.poly_cut.specs.Code.Sweeping.{Rising}
use Rattle.poly_cut.proofs.Parity.{toggled_rising}
use Rattle.poly_cut.proofs.TwoWalls.{moved_back_so, put_so}
use Rattle.poly_cut.proofs.walls.toggle_absent.Goals as goal

pub returns-then-stands_at : goal.returns-then-stands_at
returns-then-stands_at c =
    let same : to_z w64 (of_z w64 c.args.first.now.x) ≡ c.args.first.now.x = search (rules, to_z-of_z) in
    moved_back_so c.args.walls.now.items c.as_slice.result.now c.args.place c.args.first.now.x c.args.second.now.x _
    c.as_slice.ensures.value c.requires.gap (c.if-stands_at.ensures refl) same

pub returns-then-fits : goal.returns-then-fits
returns-then-fits c =
    on_ok_weaker c.put_two.result
    (λ e.
    e
    ∙ put_so c.args.walls.now.items c.as_slice-2.result.now c.args.place c.args.first.now.x c.args.second.now.x
    c.as_slice-2.ensures.value c.requires.gap (c.if-fits.ensures.right refl) (c.if-fits.ensures.left refl))
    c.put_two.ensures

pub toggle-requires-2 : goal.toggle-requires-2
toggle-requires-2 c = subst (λ (l : List ℤ). Rising l) (sym c.in_ok-toggle.ensures)
    (toggled_rising c.args.first.now.x c.args.walls.now.items c.requires.rising)
