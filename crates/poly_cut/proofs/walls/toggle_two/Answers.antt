use Rattle.poly_cut.proofs.Toggling.{searchable}
use Rattle.poly_cut.proofs.TwoWalls.{gap_of}
use Rattle.poly_cut.proofs.walls.toggle_two.Goals as goal

pub toggle_absent-requires-clause-gap : goal.toggle_absent-requires-clause-gap
toggle_absent-requires-clause-gap c =
    let f = rw c.deref.ensures.value at c.in-Err.ensures.position in
    let n = rw c.deref.ensures.value at c.in-Err.ensures.bound in
    gap_of c.args.first.now.x c.args.walls.now.items c.in-Err.place n
    (f (searchable c.args.walls.now.items c.args.first.now.x c.requires))
