use Rattle.poly_cut.proofs.Toggling.{searchable, before_found, from_found, before_place, from_place}
use Rattle.poly_cut.proofs.windows.first_pair.Goals as goal

pub returns-in-Ok-clause-before : goal.returns-in-Ok-clause-before
returns-in-Ok-clause-before c = λ i w lt e. before_found _ c.args.walls.now c.in-Ok.place c.requires
    c.in-Ok.ensures.bound c.in-Ok.ensures.ok i w lt e

pub returns-in-Ok-clause-from : goal.returns-in-Ok-clause-from
returns-in-Ok-clause-from c = λ i w le e. from_found _ c.args.walls.now c.in-Ok.place c.requires c.in-Ok.ensures.bound
    c.in-Ok.ensures.ok i w le e

pub returns-in-Err-clause-before : goal.returns-in-Err-clause-before
returns-in-Err-clause-before c = λ i w lt e. before_place _ c.args.walls.now c.in-Err.place c.requires
    (c.in-Err.ensures.position (searchable c.args.walls.now _ c.requires)) i w lt e

pub returns-in-Err-clause-from : goal.returns-in-Err-clause-from
returns-in-Err-clause-from c = λ i w le e. from_place _ c.args.walls.now c.in-Err.place c.requires
    (c.in-Err.ensures.position (searchable c.args.walls.now _ c.requires)) i w le e
