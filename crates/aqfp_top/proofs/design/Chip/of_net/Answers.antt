use Rattle.aqfp_top.proofs.Designing.{drawn, chip_is_of, planned_well}
use Rattle.aqfp_top.proofs.OneFault.{passes_none}
use Rattle.aqfp_top.proofs.design.Chip.of_net.Goals as goal

pub returns-clause-made : goal.returns-clause-made
returns-clause-made c =
    let placed = c.in_ok-placed.placed in
    let ensures = c.in_ok-placed.ensures in
    chip_is_of c.args.planner c.args.net.now c.args.cells.now placed _ (record {
      keeps = c.known.ensures;
      lawful = c.known-2.ensures.library;
      draws = ensures.draws;
      answers = ensures.answers;
      small = c.in_ok-layout.ensures.small;
    }) ensures.planned (drawn c.args.cells.now placed _ c.in_ok-layout.ensures.drawn c.counts_of-counts.ensures)

pub returns-clause-passes : goal.returns-clause-passes
returns-clause-passes c =
    planned_well c.args.planner c.args.net.now c.args.cells.now c.in_ok-placed.placed
    (passes_none c.plan_laws.ensures.past c.plan_laws.ensures.only c.args.net.now c.args.cells.now)
    c.in_ok-placed.ensures.planned c.in_ok-layout.ensures.small
