use Rattle.aqfp_top.proofs.OneFault.{passes_none}
use Rattle.aqfp_top.proofs.Designing.{planner_well, design_is_well}
use Rattle.aqfp_top.proofs.BuildEnds.{design_ends}
use Rattle.aqfp_top.proofs.due.each_design_is_built.Goals as goal

pub returns-clause-ends : goal.returns-clause-ends
returns-clause-ends c net lib equations cells planner answer says limits answers =
    let passes = passes_none c.plan_laws.ensures.past c.plan_laws.ensures.only in
    design_ends passes planner net lib equations cells answer says limits
    (design_is_well planner net lib equations cells says.net_says says.lib_says
    (planner_well planner equations cells (passes equations cells) limits)) answers

pub returns-clause-well : goal.returns-clause-well
returns-clause-well c net lib equations cells planner says limits =
    let passes = passes_none c.plan_laws.ensures.past c.plan_laws.ensures.only equations cells in
    design_is_well planner net lib equations cells says.net_says says.lib_says
    (planner_well planner equations cells passes limits)
