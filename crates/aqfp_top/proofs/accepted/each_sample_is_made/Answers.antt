use Rattle.std.proofs.Common.{refl}
use Rattle.cell_library.specs.LibraryA.{library_a_view}
use Rattle.aqfp_top.proofs.OneFault.{passes_none}
use Rattle.aqfp_top.proofs.Sampling.{sample_is_well}
use Rattle.aqfp_top.proofs.Accepting.{sample_ends}
use Rattle.aqfp_top.proofs.accepted.each_sample_is_made.Goals as goal

pub returns-clause-ends : goal.returns-clause-ends
returns-clause-ends c = sample_ends

pub returns-clause-well : goal.returns-clause-well
returns-clause-well c bits equations says limits =
    sample_is_well bits equations library_a_view says refl
    (passes_none c.plan_laws.ensures.past c.plan_laws.ensures.only equations library_a_view limits)
