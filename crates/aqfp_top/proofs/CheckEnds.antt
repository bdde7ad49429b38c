-- The faults with which the steps of a check may end it.
use Rattle.std.proofs.Common.{Result, IfErr, refl}
use Rattle.aqfp_top.specs.Loads.{check_loads}
use Rattle.aqfp_top.specs.Faults.{IsCheckFault}
use Rattle.aqfp_top.specs.Code.Loading.{IsFaultOfLoads}
use Rattle.aqfp_top.specs.Code.Building.{IsOutOrMemory}
use Rattle.aqfp_top.specs.Code.Checking.{IsCircuitFault, IsJudgingFault}
use Rattle.aqfp_top.specs.declared.fault.Fault.{Fault}
use Rattle.aqfp_top.proofs.EachFault.{each_of_loads, each_circuit, each_judging, each_out}

-- what judging a layout and a library may find, judging words too may find
pub circuit_judges : (fault : Fault) → IsCircuitFault fault → IsJudgingFault fault
circuit_judges fault wrong = each_circuit IsJudgingFault (λ o k. tt) (λ n. tt) (λ f. tt) (λ k. tt)
    (λ r a b. tt) tt fault wrong

pub loads_check : (fault : Fault) → IsFaultOfLoads check_loads fault → IsCheckFault fault
loads_check fault only = each_of_loads IsCheckFault check_loads (λ p l. l) (λ p t l. l) (λ p l. l) tt fault only

pub unsound_is_check : (fault : Fault) → IsJudgingFault fault → IsCheckFault fault
unsound_is_check fault wrong = each_judging IsCheckFault (λ o k. tt) (λ n. tt) (λ f. tt) (λ k. tt)
    (λ r a b. tt) (λ l. tt) tt fault wrong

pub out_is_check : (result : Result (Unit {0}) Fault) → IfErr result IsOutOrMemory → IfErr result IsCheckFault
out_is_check result only = each_out (λ r. IfErr r IsCheckFault) tt refl tt result only

pub ruleset ends = (circuit_judges, loads_check, unsound_is_check)
