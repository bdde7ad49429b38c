use Rattle.aqfp_top.proofs.Counting.{has_faults, failed_load}
use Rattle.aqfp_top.proofs.heard.faults_are_heard.Goals as goal

pub returns-clause-counted : goal.returns-clause-counted
returns-clause-counted c history history' words out out' answer hears =
    has_faults words history history' out out' answer hears

pub returns-clause-named : goal.returns-clause-named
returns-clause-named c history history' words out out' answer hears =
    failed_load words history history' out out' answer hears
