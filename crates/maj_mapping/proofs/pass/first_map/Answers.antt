use Rattle.maj_mapping.proofs.Beginning.{one_name, all_names, one_none}
use Rattle.maj_mapping.proofs.pass.first_map.Goals as goal

pub loop-input-preserved : goal.loop-input-preserved
loop-input-preserved c = one_name _ _ _ _ c.loop-input-test.true c.loop-input.invariant c.in_ok-push.ensures.ok

pub loop-def-init : goal.loop-def-init
loop-def-init c = all_names _ _ _ c.loop-input.invariant c.loop-input-test.false

pub loop-def-preserved : goal.loop-def-preserved
loop-def-preserved c = one_none _ _ _ _ c.loop-def.invariant c.in_ok-push-2.ensures.ok
