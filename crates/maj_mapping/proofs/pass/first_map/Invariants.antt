use Rattle.std.proofs.Common.{◌≡◌, ◌++◌, ◌-◌, ℕ, replicate, Option, None}
use Rattle.maj_mapping.specs.Plan.{input_names}
use Rattle.maj_mapping.proofs.pass.first_map.Given as goal

abbrev pub invariant-loop-input : goal.invariant-loop-input
invariant-loop-input l = l.gate_of ++ input_names l.input (l.inputs - l.input) ≡ input_names 0 l.inputs

abbrev pub invariant-loop-def : goal.invariant-loop-def
invariant-loop-def l = l.gate_of ≡ input_names 0 l.inputs ++ replicate {A = Option ℕ} l._def None
