-- The plan of a net with few cells is what the pass is to give; so it is where nothing is to be refused.
use Rattle.std.specs.Prelude.{◌≤◌, Bool}
use Rattle.std.proofs.Common.{refl, arith, inl, inr}
use Rattle.std.proofs.lemmas.Bool.{cases_lt}
use Rattle.circuit.specs.PlainNets.{PlainView, IsPlainNet}
use Rattle.level_balance.specs.Plan.{level_net}
use Rattle.level_balance.specs.Counts.{cell_count, capped}
use Rattle.level_balance.specs.Passes.{IsLevelled, IsTooLarge}
use Rattle.level_balance.specs.declared.pass.LevelRefusal.{LevelRefusal}
use Rattle.level_balance.specs.declared.pass.LevelRefusal.TheVariants.{TooManyCells}
use Rattle.level_balance.proofs.Counted.{plan_count}
use Rattle.level_balance.proofs.KeptNet.{plan_is_row_net}
use Rattle.level_balance.proofs.SameAnswers.{same_answers}

pub plan_given : (net : PlainView) (three : Bool) → IsPlainNet net → cell_count net three ≤ 2000000
    → IsLevelled net three (level_net net three)
plan_given net three known few =
    let kept = plan_is_row_net net three known (let k = plan_count net three known in omega arith) in
    record {
      net_keeps = known;
      rows_keep = kept;
      is_plan = refl;
      few_cells = few;
      same = same_answers net three known kept;
    }

pub given_unless_refused : (net : PlainView) (three : Bool) → IsPlainNet net
    → ((refusal : LevelRefusal) → IsTooLarge net three refusal → ⊥) → IsLevelled net three (level_net net three)
given_unless_refused net three known none = elim (cases_lt 2000000 (cell_count net three)) [
  | inl more ↦ absurd (none (TooManyCells (capped (cell_count net three))) (more, refl))
  | inr few ↦ plan_given net three known few
]
