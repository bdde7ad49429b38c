-- What the pass of levels gives, and which nets it refuses.
use Rattle.std.specs.Prelude.{◌≡◌, ◌<◌, ◌≤◌, Bool, length}
use Rattle.circuit.specs.PlainNets.{PlainView, IsPlainNet, IsAnswer as IsGatesAnswer}
use Rattle.circuit.specs.SameAnswers.{SameAnswers}
use Rattle.rowed.specs.RowNets.{RowView, IsRowNet, IsAnswer}
use Rattle.rowed.specs.Limits.{cell_limit}
use Rattle.level_balance.specs.Plan.{level_net}
use Rattle.level_balance.specs.Counts.{cell_count, capped}
use Rattle.level_balance.specs.declared.pass.LevelRefusal.{LevelRefusal}
use Rattle.level_balance.specs.declared.pass.LevelRefusal.TheVariants.{TooManyCells, Memory}

-- these are the rows of the net's plan, which has at most 2,000,000 cells; they answer every word as the gates do
pub record IsLevelled (net : PlainView) (three : Bool) (rows : RowView) : Type 0 where
  pub net_keeps : IsPlainNet net
  pub rows_keep : IsRowNet rows
  pub is_plan : rows ≡ level_net net three
  pub few_cells : cell_count net three ≤ cell_limit
  pub same : SameAnswers net.inputs rows.inputs (length net.outputs) rows.outputs (IsGatesAnswer net) (IsAnswer rows)

-- the plan has more cells, and the refusal says how many; 2^64 - 1 where there are more
abbrev pub IsTooLarge : PlainView → Bool → LevelRefusal → Type 0
IsTooLarge net three (TooManyCells cells) =
    (cell_limit < cell_count net three) × (cells ≡ capped (cell_count net three))
IsTooLarge net three Memory = ⊥
