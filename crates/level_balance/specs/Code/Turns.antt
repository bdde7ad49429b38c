-- One turn of the walks that lay gates and outputs.
use Rattle.std.specs.Prelude.{◌≡◌, ℕ, suc, pred, true, false, List, [], ◌∷◌, length, replicate, slice_index_or}
use Rattle.circuit.specs.declared.gate.Gate.{Gate}
use Rattle.rowed.specs.declared.source.Source.{Source}
use Rattle.rowed.specs.declared.row_cell.RowCell.{RowCell}
use Rattle.rowed.specs.MadeCells.{source, output_cell}
use Rattle.level_balance.specs.declared.rows.Below.{Below}
use Rattle.level_balance.specs.declared.rows.LaidRows.{LaidRows}
use Rattle.level_balance.specs.Uses.{counts}
use Rattle.level_balance.specs.Laying.{put, Signals}
use Rattle.level_balance.specs.Plan.{Frame, Laid, sources, lay_gate, lay_gates, lay_outputs}

-- the sources of operands from use q on, by what stands below their gate
abbrev pub sources_of : Below → List (List RowCell) → ℕ → List ℕ → Signals
sources_of below rows q xs = sources below.inputs below.row below.ends.now rows q xs

-- the rows so far and the number of the next use, as the code has them
abbrev pub laid_of : LaidRows → ℕ → Laid
laid_of laid use_at = record { rows = laid.rows.items; ends = laid.ends.items; use_at = use_at }

-- the cells of a gate, if it counts
abbrev pub lay_one : Frame → ℕ → Gate → Laid → Laid
lay_one f i g at = elim (counts f.inputs f.marks i) [ true ↦ lay_gate f i g at | false ↦ at ]

-- the cells of an output
abbrev pub lay_output : Frame → ℕ → ℕ → Laid → Laid
lay_output f k o at =
    let ss = sources f.inputs (pred f.last) at.ends at.rows at.use_at (o ∷ []) in
    let shown = output_cell (slice_index_or ss.signals 0 (source 0 0)) k in
    record { rows = put ss.rows f.last shown; ends = at.ends; use_at = suc at.use_at }

-- these are the parts
pub record LaidIs (rows : List (List RowCell)) (ends : List Source) (use_at : ℕ) (at : Laid) : Type 0 where
  pub rows_are : rows ≡ at.rows
  pub ends_are : ends ≡ at.ends
  pub use_at_is : use_at ≡ at.use_at

-- no gate is laid yet
abbrev pub begun : Frame → Laid
begun f = record { rows = replicate (suc f.last) []; ends = replicate (length f.uses) (source 0 0); use_at = 0 }

-- all rows of a plan
abbrev pub laid_by : Frame → List Gate → List ℕ → List (List RowCell)
laid_by f gates outs = (lay_outputs f 0 (lay_gates f 0 (begun f) gates) outs).rows
