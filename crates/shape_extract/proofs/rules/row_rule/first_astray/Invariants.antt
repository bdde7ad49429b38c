use Rattle.std.proofs.Common.{◌≡◌, ◌<◌, ℕ, suc}
use Rattle.std.specs.Prelude.{slice_index}
use Rattle.shape_extract.proofs.rules.row_rule.first_astray.Given as goal

abbrev pub invariant-loop-number : goal.invariant-loop-number
invariant-loop-number l = (k : ℕ) → k < l.number-index → l.row ≡ suc (slice_index l.rows (slice_index l.numbers k))
