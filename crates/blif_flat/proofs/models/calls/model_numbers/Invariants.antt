use Rattle.std.proofs.Common.{take}
use Rattle.blif_flat.specs.Code.Numbering.{IsNumbering}
use Rattle.blif_flat.specs.Code.Calls.{has_name}
use Rattle.blif_flat.proofs.models.calls.model_numbers.Given as goal

abbrev pub invariant-loop-number : goal.invariant-loop-number
invariant-loop-number l = IsNumbering has_name l.numbers.entries (take l.number l.models)
