use Rattle.std.proofs.Common.{◌≡◌, List, drop}
use Rattle.blif_read.specs.declared.models.BlifModel.{BlifModel}
use Rattle.blif_flat.specs.DesignFaults.{line_to}
use Rattle.blif_flat.specs.Code.Numbering.{IsNumbering}
use Rattle.blif_flat.specs.Code.Calls.{has_name}
use Rattle.blif_flat.proofs.models.calls.line_to.Given as goal

abbrev pub invariant-loop-call : goal.invariant-loop-call
invariant-loop-call l = (models : List BlifModel) → IsNumbering has_name l.numbers.entries models
    → line_to models l.number (drop l.call-index l.calls) ≡ line_to models l.number l.calls
