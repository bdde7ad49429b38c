use Rattle.std.proofs.Common.{◌≡◌, ◌+◌, List, take}
use Rattle.std.specs.List.{sum_by}
use Rattle.blif_read.specs.declared.models.BlifModel.{BlifModel}
use Rattle.blif_flat.specs.Designs.{model_number}
use Rattle.blif_flat.specs.DesignSize.{definition_size}
use Rattle.blif_flat.specs.Code.Numbering.{IsNumbering}
use Rattle.blif_flat.specs.Code.Calls.{has_name}
use Rattle.blif_flat.specs.Code.Sizes.{told, told_at}
use Rattle.blif_flat.proofs.models.sizes.model_size.Given as goal

abbrev pub invariant-loop-call : goal.invariant-loop-call
invariant-loop-call l = (models : List BlifModel) → IsNumbering has_name l.numbers.entries models
    → l.size ≡ told (sum_by definition_size l.model.defs + sum_by (λ c. told_at l.table (model_number models c.model))
    (take l.call-index l.model.calls))
