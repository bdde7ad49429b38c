use Rattle.std.proofs.Common.{◌≡◌, List, ◌++◌, drop}
use Rattle.std.specs.List.{flat_map}
use Rattle.blif_read.specs.declared.models.BlifModel.{BlifModel}
use Rattle.blif_flat.specs.Designs.{model_number}
use Rattle.blif_flat.specs.DesignFaults.{number_in as listed}
use Rattle.blif_flat.specs.Code.Numbering.{IsNumbering}
use Rattle.blif_flat.specs.Code.Calls.{has_name}
use Rattle.blif_flat.proofs.models.calls.call_def.Given as goal

abbrev pub invariant-loop-call : goal.invariant-loop-call
invariant-loop-call l = (models : List BlifModel) → IsNumbering has_name l.numbers.entries models
    → l.inputs ++ flat_map (λ c. listed (model_number models c.model)) (drop l.call-index l.model.calls) ≡ flat_map
    (λ c. listed (model_number models c.model)) l.model.calls
