use Rattle.std.proofs.Common.{◌≡◌, drop, not}
use Rattle.std.specs.List.{list_all}
use Rattle.blif_read.specs.Parts.{is_defined}
use Rattle.blif_flat.proofs.models.indexed.are_apart.Given as goal

abbrev pub invariant-loop-input : goal.invariant-loop-input
invariant-loop-input l = list_all (λ n. not (is_defined l.outputs n.name))
    (drop l.input-index l.inputs) ≡ list_all (λ n. not (is_defined l.outputs n.name)) l.inputs
