use Rattle.std.proofs.Common.{◌∙◌, ap}
use Rattle.std.specs.Str.{bytes_eq}
use Rattle.blif_flat.specs.Code.Numbering.{number_in, number_or}
use Rattle.blif_flat.proofs.Calling.{model_at}
use Rattle.blif_flat.proofs.models.calls.model_numbers.Goals as goal

pub loop-number-preserved : goal.loop-number-preserved
loop-number-preserved c =
    model_at c.args.models.now c.loop-number.number c.index-models-number.result c.loop-number.numbers.entries
    c.add.new.numbers.entries c.narrow.result c.loop-number-test.true c.index-models-number.is
    c.narrow.ensures c.loop-number.invariant
    (λ t. c.in_ok-add.ensures t
    ∙ ap (λ n. number_or (number_in c.loop-number.numbers.entries t)
    (bytes_eq n t) c.narrow.result) c.as_slice.ensures)
