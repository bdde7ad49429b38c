use Rattle.std.proofs.Common.{◌∙◌, ap}
use Rattle.blif_flat.specs.Code.Numbering.{number_in}
use Rattle.blif_flat.proofs.Calling.{number_at}
use Rattle.blif_flat.proofs.models.calls.called.Goals as goal

pub returns : goal.returns
returns c = λ models is. c.number_of.ensures ∙ ap (number_in c.args.numbers.now.entries) c.as_slice.ensures
    ∙ number_at models c.args.numbers.now.entries c.args.call.now.model is (λ e. c.if-len-eq0.false (c.len.ensures ∙ e))
