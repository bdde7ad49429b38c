use Rattle.std.proofs.Common.{length}
use Rattle.mig_replace.proofs.Carrying.{if_other}
use Rattle.mig_replace.proofs.growing.grown_literal.Goals as goal

pub returns-in-Some-clause-shown : goal.returns-in-Some-clause-shown
returns-in-Some-clause-shown g c =
    if_other c.other_form.result c.args.graph.now c.plain.new.builder c.other_form.new.builder
    (length c.args.found.now) c.in_ok-literal.literal c.other_form.ensures.grown c.in_ok-literal.ensures.shown
    c.other_form.ensures.same
