use Rattle.std.proofs.Common.{◌∙◌, sym, drop}
use Rattle.std.proofs.lemmas.Bool.{ltb-false}
use Rattle.std.proofs.lemmas.List.{drop_all}
use Rattle.blif_read.proofs.Evaluated.{matches_past}
use Rattle.blif_read.proofs.values.matches.Goals as goal

pub returns-in_default : goal.returns-in_default
returns-in_default c = sym (matches_past (drop c.loop-i.i c.args.plane.now) (drop c.loop-i.i c.args.signals.now) _
    (drop_all c.loop-i.i c.args.signals.now (ltb-false _ _ (sym c.in_default.ensures.lookup.0)))) ∙ c.loop-i.invariant
