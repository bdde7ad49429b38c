use Rattle.blif_read.proofs.Whole.{few_keys, found, undefined_fails}
use Rattle.blif_read.proofs.read.parts.Goals as goal

pub resolve-requires : goal.resolve-requires
resolve-requires c = few_keys c.args.lines.now _ _ c.requires c.in_ok-fault.ensures
    c.in_default.is c.in_ok-names.ensures

pub returns-in-Ok-clause-found : goal.returns-in-Ok-clause-found
returns-in-Ok-clause-found c =
    found c.args.lines.now _ _ _ _ c.in_ok-fault.ensures c.in_default.is c.in_ok-names.ensures c.in-Ok.is
    c.in_ok-parts.ensures.sound c.in_ok-parts.ensures.defs c.in_ok-parts.ensures.outputs

pub returns-in-Err-clause-bad : goal.returns-in-Err-clause-bad
returns-in-Err-clause-bad c = undefined_fails c.args.lines.now _ _ _ _ c.in_ok-fault.ensures c.in_default.is
    c.in_ok-names.ensures c.in_ok-parts.ensures.bad c.in-Err.is
