use Rattle.std.proofs.Common.{◌∙◌, sym}
use Rattle.std.specs.Str.{bytes_eq}
use Rattle.blif_read.proofs.Tokens.{any_seen}
use Rattle.blif_flat.proofs.faults.ports.is_among.Goals as goal

pub returns : goal.returns
returns c = c.contains.ensures ∙ sym (any_seen (bytes_eq c.args.name.now) c.args.formals.now.keys)
