use Rattle.std.proofs.Common.{◌∙◌, ap}
use Rattle.blif_read.specs.Code.Seen.{texts}
use Rattle.blif_read.proofs.Tokens.{inserted_seen}
use Rattle.blif_read.proofs.names.add.Goals as goal

pub returns-clause-keys : goal.returns-clause-keys
returns-clause-keys c = ap texts c.in_ok-new.ensures.keys ∙ inserted_seen _ c.args.name
