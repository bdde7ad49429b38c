use Rattle.std.proofs.Common.{arith}
use Rattle.blif_flat.proofs.Calling.{last_at}
use Rattle.blif_flat.proofs.models.calls.last_of.Goals as goal

pub returns : goal.returns
returns c = last_at c.args.signals.now _ (let ne = c.if-signals-eq0.false in omega arith)
