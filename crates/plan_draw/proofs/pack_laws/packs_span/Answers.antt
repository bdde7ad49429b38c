use Rattle.plan_draw.proofs.Seats.{span_is, greatest_is}
use Rattle.plan_draw.proofs.pack_laws.packs_span.Goals as goal

pub returns : goal.returns
returns c = record { span = span_is; greatest = greatest_is }
