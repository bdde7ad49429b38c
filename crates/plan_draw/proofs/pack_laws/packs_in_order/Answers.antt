use Rattle.plan_draw.proofs.Seats.{count_is, sum_is, behind_is, apart_is}
use Rattle.plan_draw.proofs.pack_laws.packs_in_order.Goals as goal

pub returns : goal.returns
returns c = record { count = count_is; sum = sum_is; behind = behind_is; apart = apart_is }
