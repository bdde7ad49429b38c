use Rattle.plan_draw.proofs.Worked.{and_slots, tied_slots, split_slots}
use Rattle.plan_draw.proofs.pack_laws.worked_packs.Goals as goal

pub returns : goal.returns
returns c = record { and_slots = and_slots; tied_slots = tied_slots; split_slots = split_slots }
