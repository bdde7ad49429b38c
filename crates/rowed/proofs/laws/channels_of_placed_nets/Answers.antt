use Rattle.rowed.proofs.NeighbourLaws.{next_channel, next_fits}
use Rattle.rowed.proofs.laws.channels_of_placed_nets.Goals as goal

pub returns : goal.returns
returns c = record {
  channel = λ p k known lt. next_channel p known k lt;
  few = λ p k known lt. next_fits p known k lt;
}
