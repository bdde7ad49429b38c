use Rattle.channel_route.proofs.PlacedChannels.{placed_apart, placed_room, sorted_apart}
use Rattle.channel_route.proofs.laws.placed_channels.Goals as goal

pub returns : goal.returns
returns c = record {
  apart = λ p k columns ws known lt go pinned. placed_apart p known k lt columns ws go pinned;
  sorted = λ key ws apart. sorted_apart key ws apart;
  room = λ p k columns reach capacity ws known lt go pinned short some half.
      placed_room p known k lt columns ws go pinned reach capacity short some half;
}
