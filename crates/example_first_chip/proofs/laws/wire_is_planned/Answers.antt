use Rattle.example_first_chip.proofs.Planned.{gates_made, rows_made, places_made, repeaters_made, chip_made, kept_within}
use Rattle.example_first_chip.proofs.laws.wire_is_planned.Goals as goal

pub returns : goal.returns
returns c = record {
  gates = gates_made;
  rows = rows_made;
  places = places_made;
  repeaters = repeaters_made;
  chip = chip_made;
  within = kept_within;
}
