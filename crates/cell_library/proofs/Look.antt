-- What a look-up finds in the map of a table.
use Rattle.toml.proofs.Views.{table_get}

pub ruleset looks = table_get
