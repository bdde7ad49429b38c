-- The ways of figures and the quarters of placements, as a reader has them.
use Rattle.std.specs.Prelude.{ℕ, Option, Some, None}
use Rattle.gds_records.specs.WideValues as values
use Rattle.gds_read.specs.declared.ways.Way.{Way}
use Rattle.gds_read.specs.declared.ways.Way.TheVariants.{Right, Left, Up, Down, Still, Slanted}

-- the way from one point of a figure to the next, in the word that the values of streams have for it
abbrev pub way_of : Way → values.Way
way_of Right = values.Right
way_of Left = values.Left
way_of Up = values.Up
way_of Down = values.Down
way_of Still = values.Still
way_of Slanted = values.Slanted

-- a number of quarters, and 0 for none
abbrev pub quarters_or_none : Option ℕ → ℕ
quarters_or_none o = elim o [ Some n ↦ n | None ↦ 0 ]
