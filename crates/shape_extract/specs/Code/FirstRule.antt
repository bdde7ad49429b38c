-- The rules of circuits in turn: the first that is broken.
use Rattle.std.specs.Prelude.{Option, Some, None}
use Rattle.geom.specs.declared.shapes.Flat.{Flat}
use Rattle.shape_extract.specs.declared.rules.first_broken.BrokenRule.{BrokenRule}
use Rattle.shape_extract.specs.Extracts.{BreaksCircuit, KeepsFive}

-- the first broken rule of circuits, or none where all are kept
abbrev pub FindsRule : Flat → Option BrokenRule → Type 0
FindsRule flat None = KeepsFive flat
FindsRule flat (Some found) = BreaksCircuit flat found.rule found.first found.second
