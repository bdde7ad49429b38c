-- A sink as a run finds it.
use Rattle.std.specs.Prelude.{[]}
use Rattle.aq_base.specs.Output.{Output}

-- it has taken nothing, and refused nothing
abbrev pub quiet : Output
quiet = record { history = [] }
