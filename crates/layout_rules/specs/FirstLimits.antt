-- The limits by which the first chip is drawn.
use Rattle.layout_rules.specs.Limits.{Limits}

-- those of the library that comes with the program
abbrev pub first_limits : Limits
first_limits = record { wire = 1000; space = 1000; via = 600; enclose = 200; pin = 1000; limit = 180000 }
