-- Three wires whose tracks are worked by hand.
use Rattle.std.specs.Prelude.{List, [], ◌∷◌}
use Rattle.rowed.specs.declared.wire.Wire.{Wire}

-- slots of four columns
abbrev pub three : List Wire
three = record { from_slot = 0; to_slot = 2; from_column = 2; to_column = 9 }
    ∷ record { from_slot = 1; to_slot = 1; from_column = 6; to_column = 5 }
    ∷ record { from_slot = 2; to_slot = 0; from_column = 10; to_column = 1 }
    ∷ []
