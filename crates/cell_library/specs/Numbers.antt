-- The numbers of a library file.
use Rattle.std.specs.Prelude.{ℕ, List, [], ◌∷◌, codes}

-- the key of a number, and its greatest value; the least value is 1
pub record Number : Type 0 where
  pub key : List ℕ
  pub most : ℕ

-- all numbers, in the order in which they are looked at
abbrev pub numbers : List Number
numbers =
    record { key = codes "wire"; most = 1000000 }
    ∷ record { key = codes "space"; most = 1000000 }
    ∷ record { key = codes "via"; most = 1000000 }
    ∷ record { key = codes "enclose"; most = 1000000 }
    ∷ record { key = codes "pin"; most = 1000000 }
    ∷ record { key = codes "height"; most = 1000000 }
    ∷ record { key = codes "pitch"; most = 1000000 }
    ∷ record { key = codes "columns"; most = 1000 }
    ∷ record { key = codes "capacity"; most = 1000 }
    ∷ record { key = codes "limit"; most = 2147483647 }
    ∷ []
