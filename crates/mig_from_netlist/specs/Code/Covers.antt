-- Covers as functions of the values of their inputs.
use Rattle.std.specs.Prelude.{◌≡◌, ℕ, suc, ◌≤◌, ◌&&◌, ◌||◌, Bool, true, false, not, cond, List, [], ◌∷◌, length}
use Rattle.std.specs.List.{AllByRecursion}
use Rattle.blif_read.specs.Equations.{takes}
use Rattle.blif_read.specs.declared.netlist.Cube.{Cube}
use Rattle.blif_read.specs.declared.netlist.Def.{Def}
use Rattle.truth_tables.specs.Tables.{holds}

-- the plane takes these values
abbrev pub takes_all : List ℕ → List Bool → Bool
takes_all [] xs = true
takes_all (b ∷ bs) [] = true
takes_all (b ∷ bs) (x ∷ xs) = takes b x && takes_all bs xs

-- some plane takes these values
abbrev pub some_takes : List Cube → List Bool → Bool
some_takes [] xs = false
some_takes (c ∷ cs) xs = takes_all c.plane xs || some_takes cs xs

-- the value of a cover on these values
abbrev pub cover : Def → List Bool → Bool
cover d xs = cond d.on (some_takes d.cubes xs) (not (some_takes d.cubes xs))

-- the plane, whose first byte is for bit j, takes the bits of i
abbrev pub plane_at : List ℕ → ℕ → ℕ → Bool
plane_at [] j i = true
plane_at (b ∷ bs) j i = takes b (holds i j) && plane_at bs (suc j) i

-- some plane takes the bits of i
abbrev pub some_at : List Cube → ℕ → Bool
some_at [] i = false
some_at (c ∷ cs) i = plane_at c.plane 0 i || some_at cs i

-- the value of a cover on the bits of i
abbrev pub cover_at : Def → ℕ → Bool
cover_at d i = cond d.on (some_at d.cubes i) (not (some_at d.cubes i))

-- the planes are for six inputs at most
abbrev pub AreNarrow : List Cube → Type 0
AreNarrow cubes = AllByRecursion (λ cube. length cube.plane ≤ 6) cubes

-- each plane is for so many inputs
abbrev pub HavePlanes : ℕ → List Cube → Type 0
HavePlanes n cubes = AllByRecursion (λ cube. length cube.plane ≡ n) cubes
