-- The value of a cover as a function of the values of its definition's inputs, place by place.
use Rattle.std.specs.Prelude.{◌≡◌, ℕ, ◌&&◌, ◌||◌, Bool, true, false, not, cond, List, [], ◌∷◌}
use Rattle.std.specs.List.{AllByRecursion, list_all}
use Rattle.blif_read.specs.Faults.{is_plane_byte}
use Rattle.blif_read.specs.Equations.{takes}
use Rattle.blif_read.specs.declared.netlist.Cube.{Cube}
use Rattle.blif_read.specs.declared.netlist.Def.{Def}

-- the plane takes these values
abbrev pub takes_all : List ℕ → List Bool → Bool
takes_all [] xs = true
takes_all (b ∷ bs) [] = true
takes_all (b ∷ bs) (x ∷ xs) = takes b x && takes_all bs xs

-- some plane takes these values
abbrev pub some_takes : List Cube → List Bool → Bool
some_takes [] xs = false
some_takes (c ∷ cs) xs = takes_all c.plane xs || some_takes cs xs

-- the value of a cover on these values
abbrev pub cover : Def → List Bool → Bool
cover d xs = cond d.on (some_takes d.cubes xs) (not (some_takes d.cubes xs))

-- every plane has bytes `0`, `1` and `-` alone
abbrev pub HasPlanes : List Cube → Type 0
HasPlanes cubes = AllByRecursion (λ cube. list_all is_plane_byte cube.plane ≡ true) cubes
