-- How many gates a mapping makes at most.
use Rattle.std.specs.Prelude.{ℕ, ◌+◌, ◌*◌, ◌<◌, ◌||◌, Bool, cond, eqb, List, [], ◌∷◌, length}
use Rattle.std.specs.List.{AllByRecursion}
use Rattle.blif_read.specs.declared.netlist.Cube.{Cube}
use Rattle.blif_read.specs.declared.netlist.Def.{Def}

-- a byte of a plane that reads its input
abbrev pub is_literal : ℕ → Bool
is_literal b = eqb b 49 || eqb b 48

-- how many literals a plane has
abbrev pub literal_count : List ℕ → ℕ
literal_count [] = 0
literal_count (b ∷ bs) = cond (is_literal b) 1 0 + literal_count bs

-- how many literals the planes of cubes have
abbrev pub cube_literals : List Cube → ℕ
cube_literals [] = 0
cube_literals (c ∷ cs) = literal_count c.plane + cube_literals cs

-- a definition adds at most twice its literals, its rows, and ten
abbrev pub most_gates : Def → ℕ
most_gates d = 2 * cube_literals d.cubes + length d.cubes + 10

-- and all definitions together so many
abbrev pub most_of_all : List Def → ℕ
most_of_all [] = 0
most_of_all (d ∷ ds) = most_gates d + most_of_all ds

-- numbers that are all below a bound
abbrev pub AllBelow : ℕ → List ℕ → Type 0
AllBelow k xs = AllByRecursion (λ x. x < k) xs
