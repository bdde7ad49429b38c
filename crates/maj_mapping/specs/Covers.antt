-- The gates of one definition: by the recipe of its truth number, or by its cubes.
use Rattle.std.specs.Prelude.{ℕ, ◌+◌, true, false, cond, eqb, List, [], ◌∷◌, length}
use Rattle.circuit.specs.declared.gate.Gate.{Gate}
use Rattle.maj_mapping.specs.declared.maker.Join.{Join}
use Rattle.maj_mapping.specs.declared.maker.Join.TheVariants.{And, Or}
use Rattle.blif_read.specs.declared.netlist.Cube.{Cube}
use Rattle.blif_read.specs.declared.netlist.Def.{Def}
use Rattle.maj_mapping.specs.Values.{cover}
use Rattle.case_tables.specs.Recipes.{Named, number, values2, values3}
use Rattle.case_tables.specs.Tables.{two_recipe, three_recipe}
use Rattle.maj_mapping.specs.Operations.{Made, MadeAll, keep, inv, and, or, run, halves}

-- one more gate before those of m
abbrev pub first : ℕ → MadeAll → MadeAll
first x m = record { gates = m.gates; ats = x ∷ m.ats }

-- the literals of a plane over the gates of the inputs, left to right
abbrev pub literals : ℕ → List Gate → List ℕ → List ℕ → MadeAll
literals n gs [] xs = record { gates = gs; ats = [] }
literals n gs (b ∷ bs) [] = record { gates = gs; ats = [] }
literals n gs (b ∷ bs) (x ∷ xs) =
    elim (eqb b 49) [
      | true ↦ first x (literals n gs bs xs)
      | false ↦
          elim (eqb b 48) [
            | true ↦ (let m = inv n gs x in first m.at (literals n m.gates bs xs))
            | false ↦
                literals n gs bs xs
          ]
    ]

-- an operation that joins two operands
abbrev pub join : Join → ℕ → List Gate → ℕ → ℕ → Made
join And = and
join Or = or

-- that constant: One for no operand of `and`, Zero for none of `or`
abbrev pub none : Join → ℕ → ℕ
none And n = n + 1
none Or n = n

-- a list of operands folded in halves
abbrev pub fold : Join → ℕ → List Gate → List ℕ → Made
fold which n gs xs = halves (join which n) (none which n) (length xs) gs xs

-- all operands joined by `and`
abbrev pub and_all : ℕ → List Gate → List ℕ → Made
and_all = fold And

-- or by `or`
abbrev pub or_all : ℕ → List Gate → List ℕ → Made
or_all = fold Or

-- a row of a cover: all literals of its plane
abbrev pub cube_made : ℕ → List Gate → List ℕ → List ℕ → Made
cube_made n gs xs plane = let m = literals n gs plane xs in and_all n m.gates m.ats

-- all cubes, in order
abbrev pub cubes_made : ℕ → List Gate → List ℕ → List Cube → MadeAll
cubes_made n gs xs [] = record { gates = gs; ats = [] }
cubes_made n gs xs (c ∷ cs) = let m = cube_made n gs xs c.plane in first m.at (cubes_made n m.gates xs cs)

-- a cover by its rows: one of them, or none where the rows say when it is false
abbrev pub by_cubes : ℕ → List Gate → List ℕ → Def → Made
by_cubes n gs xs d =
    let m = cubes_made n gs xs d.cubes in
    let o = or_all n m.gates m.ats in
    elim d.on [ true ↦ o | false ↦ inv n o.gates o.at ]

-- the gates of a recipe's inputs, and the two constants
abbrev pub names : ℕ → ℕ → ℕ → ℕ → Named ℕ
names n a b c = record { a = a; b = b; c = c; zero_is = n; one_is = n + 1 }

-- the gates of a definition over the gates of its inputs
unfoldable pub define : ℕ → List Gate → List ℕ → Def → Made
define n gs [] d = keep gs (cond (cover d []) (n + 1) n)
define n gs (x ∷ []) d = run n gs (names n x n n) (two_recipe (number (values2 (λ a b. cover d (a ∷ [])))))
define n gs (x ∷ y ∷ []) d = run n gs (names n x y n) (two_recipe (number (values2 (λ a b. cover d (a ∷ b ∷ [])))))
define n gs (x ∷ y ∷ z ∷ []) d =
    run n gs (names n x y z) (three_recipe (number (values3 (λ a b c. cover d (a ∷ b ∷ c ∷ [])))))
define n gs (x ∷ y ∷ z ∷ w ∷ xs) d = by_cubes n gs (x ∷ y ∷ z ∷ w ∷ xs) d
