-- Lists of values that are joined, and the literals of a plane.
use Rattle.std.specs.Prelude.{◌≡◌, ℕ, ◌&&◌, ◌||◌, Bool, true, false, cond, eqb, List, [], ◌∷◌, map}
use Rattle.blif_read.specs.declared.netlist.Cube.{Cube}
use Rattle.mig.specs.Graphs.{turned}
use Rattle.mig.specs.Graphs.{literal_value, Fits}
use Rattle.mig.specs.Building.{BuilderView, AllThere}
use Rattle.mig_from_netlist.specs.declared.fold.Join.{Join}
use Rattle.mig_from_netlist.specs.declared.fold.Join.TheVariants.{And, Or}
use Rattle.mig_from_netlist.specs.Code.Covers.{some_takes}

-- two values
abbrev pub join : Join → Bool → Bool → Bool
join And a b = a && b
join Or a b = a || b

-- the value of no values
abbrev pub none : Join → Bool
none And = true
none Or = false

-- a list of values
abbrev pub joined : Join → List Bool → Bool
joined which [] = none which
joined which (x ∷ xs) = join which x (joined which xs)

-- the literals of a byte of a plane: none for `-`, the input's for `1`, its complement for `0`
abbrev pub literals_of : ℕ → ℕ → List ℕ
literals_of b x = cond (eqb b 45) [] (cond (eqb b 49) (x ∷ []) (cond (eqb b 48) (turned x ∷ []) (0 ∷ [])))

-- one of the literals is true where some plane takes the values of the inputs
pub record AreCubes (b : BuilderView) (literals : List ℕ) (cubes : List Cube) (inputs : List ℕ) : Type 0 where
  pub there : AllThere b literals
  pub value : (word : List Bool) (v : ℕ → Bool) → Fits b.inputs b.nodes word v
      → joined Or (map (literal_value v) literals) ≡ some_takes cubes (map (literal_value v) inputs)
