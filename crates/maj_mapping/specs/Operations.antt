-- The operations that make gates: inv, and, or, maj with their simplifications, a recipe, a fold in halves.
use Rattle.std.specs.Prelude.{ℕ, zero, suc, ◌+◌, ◌/◌, Bool, true, false, eqb, List, [], ◌∷◌, ◌++◌}
use Rattle.std.specs.Prelude.{length, take, drop, slice_get, Option, Some, None}
use Rattle.circuit.specs.declared.gate.Gate.{Gate}
use Rattle.circuit.specs.declared.gate.Gate.TheVariants.{Input, Zero, One, Buf, Inv, Maj}
use Rattle.maj_mapping.specs.declared.maker.Side.{Side}
use Rattle.maj_mapping.specs.declared.maker.Side.TheVariants.{IsZero, IsOne, Neither}
use Rattle.case_tables.specs.declared.recipe.Step.{Step}
use Rattle.case_tables.specs.declared.recipe.Step.TheVariants as steps
use Rattle.case_tables.specs.RecipeView.{RecipeView}
use Rattle.case_tables.specs.Recipes.{Named, operand_is}

-- the gates after an operation, and the gate that it gives
pub record Made : Type 0 where
  pub gates : List Gate
  pub at : ℕ

-- the same with a list of gates that it gives
pub record MadeAll : Type 0 where
  pub gates : List Gate
  pub ats : List ℕ

-- no gate is made, and one that is there is given
abbrev pub keep : List Gate → ℕ → Made
keep gs x = record { gates = gs; at = x }

-- one gate is made and given
abbrev pub make : List Gate → Gate → Made
make gs g = record { gates = gs ++ g ∷ []; at = length gs }

-- gate n is Zero, gate n + 1 is One, and the others are no constants
abbrev pub side : ℕ → ℕ → Side
side n x = elim (eqb x n) [ true ↦ IsZero | false ↦ elim (eqb x (n + 1)) [ true ↦ IsOne | false ↦ Neither ] ]

-- the gate inverts x
abbrev pub inverts : ℕ → Gate → Bool
inverts x (Inv y) = eqb x y
inverts x (Input i) = false
inverts x Zero = false
inverts x One = false
inverts x (Buf y) = false
inverts x (Maj y z w) = false

-- the first gate, from place i on, that inverts x
abbrev pub inverter_from : ℕ → ℕ → List Gate → Option ℕ
inverter_from x i [] = None
inverter_from x i (g ∷ gs) = elim (inverts x g) [ true ↦ Some i | false ↦ inverter_from x (suc i) gs ]

-- the gate that x inverts, if it is an inverter
abbrev pub inverted : Option Gate → Option ℕ
inverted (Some (Inv y)) = Some y
inverted (Some (Input i)) = None
inverted (Some Zero) = None
inverted (Some One) = None
inverted (Some (Buf y)) = None
inverted (Some (Maj y z w)) = None
inverted None = None

-- the inverter that is there, or a new one
abbrev pub inv_made : List Gate → ℕ → Option ℕ → Made
inv_made gs x (Some g) = keep gs g
inv_made gs x None = make gs (Inv x)

-- the gate that an inverter inverts, or else its inverter
abbrev pub inv_other : List Gate → ℕ → Option ℕ → Made
inv_other gs x (Some y) = keep gs y
inv_other gs x None = inv_made gs x (inverter_from x 0 gs)

-- the inverse of Zero is One, and that of One is Zero
abbrev pub inv_case : ℕ → List Gate → ℕ → Side → Made
inv_case n gs x IsZero = keep gs (n + 1)
inv_case n gs x IsOne = keep gs n
inv_case n gs x Neither = inv_other gs x (inverted (slice_get gs x))

-- the inverse of a gate
abbrev pub inv : ℕ → List Gate → ℕ → Made
inv n gs x = inv_case n gs x (side n x)

-- makes the gate where two operands differ
abbrev pub unless_same : List Gate → ℕ → Gate → Bool → Made
unless_same gs x g true = keep gs x
unless_same gs x g false = make gs g

-- `and` of two gates by their sides: Zero gives Zero, One gives the other, and else a majority with Zero
abbrev pub and_case : ℕ → List Gate → ℕ → ℕ → Side → Side → Made
and_case n gs x y IsZero s = keep gs n
and_case n gs x y IsOne IsZero = keep gs n
and_case n gs x y Neither IsZero = keep gs n
and_case n gs x y IsOne IsOne = keep gs y
and_case n gs x y IsOne Neither = keep gs y
and_case n gs x y Neither IsOne = keep gs x
and_case n gs x y Neither Neither = unless_same gs x (Maj x n y) (eqb x y)

-- the gate that is true where both are
abbrev pub and : ℕ → List Gate → ℕ → ℕ → Made
and n gs x y = and_case n gs x y (side n x) (side n y)

-- `or` of two gates by their sides: One gives One, Zero gives the other, and else a majority with One
abbrev pub or_case : ℕ → List Gate → ℕ → ℕ → Side → Side → Made
or_case n gs x y IsOne s = keep gs (n + 1)
or_case n gs x y IsZero IsOne = keep gs (n + 1)
or_case n gs x y Neither IsOne = keep gs (n + 1)
or_case n gs x y IsZero IsZero = keep gs y
or_case n gs x y IsZero Neither = keep gs y
or_case n gs x y Neither IsZero = keep gs x
or_case n gs x y Neither Neither = unless_same gs x (Maj x (n + 1) y) (eqb x y)

-- the gate that is true where one of the two is
abbrev pub or : ℕ → List Gate → ℕ → ℕ → Made
or n gs x y = or_case n gs x y (side n x) (side n y)

-- no two of the three are equal: two constants are the two different ones
abbrev pub maj_case : List Gate → ℕ → ℕ → ℕ → Side → Side → Side → Made
maj_case gs x y z Neither Neither s = make gs (Maj x y z)
maj_case gs x y z Neither IsZero Neither = make gs (Maj x y z)
maj_case gs x y z Neither IsOne Neither = make gs (Maj x y z)
maj_case gs x y z IsZero Neither Neither = make gs (Maj x y z)
maj_case gs x y z IsOne Neither Neither = make gs (Maj x y z)
maj_case gs x y z Neither IsZero IsZero = keep gs x
maj_case gs x y z Neither IsZero IsOne = keep gs x
maj_case gs x y z Neither IsOne IsZero = keep gs x
maj_case gs x y z Neither IsOne IsOne = keep gs x
maj_case gs x y z IsZero Neither IsZero = keep gs y
maj_case gs x y z IsZero Neither IsOne = keep gs y
maj_case gs x y z IsOne Neither IsZero = keep gs y
maj_case gs x y z IsOne Neither IsOne = keep gs y
maj_case gs x y z IsZero IsZero s = keep gs z
maj_case gs x y z IsZero IsOne s = keep gs z
maj_case gs x y z IsOne IsZero s = keep gs z
maj_case gs x y z IsOne IsOne s = keep gs z

-- where two of the three are equal it is one of them; the tests are of x and y, of x and z, of y and z
abbrev pub maj_same : ℕ → List Gate → ℕ → ℕ → ℕ → Bool → Bool → Bool → Made
maj_same n gs x y z true q r = keep gs x
maj_same n gs x y z false true r = keep gs x
maj_same n gs x y z false false true = keep gs y
maj_same n gs x y z false false false = maj_case gs x y z (side n x) (side n y) (side n z)

-- the gate with the value that at least two of the three have
abbrev pub maj : ℕ → List Gate → ℕ → ℕ → ℕ → Made
maj n gs x y z = maj_same n gs x y z (eqb x y) (eqb x z) (eqb y z)

-- a step of a recipe, where names stand for gates
abbrev pub step_made : ℕ → List Gate → Named ℕ → List ℕ → Step → Made
step_made n gs named done (steps.And x y) = and n gs (operand_is named done x) (operand_is named done y)
step_made n gs named done (steps.Or x y) = or n gs (operand_is named done x) (operand_is named done y)
step_made n gs named done (steps.Inv x) = inv n gs (operand_is named done x)
step_made n gs named done (steps.Maj x y z) =
    maj n gs (operand_is named done x) (operand_is named done y) (operand_is named done z)

-- the steps of a recipe in order, each over those that are done
abbrev pub steps_made : ℕ → List Gate → Named ℕ → List ℕ → List Step → MadeAll
steps_made n gs named done [] = record { gates = gs; ats = done }
steps_made n gs named done (s ∷ ss) =
    let m = step_made n gs named done s in steps_made n m.gates named (done ++ m.at ∷ []) ss

-- a recipe: its steps, and then the gate of its result
abbrev pub run : ℕ → List Gate → Named ℕ → RecipeView → Made
run n gs named r = let m = steps_made n gs named [] r.steps in keep m.gates (operand_is named m.ats r.out)

-- the operation on the fold of the first half, rounded up, and the fold of the rest; `none` for no operand.
-- k bounds how often the list is halved: its length is enough
abbrev pub halves : (List Gate → ℕ → ℕ → Made) → ℕ → ℕ → List Gate → List ℕ → Made
halves op none k gs [] = keep gs none
halves op none k gs (x ∷ []) = keep gs x
halves op none zero gs (x ∷ y ∷ xs) = keep gs none
halves op none (suc k) gs (x ∷ y ∷ xs) =
    let l = halves op none k gs (take ((length (x ∷ y ∷ xs) + 1) / 2) (x ∷ y ∷ xs)) in
    let r = halves op none k l.gates (drop ((length (x ∷ y ∷ xs) + 1) / 2) (x ∷ y ∷ xs)) in
    op r.gates l.at r.at
