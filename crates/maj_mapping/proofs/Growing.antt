-- No operation takes a gate away, so a part of a plan has at most as many gates as the whole.
use Rattle.std.specs.Prelude.{ℕ, zero, suc, ◌+◌, ◌/◌, ◌≤◌, Bool, true, false, eqb, List, [], ◌∷◌, ◌++◌, map, length}
use Rattle.std.specs.Prelude.{take, drop, slice_get, Option, Some, None}
use Rattle.std.specs.List.{fold}
use Rattle.std.proofs.Common.{arith, length-append}
use Rattle.circuit.specs.declared.gate.Gate.{Gate}
use Rattle.circuit.specs.declared.gate.Gate.TheVariants.{Inv, Maj}
use Rattle.case_tables.specs.declared.recipe.Step.{Step}
use Rattle.case_tables.specs.declared.recipe.Step.TheVariants as steps
use Rattle.case_tables.specs.Recipes.{Named, operand_is, number, values2, values3}
use Rattle.case_tables.specs.Tables.{two_recipe, three_recipe}
use Rattle.blif_read.specs.declared.netlist.Cube.{Cube}
use Rattle.blif_read.specs.declared.netlist.Def.{Def}
use Rattle.blif_read.specs.Parts.{NetView}
use Rattle.maj_mapping.specs.declared.maker.Side.{Side}
use Rattle.maj_mapping.specs.declared.maker.Side.TheVariants.{IsZero, IsOne, Neither}
use Rattle.maj_mapping.specs.declared.maker.Join.{Join}
use Rattle.maj_mapping.specs.declared.maker.Join.TheVariants.{And, Or}
use Rattle.maj_mapping.specs.Operations.{Made, MadeAll, make, side, inverter_from, inverted, inv_made, inv_other}
use Rattle.maj_mapping.specs.Operations.{inv_case, inv, unless_same, and_case, or_case, maj_case, maj_same, maj}
use Rattle.maj_mapping.specs.Operations.{step_made, steps_made, halves}
use Rattle.maj_mapping.specs.Values.{cover}
use Rattle.maj_mapping.specs.Covers as covers
use Rattle.maj_mapping.specs.Covers.{first, literals, join, none, names, cube_made, cubes_made, by_cubes, define}
use Rattle.maj_mapping.specs.Plan.{Mapping, gate_at, gate_or, def_of, inputs_by, leave_by, leave, visit}

-- one gate more
make_grows : (gs : List Gate) (g : Gate) → length gs ≤ length (make gs g).gates
make_grows gs g = simp length-append (omega arith)

inv_made_grows : (gs : List Gate) (x : ℕ) (o : Option ℕ) → length gs ≤ length (inv_made gs x o).gates
inv_made_grows gs x (Some g) = omega arith
inv_made_grows gs x None = make_grows gs (Inv x)

inv_other_grows : (gs : List Gate) (x : ℕ) (o : Option ℕ) → length gs ≤ length (inv_other gs x o).gates
inv_other_grows gs x (Some y) = omega arith
inv_other_grows gs x None = inv_made_grows gs x (inverter_from x 0 gs)

inv_case_grows : (n : ℕ) (gs : List Gate) (x : ℕ) (s : Side) → length gs ≤ length (inv_case n gs x s).gates
inv_case_grows n gs x IsZero = omega arith
inv_case_grows n gs x IsOne = omega arith
inv_case_grows n gs x Neither = inv_other_grows gs x (inverted (slice_get gs x))

pub inv_grows : (n : ℕ) (gs : List Gate) (x : ℕ) → length gs ≤ length (inv n gs x).gates
inv_grows n gs x = inv_case_grows n gs x (side n x)

unless_same_grows : (gs : List Gate) (x : ℕ) (g : Gate) (b : Bool) → length gs ≤ length (unless_same gs x g b).gates
unless_same_grows gs x g true = omega arith
unless_same_grows gs x g false = make_grows gs g

and_case_grows : (n : ℕ) (gs : List Gate) (x y : ℕ) (s t : Side) → length gs ≤ length (and_case n gs x y s t).gates
and_case_grows n gs x y IsZero t = omega arith
and_case_grows n gs x y IsOne IsZero = omega arith
and_case_grows n gs x y IsOne IsOne = omega arith
and_case_grows n gs x y IsOne Neither = omega arith
and_case_grows n gs x y Neither IsZero = omega arith
and_case_grows n gs x y Neither IsOne = omega arith
and_case_grows n gs x y Neither Neither = unless_same_grows gs x (Maj x n y) (eqb x y)

or_case_grows : (n : ℕ) (gs : List Gate) (x y : ℕ) (s t : Side) → length gs ≤ length (or_case n gs x y s t).gates
or_case_grows n gs x y IsOne t = omega arith
or_case_grows n gs x y IsZero IsZero = omega arith
or_case_grows n gs x y IsZero IsOne = omega arith
or_case_grows n gs x y IsZero Neither = omega arith
or_case_grows n gs x y Neither IsZero = omega arith
or_case_grows n gs x y Neither IsOne = omega arith
or_case_grows n gs x y Neither Neither = unless_same_grows gs x (Maj x (n + 1) y) (eqb x y)

pub join_grows : (which : Join) (n : ℕ) (gs : List Gate) (x y : ℕ) → length gs ≤ length (join which n gs x y).gates
join_grows And n gs x y = and_case_grows n gs x y (side n x) (side n y)
join_grows Or n gs x y = or_case_grows n gs x y (side n x) (side n y)

maj_case_grows : (gs : List Gate) (x y z : ℕ) (s t r : Side) → length gs ≤ length (maj_case gs x y z s t r).gates
maj_case_grows gs x y z Neither Neither r = make_grows gs (Maj x y z)
maj_case_grows gs x y z Neither IsZero Neither = make_grows gs (Maj x y z)
maj_case_grows gs x y z Neither IsOne Neither = make_grows gs (Maj x y z)
maj_case_grows gs x y z IsZero Neither Neither = make_grows gs (Maj x y z)
maj_case_grows gs x y z IsOne Neither Neither = make_grows gs (Maj x y z)
maj_case_grows gs x y z Neither IsZero IsZero = omega arith
maj_case_grows gs x y z Neither IsZero IsOne = omega arith
maj_case_grows gs x y z Neither IsOne IsZero = omega arith
maj_case_grows gs x y z Neither IsOne IsOne = omega arith
maj_case_grows gs x y z IsZero Neither IsZero = omega arith
maj_case_grows gs x y z IsZero Neither IsOne = omega arith
maj_case_grows gs x y z IsOne Neither IsZero = omega arith
maj_case_grows gs x y z IsOne Neither IsOne = omega arith
maj_case_grows gs x y z IsZero IsZero r = omega arith
maj_case_grows gs x y z IsZero IsOne r = omega arith
maj_case_grows gs x y z IsOne IsZero r = omega arith
maj_case_grows gs x y z IsOne IsOne r = omega arith

maj_same_grows : (n : ℕ) (gs : List Gate) (x y z : ℕ) (p q r : Bool)
    → length gs ≤ length (maj_same n gs x y z p q r).gates
maj_same_grows n gs x y z true q r = omega arith
maj_same_grows n gs x y z false true r = omega arith
maj_same_grows n gs x y z false false true = omega arith
maj_same_grows n gs x y z false false false = maj_case_grows gs x y z (side n x) (side n y) (side n z)

maj_grows : (n : ℕ) (gs : List Gate) (x y z : ℕ) → length gs ≤ length (maj n gs x y z).gates
maj_grows n gs x y z = maj_same_grows n gs x y z (eqb x y) (eqb x z) (eqb y z)

-- recipes
step_grows : (n : ℕ) (gs : List Gate) (named : Named ℕ) (done : List ℕ) (step : Step)
    → length gs ≤ length (step_made n gs named done step).gates
step_grows n gs named done (steps.And x y) = join_grows And n gs (operand_is named done x) (operand_is named done y)
step_grows n gs named done (steps.Or x y) = join_grows Or n gs (operand_is named done x) (operand_is named done y)
step_grows n gs named done (steps.Inv x) = inv_grows n gs (operand_is named done x)
step_grows n gs named done (steps.Maj x y z) = maj_grows n gs (operand_is named done x) (operand_is named done y)
    (operand_is named done z)

pub steps_grow : (n : ℕ) (gs : List Gate) (named : Named ℕ) (done : List ℕ) (ss : List Step)
    → length gs ≤ length (steps_made n gs named done ss).gates
steps_grow n gs named done [] = omega arith
steps_grow n gs named done (s ∷ ss) =
    let m = step_made n gs named done s in
    omega (arith, step_grows n gs named done s, steps_grow n m.gates named (done ++ m.at ∷ []) ss)

-- folds in halves
halves_grow : (op : List Gate → ℕ → ℕ → Made) → ((gs : List Gate) (x y : ℕ) → length gs ≤ length (op gs x y).gates)
    → (e k : ℕ) (gs : List Gate) (xs : List ℕ) → length gs ≤ length (halves op e k gs xs).gates
halves_grow op grows e k gs [] = omega arith
halves_grow op grows e k gs (x ∷ []) = omega arith
halves_grow op grows e zero gs (x ∷ y ∷ xs) = omega arith
halves_grow op grows e (suc k) gs (x ∷ y ∷ xs) =
    let half : ℕ = (length (x ∷ y ∷ xs) + 1) / 2 in
    let l = halves op e k gs (take half (x ∷ y ∷ xs)) in
    let r = halves op e k l.gates (drop half (x ∷ y ∷ xs)) in
    omega (
      arith,
      halves_grow op grows e k gs (take half (x ∷ y ∷ xs)),
      halves_grow op grows e k l.gates
          (drop half (x ∷ y ∷ xs)),
      grows r.gates l.at r.at,
    )

pub fold_grows : (which : Join) (n : ℕ) (gs : List Gate) (xs : List ℕ)
    → length gs ≤ length (covers.fold which n gs xs).gates
fold_grows which n gs xs = halves_grow (join which n) (join_grows which n) (none which n) (length xs) gs xs

-- cubes
pub literals_grow : (n : ℕ) (gs : List Gate) (bs xs : List ℕ) → length gs ≤ length (literals n gs bs xs).gates
literals_grow n gs [] xs = omega arith
literals_grow n gs (b ∷ bs) [] = omega arith
literals_grow n gs (b ∷ bs) (x ∷ xs) =
    go (eqb b 49) (eqb b 48) (literals_grow n gs bs xs)
    (let i = inv_grows n gs x in let r = literals_grow n (inv n gs x).gates bs xs in omega arith)
  where
    go : (p q : Bool) → length gs ≤ length (literals n gs bs xs).gates
        → length gs ≤ length (literals n (inv n gs x).gates bs xs).gates
        → length gs ≤ length (elim p as (λ (t : Bool). MadeAll) [
          | true ↦ first x
              (literals n gs bs xs)
          | false ↦ elim q as (λ (t : Bool). MadeAll) [
            | true ↦ first (inv n gs x).at
                (literals n (inv n gs x).gates bs xs)
            | false ↦ literals n gs bs xs
          ]
        ]).gates
    go true q same more = same
    go false true same more = more
    go false false same more = same

pub cube_grows : (n : ℕ) (gs : List Gate) (xs plane : List ℕ) → length gs ≤ length (cube_made n gs xs plane).gates
cube_grows n gs xs plane =
    let m = literals n gs plane xs in
    omega (arith, literals_grow n gs plane xs, fold_grows And n m.gates m.ats)

pub cubes_grow : (n : ℕ) (gs : List Gate) (xs : List ℕ) (cs : List Cube)
    → length gs ≤ length (cubes_made n gs xs cs).gates
cubes_grow n gs xs [] = omega arith
cubes_grow n gs xs (c ∷ cs) =
    let m = cube_made n gs xs c.plane in
    omega (arith, cube_grows n gs xs c.plane, cubes_grow n m.gates xs cs)

-- the `or` of the cubes has at most the gates of the whole definition
pub any_within : (n : ℕ) (gs : List Gate) (xs : List ℕ) (d : Def)
    → length (covers.fold Or n (cubes_made n gs xs d.cubes).gates (cubes_made n gs xs d.cubes).ats).gates ≤ length
    (by_cubes n gs xs d).gates
any_within n gs xs d = go d.on
  where
    go : (on : Bool) → (let o = covers.fold Or n (cubes_made n gs xs d.cubes).gates (cubes_made n gs xs d.cubes).ats in
        length o.gates ≤ length (elim on as (λ (t : Bool). Made) [ true ↦ o | false ↦ inv n o.gates o.at ]).gates)
    go true = omega arith
    go false = inv_grows n _ _

by_cubes_grow : (n : ℕ) (gs : List Gate) (xs : List ℕ) (d : Def) → length gs ≤ length (by_cubes n gs xs d).gates
by_cubes_grow n gs xs d =
    let m = cubes_made n gs xs d.cubes in
    omega (arith, cubes_grow n gs xs d.cubes, fold_grows Or n m.gates m.ats, any_within n gs xs d)

-- definitions and walks
define_grows : (n : ℕ) (gs : List Gate) (xs : List ℕ) (d : Def) → length gs ≤ length (define n gs xs d).gates
unfolding define
define_grows n gs [] d = omega arith
define_grows n gs (x ∷ []) d = steps_grow n gs (names n x n n) []
    (two_recipe (number (values2 (λ a b. cover d (a ∷ []))))).steps
define_grows n gs (x ∷ y ∷ []) d = steps_grow n gs (names n x y n) []
    (two_recipe (number (values2 (λ a b. cover d (a ∷ b ∷ []))))).steps
define_grows n gs (x ∷ y ∷ z ∷ []) d = steps_grow n gs (names n x y z) []
    (three_recipe (number (values3 (λ a b c. cover d (a ∷ b ∷ c ∷ []))))).steps
define_grows n gs (x ∷ y ∷ z ∷ w ∷ xs) d = by_cubes_grow n gs (x ∷ y ∷ z ∷ w ∷ xs) d

leave_by_grows : (net : NetView) (m : Mapping) (s : ℕ) (o : Option Def)
    → length m.gates ≤ length (leave_by net m s o).gates
unfolding leave_by
leave_by_grows net m s None = omega arith
leave_by_grows net m s (Some d) = define_grows net.inputs m.gates (map (gate_or m.gate_of) d.inputs) d

pub leave_grows : (net : NetView) (m : Mapping) (s : ℕ) → length m.gates ≤ length (leave net m s).gates
leave_grows net m s = leave_by_grows net m s (def_of net s)

pub walks_grow : (walk : Mapping → ℕ → Mapping) → ((m : Mapping) (s : ℕ) → length m.gates ≤ length (walk m s).gates)
    → (m : Mapping) (ss : List ℕ) → length m.gates ≤ length (fold walk m ss).gates
walks_grow walk grows m [] = omega arith
walks_grow walk grows m (s ∷ ss) = omega (arith, grows m s, walks_grow walk grows (walk m s) ss)

pub visit_grows : (net : NetView) (k : ℕ) (m : Mapping) (s : ℕ) → length m.gates ≤ length (visit net k m s).gates
unfolding visit
visit_grows net zero m s = omega arith
visit_grows net (suc k) m s = go (gate_at m.gate_of s)
    (walks_grow (visit net k) (visit_grows net k) m (inputs_by (def_of net s)))
  where
    go : (o : Option ℕ) → length m.gates ≤ length (fold (visit net k) m (inputs_by (def_of net s))).gates
        → length m.gates ≤ length
        (elim o as (λ (t : Option ℕ). Mapping) [
          | Some g ↦ m
          | None ↦ leave net
              (fold (visit net k) m (inputs_by (def_of net s))) s
        ]).gates
    go (Some g) all = omega arith
    go None all = omega (arith, leave_grows net (fold (visit net k) m (inputs_by (def_of net s))) s)

-- parts of cubes
pub literals_within : (n : ℕ) (gs : List Gate) (xs plane : List ℕ)
    → length (literals n gs plane xs).gates ≤ length (cube_made n gs xs plane).gates
literals_within n gs xs plane = fold_grows And n (literals n gs plane xs).gates (literals n gs plane xs).ats

pub cubes_within : (n : ℕ) (gs : List Gate) (xs : List ℕ) (d : Def)
    → length (cubes_made n gs xs d.cubes).gates ≤ length (by_cubes n gs xs d).gates
cubes_within n gs xs d =
    let m = cubes_made n gs xs d.cubes in
    omega (arith, fold_grows Or n m.gates m.ats, any_within n gs xs d)
