-- What recipes, folds, cubes and definitions keep and give.
use Rattle.std.specs.Prelude.{◌≡◌, ℕ, ◌+◌, ◌<◌, ◌≤◌, Bool, List, [], ◌∷◌, ◌++◌, map, length}
use Rattle.std.proofs.Common.{refl, sym, ap, ◌∙◌, arith}
use Rattle.std.proofs.lemmas.List.{map-append}
use Rattle.std.proofs.Math.ListN.{get_or-map}
use Rattle.circuit.specs.declared.gate.Gate.{Gate}
use Rattle.circuit.specs.Gates.{Fits}
use Rattle.circuit.specs.PlainNets.{AreGates}
use Rattle.case_tables.specs.declared.recipe.Operand.{Operand}
use Rattle.case_tables.specs.declared.recipe.Operand.TheVariants as o
use Rattle.case_tables.specs.declared.recipe.Step.{Step}
use Rattle.case_tables.specs.declared.recipe.Step.TheVariants as steps
use Rattle.case_tables.specs.RecipeView.{RecipeView}
use Rattle.case_tables.specs.Recipes.{Named, operand_is, step_value, steps_values, truths, recipe_value}
use Rattle.maj_mapping.specs.Operations.{Made, MadeAll, step_made, steps_made, run}
use Rattle.maj_mapping.specs.Covers.{names}
use Rattle.maj_mapping.proofs.Right.{Right, past_constants, at_zero, at_one, and_is_right, or_is_right, maj_is_right}
use Rattle.maj_mapping.proofs.Right.{inv_is_right}
use Rattle.maj_mapping.specs.Counts.{AllBelow}
use Rattle.maj_mapping.proofs.Below.{below_more, below_append, below_at}

-- the same for several gates at once
pub record RightAll (n : ℕ) (gs : List Gate) (m : MadeAll) (cost : ℕ) (fs : (ℕ → Bool) → List Bool) : Type 0 where
  pub good : AreGates n m.gates
  pub inside : AllBelow (length m.gates) m.ats
  pub grown : length gs ≤ length m.gates
  pub few : length m.gates ≤ length gs + cost
  pub earlier : (word : List Bool) (v : ℕ → Bool) → Fits word v m.gates → Fits word v gs
  pub values : (word : List Bool) (v : ℕ → Bool) → Fits word v m.gates → map v m.ats ≡ fs v

-- recipes
abbrev pub values_of : (ℕ → Bool) → Named ℕ → Named Bool
values_of v k = record { a = v k.a; b = v k.b; c = v k.c; zero_is = v k.zero_is; one_is = v k.one_is }

pub record NamesBelow (k : ℕ) (named : Named ℕ) : Type 0 where
  pub a : named.a < k
  pub b : named.b < k
  pub c : named.c < k
  pub zero_is : named.zero_is < k
  pub one_is : named.one_is < k

operand_value : (v : ℕ → Bool) (named : Named ℕ) (done : List ℕ) (x : Operand)
    → v (operand_is named done x) ≡ operand_is (values_of v named) (map v done) x
operand_value v named done o.A = refl
operand_value v named done o.B = refl
operand_value v named done o.C = refl
operand_value v named done o.Zero = refl
operand_value v named done o.One = refl
operand_value v named done (o.Step k) = sym (get_or-map v done k named.zero_is)

pub operand_below : (k : ℕ) (named : Named ℕ) (done : List ℕ) → NamesBelow k named → AllBelow k done → (x : Operand)
    → operand_is named done x < k
operand_below k named done h below o.A = h.a
operand_below k named done h below o.B = h.b
operand_below k named done h below o.C = h.c
operand_below k named done h below o.Zero = h.zero_is
operand_below k named done h below o.One = h.one_is
operand_below k named done h below (o.Step j) = below_at k j named.zero_is done below h.zero_is

pub names_more : (k l : ℕ) (named : Named ℕ) → k ≤ l → NamesBelow k named → NamesBelow l named
names_more k l named le h = record {
  a = omega (arith, h.a);
  b = omega (arith, h.b);
  c = omega (arith, h.c);
  zero_is = omega (arith, h.zero_is);
  one_is = omega (arith, h.one_is);
}

-- a value by another formula
pub right_same : (n : ℕ) (gs : List Gate) (m : Made) (c : ℕ) (f g : (ℕ → Bool) → Bool) → Right n gs m c f
    → ((word : List Bool) (v : ℕ → Bool) → Fits word v m.gates → f v ≡ g v) → Right n gs m c g
right_same n gs m c f g r same = record {
  good = r.good;
  inside = r.inside;
  grown = r.grown;
  few = r.few;
  earlier = r.earlier;
  value = λ word v fits. r.value word v fits ∙ same word v fits;
}

pub step_is_right : (n : ℕ) (gs : List Gate) (named : Named ℕ) (done : List ℕ) → AreGates n gs
    → NamesBelow (length gs) named → AllBelow (length gs) done → (s : Step)
    → Right n gs (step_made n gs named done s) 1 (λ v. step_value (values_of v named) (map v done) s)
step_is_right n gs named done ok h below (steps.And x y) = right_same n gs _ 1 _ _
    (and_is_right n gs ok _ _ (operand_below _ named done h below x) (operand_below _ named done h below y))
    (λ word v fits. rw (operand_value v named done x, operand_value v named done y) refl)
step_is_right n gs named done ok h below (steps.Or x y) = right_same n gs _ 1 _ _
    (or_is_right n gs ok _ _ (operand_below _ named done h below x) (operand_below _ named done h below y))
    (λ word v fits. rw (operand_value v named done x, operand_value v named done y) refl)
step_is_right n gs named done ok h below (steps.Inv x) = right_same n gs _ 1 _ _
    (inv_is_right n gs ok _ (operand_below _ named done h below x))
    (λ word v fits. rw (operand_value v named done x) refl)
step_is_right n gs named done ok h below (steps.Maj x y z) = right_same n gs _ 1 _ _
    (maj_is_right n gs ok _ _ _ (operand_below _ named done h below x) (operand_below _ named done h below y)
    (operand_below _ named done h below z))
    (λ word v fits. rw (operand_value v named done x, operand_value v named done y, operand_value v named done z) refl)

steps_are_right : (n : ℕ) (gs : List Gate) (named : Named ℕ) (done : List ℕ) → AreGates n gs
    → NamesBelow (length gs) named → AllBelow (length gs) done → (ss : List Step)
    → RightAll n gs (steps_made n gs named done ss) (length ss) (λ v. steps_values (values_of v named) (map v done) ss)
steps_are_right n gs named done ok h below [] =
    record {
      good = ok;
      inside = below;
      grown = omega arith;
      few = omega arith;
      earlier = λ word v fits. fits;
      values = λ word v fits. refl;
    }
steps_are_right n gs named done ok h below (s ∷ ss) =
    let r = step_is_right n gs named done ok h below s in
    let m = step_made n gs named done s in
    let rest = steps_are_right n m.gates named (done ++ m.at ∷ []) r.good (names_more _ _ named r.grown h)
    (below_append _ done _ (below_more _ _ done r.grown below) (r.inside, tt)) ss in
    record {
      good = rest.good;
      inside = rest.inside;
      grown = omega arith;
      few = omega arith;
      earlier = λ word v fits. r.earlier word v (rest.earlier word v fits);
      values = λ word v fits. rest.values word v fits
          ∙ ap (λ (xs : List Bool). steps_values (values_of v named) xs ss) (map-append v done (m.at ∷ [])
          ∙ ap (λ (b : Bool). map v done ++ b ∷ []) (r.value word v (rest.earlier word v fits)));
    }

pub names_inside : (n : ℕ) (gs : List Gate) (x y z : ℕ) → AreGates n gs → x < length gs → y < length gs → z < length gs
    → NamesBelow (length gs) (names n x y z)
names_inside n gs x y z ok lx ly lz = let k =
    past_constants n gs ok in record { a = lx; b = ly; c = lz; zero_is = omega arith; one_is = omega arith }

pub run_is_right : (n : ℕ) (gs : List Gate) (x y z : ℕ) (r : RecipeView) → AreGates n gs → x < length gs
    → y < length gs → z < length gs
    → Right n gs (run n gs (names n x y z) r) (length r.steps) (λ v. recipe_value r (v x) (v y) (v z))
run_is_right n gs x y z r ok lx ly lz =
    let named = names_inside n gs x y z ok lx ly lz in
    let s = steps_are_right n gs (names n x y z) [] ok named tt r.steps in
    record {
      good = s.good;
      inside = operand_below _ _ _ (names_more _ _ _ s.grown named) s.inside r.out;
      grown = s.grown;
      few = s.few;
      earlier = s.earlier;
      value = λ word v fits.
          let m = steps_made n gs (names n x y z) [] r.steps in
          let is : values_of v (names n x y z) ≡ truths (v x) (v y) (v z) =
          rw (at_zero n gs ok word v (s.earlier word v fits), at_one n gs ok word v (s.earlier word v fits)) refl in
          operand_value v (names n x y z) m.ats r.out
          ∙ ap (λ (xs : List Bool). operand_is (values_of v (names n x y z)) xs r.out) (s.values word v fits)
          ∙ ap (λ (t : Named Bool). operand_is t (steps_values t [] r.steps) r.out) is;
    }
