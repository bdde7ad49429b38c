-- What the gates of a definition keep and give, and how many they are.
use Rattle.std.specs.Prelude.{◌≡◌, ℕ, ◌+◌, ◌≤◌, Bool, true, false, cond, List, [], ◌∷◌, map, length}
use Rattle.std.proofs.Common.{refl, sym, ap, ◌∙◌, arith}
use Rattle.std.proofs.lemmas.Option.{slice_get_within}
use Rattle.circuit.specs.declared.gate.Gate.{Gate}
use Rattle.circuit.specs.declared.gate.Gate.TheVariants.{Zero}
use Rattle.blif_read.specs.declared.netlist.Def.{Def}
use Rattle.circuit.specs.PlainNets.{AreGates}
use Rattle.maj_mapping.specs.Values.{cover, HasPlanes}
use Rattle.case_tables.specs.Recipes.{number, values2, values3, recipe_value}
use Rattle.case_tables.specs.Tables.{two_recipe, three_recipe}
use Rattle.case_tables.proofs.EntryLaws.{two_entry, three_entry}
use Rattle.case_tables.proofs.TruthLaws.{two_value, three_value, below_16, below_256}
use Rattle.maj_mapping.specs.Operations.{Made, keep}
use Rattle.maj_mapping.specs.Covers.{define}
use Rattle.maj_mapping.specs.Counts.{most_gates}
use Rattle.maj_mapping.proofs.Right.{Right, past_constants, at_zero, at_one, right_keep}
use Rattle.maj_mapping.proofs.RightAll.{right_same, run_is_right}
use Rattle.maj_mapping.proofs.CoverRight.{cubes_are_cover}
use Rattle.maj_mapping.specs.Counts.{AllBelow}

right_cheaper : (n : ℕ) (gs : List Gate) (m : Made) (a b : ℕ) (f : (ℕ → Bool) → Bool) → a ≤ b
    → Right n gs m a f → Right n gs m b f
right_cheaper n gs m a b f le r =
    record {
      good = r.good;
      inside = r.inside;
      grown = r.grown;
      few = omega (arith, r.few);
      earlier = r.earlier;
      value = r.value;
    }

pub define_is_right : (n : ℕ) (gs : List Gate) → AreGates n gs → (xs : List ℕ) (d : Def) → HasPlanes d.cubes
    → AllBelow (length gs) xs → Right n gs (define n gs xs d) (most_gates d) (λ v. cover d (map v xs))
unfolding define
define_is_right n gs ok [] d planes below = go (cover d []) refl
  where
    go : (b : Bool) → cover d [] ≡ b → Right n gs (keep gs (cond b (n + 1) n)) (most_gates d) (λ v. cover d [])
    go true e = right_keep n gs (n + 1) _ _ ok (past_constants n gs ok)
        (λ word v fits. at_one n gs ok word v fits ∙ sym e)
    go false e = right_keep n gs n _ _ ok (slice_get_within gs n Zero ok.zero_at)
        (λ word v fits. at_zero n gs ok word v fits ∙ sym e)
define_is_right n gs ok (x ∷ []) d planes below =
    let f : Bool → Bool → Bool = λ a b. cover d (a ∷ []) in
    let e = two_entry (number (values2 f)) (below_16 _ _ _ _) in
    let k = slice_get_within gs n Zero ok.zero_at in
    let r = run_is_right n gs x n n (two_recipe (number (values2 f))) ok below.0 k k in
    right_same n gs _ _ _ _ (right_cheaper n gs _ _ _ _ (omega (arith, e.few)) r)
    (λ word v fits. ap (λ (b : Bool). recipe_value (two_recipe (number (values2 f))) (v x) b b)
    (at_zero n _ r.good word v fits) ∙ two_value f (v x) false)
define_is_right n gs ok (x ∷ y ∷ []) d planes below =
    let f : Bool → Bool → Bool = λ a b. cover d (a ∷ b ∷ []) in
    let e = two_entry (number (values2 f)) (below_16 _ _ _ _) in
    let k = slice_get_within gs n Zero ok.zero_at in
    let r = run_is_right n gs x y n (two_recipe (number (values2 f))) ok below.0 below.1.0 k in
    right_same n gs _ _ _ _ (right_cheaper n gs _ _ _ _ (omega (arith, e.few)) r)
    (λ word v fits. ap (recipe_value (two_recipe (number (values2 f))) (v x) (v y)) (at_zero n _ r.good word v fits)
    ∙ two_value f (v x) (v y))
define_is_right n gs ok (x ∷ y ∷ z ∷ []) d planes below =
    let f : Bool → Bool → Bool → Bool = λ a b c. cover d (a ∷ b ∷ c ∷ []) in
    let e = three_entry (number (values3 f)) (below_256 _ _ _ _ _ _ _ _) in
    right_same n gs _ _ _ _ (right_cheaper n gs _ _ _ _ (omega (arith, e.few))
    (run_is_right n gs x y z (three_recipe (number (values3 f))) ok below.0 below.1.0 below.1.1.0))
    (λ word v fits. three_value f (v x) (v y) (v z))
define_is_right n gs ok (x ∷ y ∷ z ∷ w ∷ xs) d planes below = right_cheaper n gs _ _ _ _ (omega arith)
    (cubes_are_cover n gs ok (x ∷ y ∷ z ∷ w ∷ xs) d planes below)
