-- The steps of a recipe, made one after the other: what is left makes the whole.
use Rattle.std.proofs.Common.{◌≡◌, ℕ, ◌+◌, ◌<◌, ◌≤◌, List, [], ◌∷◌, ◌++◌, length, drop, get_or, refl, sym, ap, ◌∙◌}
use Rattle.std.proofs.Common.{subst, arith, drop-cons, add-one}
use Rattle.std.proofs.lemmas.List.{drop_all}
use Rattle.circuit.specs.PlainNets.{AreGates}
use Rattle.case_tables.specs.declared.recipe.Step.{Step}
use Rattle.case_tables.specs.RecipeView.{RecipeView}
use Rattle.case_tables.specs.Recipes.{operand_is}
use Rattle.maj_mapping.specs.Operations.{Made, MadeAll, step_made, steps_made, run}
use Rattle.maj_mapping.specs.Covers.{names}
use Rattle.maj_mapping.specs.Code.MakerView.{MakerView, with_gates}
use Rattle.maj_mapping.specs.Counts.{AllBelow}
use Rattle.maj_mapping.proofs.Below.{below_more, below_append}
use Rattle.maj_mapping.proofs.RightAll.{names_inside, step_is_right}
use Rattle.maj_mapping.proofs.Growing.{steps_grow}

-- from the maker `first` on, with k steps done
pub record Running (first : MakerView) (a b c : ℕ) (steps whole : List Step) (maker : MakerView)
    (done : List ℕ) (k : ℕ) : Type 0 where
  pub same : maker.inputs ≡ first.inputs
  pub good : AreGates first.inputs maker.gates
  pub grown : length first.gates ≤ length maker.gates
  pub below : AllBelow (length maker.gates) done
  pub left : steps_made first.inputs maker.gates (names first.inputs a b c) done
      (drop k steps) ≡ steps_made first.inputs first.gates (names first.inputs a b c) [] whole

-- one more step
pub one_step : (first : MakerView) (a b c : ℕ) (steps whole : List Step) (maker after : MakerView)
    (done read more : List ℕ) (k gate : ℕ) (d : Step)
    → a < length first.gates → b < length first.gates → c < length first.gates
    → Running first a b c steps whole maker done k → k < length steps → read ≡ done
    → after ≡ with_gates maker
    (step_made maker.inputs maker.gates (names maker.inputs a b c) read (get_or steps k d)).gates
    → gate ≡ (step_made maker.inputs maker.gates (names maker.inputs a b c) read (get_or steps k d)).at
    → more ≡ done ++ gate ∷ []
    → Running first a b c steps whole after more (k + 1)
one_step first a b c steps whole maker after done read more k gate d la lb lc r lt e is at m =
    let n = first.inputs in
    let named = names n a b c in
    let grown = r.grown in
    let step = get_or steps k d in
    let made = step_made n maker.gates named done step in
    let inside = names_inside n maker.gates a b c r.good (omega arith) (omega arith) (omega arith) in
    let right = step_is_right n maker.gates named done r.good inside r.below step in
    let same_made : step_made maker.inputs maker.gates
    (names maker.inputs a b c) read step ≡ made = rw (r.same, e) refl in
    let gates : after.gates ≡ made.gates = ap (λ (t : MakerView). t.gates) is ∙ ap (λ (t : Made). t.gates) same_made in
    let gate_is : gate ≡ made.at = at ∙ ap (λ (t : Made). t.at) same_made in
    let all : more ≡ done ++ made.at ∷ [] = m ∙ ap (λ g. done ++ g ∷ []) gate_is in
    let rest : drop k steps ≡ step ∷ drop (k + 1) steps = drop-cons steps k d lt
    ∙ ap (λ j. step ∷ drop j steps) (sym (add-one k)) in
    record {
      same = ap (λ (t : MakerView). t.inputs) is ∙ r.same;
      good = subst (AreGates n) (sym gates) right.good;
      grown = subst (λ gs. length first.gates ≤ length gs) (sym gates) (omega (arith, right.grown));
      below = subst (λ gs. AllBelow (length gs) more) (sym gates)
          (subst (AllBelow (length made.gates)) (sym all)
          (below_append (length made.gates) done (made.at ∷ [])
          (below_more _ _ done right.grown r.below) (right.inside, tt)));
      left = ap (λ gs. steps_made n gs named more (drop (k + 1) steps)) gates
          ∙ ap (λ ds. steps_made n made.gates named ds (drop (k + 1) steps)) all
          ∙ ap (steps_made n maker.gates named done) (sym rest) ∙ r.left;
    }

-- the last step
pub all_steps : (first : MakerView) (a b c : ℕ) (steps : List Step) (r : RecipeView) (maker : MakerView) (done : List ℕ)
    (k : ℕ) → Running first a b c steps r.steps maker done k → length steps ≤ k
    → (maker ≡ with_gates first (run first.inputs first.gates (names first.inputs a b c) r).gates)
    × (operand_is (names maker.inputs a b c) done r.out ≡ (run first.inputs first.gates
    (names first.inputs a b c) r).at)
all_steps first a b c steps r maker done k running past =
    let n = first.inputs in
    let named = names n a b c in
    let none : drop k steps ≡ [] = drop_all k steps past in
    let whole : (record { gates = maker.gates; ats = done }) ≡ steps_made n first.gates named [] r.steps =
    ap (λ ss. steps_made n maker.gates named done ss) (sym none) ∙ running.left in (
      ap (λ i. with_gates (record { inputs = i; gates = maker.gates }) maker.gates) running.same
          ∙ ap (λ (m : MadeAll). with_gates first m.gates) whole,
      ap (λ i. operand_is (names i a b c) done r.out) running.same
          ∙ ap (λ (m : MadeAll). operand_is named m.ats r.out) whole,
    )

pub no_steps : (first : MakerView) (a b c : ℕ) (steps whole : List Step) (done : List ℕ)
    → AreGates first.inputs first.gates → steps ≡ whole → done ≡ [] → Running first a b c steps whole first done 0
no_steps first a b c steps whole done good s d = record {
  same = refl;
  good = good;
  grown = omega arith;
  below = subst (AllBelow (length first.gates)) (sym d) tt;
  left = ap (λ ds. steps_made first.inputs first.gates (names first.inputs a b c) ds steps) d
      ∙ ap (λ ss. steps_made first.inputs first.gates (names first.inputs a b c) [] ss) s;
}

-- a step has at most the gates of the whole
pub step_room : (first : MakerView) (a b c : ℕ) (steps whole : List Step) (maker : MakerView)
    (done read : List ℕ) (k most : ℕ) (d : Step)
    → Running first a b c steps whole maker done k → k < length steps → read ≡ done
    → length (steps_made first.inputs first.gates (names first.inputs a b c) [] whole).gates < most
    → length (step_made maker.inputs maker.gates (names maker.inputs a b c) read (get_or steps k d)).gates < most
step_room first a b c steps whole maker done read k most d r lt e few =
    let n = first.inputs in
    let named = names n a b c in
    let step = get_or steps k d in
    let made = step_made n maker.gates named done step in
    let same_made : step_made maker.inputs maker.gates
    (names maker.inputs a b c) read step ≡ made = rw (r.same, e) refl in
    let size = ap (λ (t : Made). length t.gates) same_made in
    let rest : drop k steps ≡ step ∷ drop (k + 1) steps = drop-cons steps k d lt
    ∙ ap (λ j. step ∷ drop j steps) (sym (add-one k)) in
    let all : steps_made n made.gates named (done ++ made.at ∷ [])
    (drop (k + 1) steps) ≡ steps_made n first.gates named [] whole =
    ap (steps_made n maker.gates named done) (sym rest) ∙ r.left in
    let sizes = ap (λ (t : MadeAll). length t.gates) all in
    omega (arith, size, sizes, steps_grow n made.gates named (done ++ made.at ∷ []) (drop (k + 1) steps), few)
