-- Literals follow from others: by majorities, by clauses, and step by step.
use Rattle.std.specs.Prelude.{◌≡◌, ℕ, ◌<◌, not, Bool, true, false, List, [], ◌∷◌, ◌++◌, length}
use Rattle.std.specs.List.{All, Contains}
use Rattle.std.proofs.Common.{refl, sym, ap, ◌∙◌, inl, inr, get_or}
use Rattle.std.proofs.lemmas.Bool.{cases_Bool}
use Rattle.std.proofs.lemmas.List.Elements.{All-from_recursion, recursion_from_All, All-cons, All-push}
use Rattle.std.proofs.lemmas.List.Elements.{All-contains, All-get_or}
use Rattle.mig.specs.declared.node.Node.{Node}
use Rattle.mig.specs.Graphs.{literal_value, node_value, turned, Fits}
use Rattle.mig.specs.Building.{BuilderView, Grown, Splits}
use Rattle.mig.proofs.Folded.{turned_value, first_twice, last_twice, swap_last}
use Rattle.mig.proofs.Built.{odd_value, fits_before}
use Rattle.sat_solver.specs.declared.clause.Clause.{Clause}
use Rattle.sat_solver.specs.Clauses.{AreTrue, AreUnsatisfiable, AreClauses}
use Rattle.sat_solver.specs.Code.Following.{Follows, IsImplied, HasBoth, AreConflicting}

-- two operands that are true
pub has_first_two : (node : Node) (p q : ℕ) → node.x ≡ p → node.y ≡ q → HasBoth node p q
unfolding node_value
has_first_two node p q e f = record {
  shows = λ v a b. (let same = first_twice (literal_value v node.x) (literal_value v node.z) in cc);
}

pub has_outer_two : (node : Node) (p q : ℕ) → node.x ≡ p → node.z ≡ q → HasBoth node p q
unfolding node_value
has_outer_two node p q e f = record {
  shows = λ v a b.
      let swapped = swap_last (literal_value v node.x) (literal_value v node.x) (literal_value v node.y) in
      let same = first_twice (literal_value v node.x) (literal_value v node.y) in
      cc;
}

pub has_last_two : (node : Node) (p q : ℕ) → node.y ≡ p → node.z ≡ q → HasBoth node p q
unfolding node_value
has_last_two node p q e f = record {
  shows = λ v a b. (let same = last_twice (literal_value v node.x) (literal_value v node.y) in cc);
}

pub ruleset operand_pairs = (has_first_two, has_outer_two, has_last_two)

-- a true literal and its complement
pub both_conflict : (v : ℕ → Bool) (l : ℕ) → literal_value v l ≡ true → literal_value v (turned l) ≡ true → ⊥
both_conflict v l e f =
    let z : true ≡ false = sym f ∙ turned_value v l ∙ ap not e in
    absurd cc

-- two operands of a majority are not true beside its complement
pub majority_unsatisfiable : (b : BuilderView) (node : Node) (top p q : ℕ) → Splits b top node → HasBoth node p q
    → AreUnsatisfiable b (p ∷ q ∷ turned top ∷ [])
majority_unsatisfiable b node top p q splits both = record {
  never = λ word v fit are. both_conflict v top (splits.shows word v fit ∙ both.shows v are.0 are.1.0) are.1.1.0;
}

-- each of some true literals is true
true_among : (v : ℕ → Bool) (literals : List ℕ) (l : ℕ) → AreTrue v literals → Contains literals l
    → literal_value v l ≡ true
true_among v literals l are =
    let P = λ (k : ℕ). literal_value v k ≡ true in
    All-contains P literals l (All-from_recursion P literals are)

-- a literal that is implied, and the complement of the one that is false
pub implied_already : (implied : List ℕ) (l further : ℕ) → Contains implied further → IsImplied implied l further
implied_already implied l further has = record { shows = λ v are no. true_among v implied further are has }

pub implied_by_turned : (implied : List ℕ) (l further : ℕ) → further ≡ turned l → IsImplied implied l further
implied_by_turned implied l further is = record {
  shows = λ v are no. ap (literal_value v) is ∙ turned_value v l ∙ ap not no;
}

pub implied_conflict : (implied : List ℕ) (l other : ℕ) → Contains implied l → other ≡ turned l
    → Contains implied other → AreConflicting implied
implied_conflict implied l other one is has = record {
  never = λ v are. both_conflict v l (true_among v implied l are one)
      (ap (literal_value v) (sym is) ∙ true_among v implied other are has);
}

-- what cannot be false beside the implied ones follows from them
pub unit_follows : (b : BuilderView) (implied clause : List ℕ) (l : ℕ) → AreUnsatisfiable b clause
    → All (IsImplied implied l) clause → Follows b implied l
unit_follows b implied clause l never shown = record {
  shows = λ word v fit are. elim (cases_Bool (literal_value v l)) [
    | inl e ↦ e
    | inr f ↦ absurd (never.never word v fit
        (recursion_from_All (λ k. literal_value v k ≡ true) clause (λ k d lt. (shown k d lt).shows v are f)))
  ];
}

-- the literals themselves, and the constant true
pub begins : (b : BuilderView) (from implied : List ℕ) → implied ≡ 1 ∷ from → All (Follows b from) implied
begins b from implied is =
    rw is (All-cons (Follows b from) 1 from
    (record { shows = λ word v fit are. odd_value v 1 refl ∙ ap not fit.none })
    (λ k d lt. record {
      shows = λ word v fit are. All-from_recursion (λ l. literal_value v l ≡ true) from are k d lt;
    }))

-- what follows is true
follow_true : (b : BuilderView) (from implied : List ℕ) → All (Follows b from) implied → (word : List Bool)
    → (v : ℕ → Bool) → Fits b.inputs b.nodes word v → AreTrue v from → AreTrue v implied
follow_true b from implied all word v fit are =
    recursion_from_All (λ k. literal_value v k ≡ true) implied (λ k d lt. (all k d lt).shows word v fit are)

-- what follows from what follows
pub follows_more : (b : BuilderView) (from implied more : List ℕ) (l : ℕ) → All (Follows b from) implied
    → Follows b implied l → more ≡ implied ++ l ∷ [] → All (Follows b from) more
follows_more b from implied more l all follows is =
    rw is (All-push (Follows b from) implied l all (record {
      shows = λ word v fit are. follows.shows word v fit (follow_true b from implied all word v fit are);
    }))

pub conflict_unsatisfiable : (b : BuilderView) (from implied : List ℕ) → All (Follows b from) implied
    → AreConflicting implied → AreUnsatisfiable b from
conflict_unsatisfiable b from implied all conflicting = record {
  never = λ word v fit are. conflicting.never v (follow_true b from implied all word v fit are);
}

pub ruleset refutation = (begins, follows_more, conflict_unsatisfiable)

-- one clause more
pub clauses_more : (b : BuilderView) (clauses more : List Clause) (clause : Clause) (read : List ℕ)
    → AreClauses b clauses → AreUnsatisfiable b read → read ≡ clause.literals.items
    → more ≡ clauses ++ clause ∷ [] → AreClauses b more
clauses_more b clauses more clause read all never same is =
    rw is (All-push (λ (f : Clause). AreUnsatisfiable b f.literals.items) clauses clause all (rw (sym same) never))

-- the clause at a place
pub clause_at : (b : BuilderView) (clauses : List Clause) (k : ℕ) (clause : Clause) (read : List ℕ)
    → AreClauses b clauses → k < length clauses
    → read ≡ (get_or clauses k clause).literals.items → AreUnsatisfiable b read
clause_at b clauses k clause read all lt same =
    rw same (All-get_or (λ (f : Clause). AreUnsatisfiable b f.literals.items) clauses k clause lt all)

-- clauses stay clauses where the graph grows
unsatisfiable_later : (a b : BuilderView) (literals : List ℕ) → Grown a b → AreUnsatisfiable a literals
    → AreUnsatisfiable b literals
unsatisfiable_later a b literals grown unsatisfiable = record {
  never = λ word v fit are. unsatisfiable.never word v (fits_before a b grown word v fit) are;
}

pub clauses_later : (a b : BuilderView) (clauses : List Clause) → Grown a b → AreClauses a clauses
    → AreClauses b clauses
clauses_later a b clauses grown all =
    λ k clause lt. unsatisfiable_later a b (get_or clauses k clause).literals.items grown (all k clause lt)
