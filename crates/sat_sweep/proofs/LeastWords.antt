-- Least words: from refuted assumptions to what holds before a word.
use Rattle.std.specs.Prelude.{◌≡◌, ℕ, zero, suc, ◌+◌, ◌*◌, ◌/◌, ◌%◌, ◌<◌, Bool, true, false, not}
use Rattle.std.specs.Prelude.{List, [], ◌∷◌, ◌++◌, length, slice_index_or, IfOk, IfSome, Option, Some, None}
use Rattle.std.proofs.Common.{Result, Ok, Err, sym, ap, ◌∙◌, subst, arith, inl, inr}
use Rattle.std.proofs.lemmas.Bool.{cases_Bool, cases_lt}
use Rattle.sat_solver.specs.Clauses.{AreTrue, AreUnsatisfiable}
use Rattle.decide.specs.Verdicts.{Before}
use Rattle.mig.specs.Graphs.{literal_value, Fits, turned}
use Rattle.mig.specs.Building.{BuilderView}
use Rattle.mig.proofs.Built.{even_value, odd_value}
use Rattle.sat_sweep.specs.Code.Least.{AreAlikeWhere, AreAlikeBefore, IsNextLiteral, IsLeastWord}
use Rattle.sat_sweep.specs.Code.Merging.{StandsFor}
use Rattle.sat_sweep.proofs.Refuting.{one_value}

pub true_more : (v : ℕ → Bool) (xs : List ℕ) (l : ℕ) → AreTrue v xs → literal_value v l ≡ true
    → AreTrue v (xs ++ l ∷ [])
true_more v [] l all is = (is, tt)
true_more v (x ∷ xs) l all is = (all.0, true_more v xs l all.1 is)

three_true : (v : ℕ → Bool) (first assumed : List ℕ) (x y z : ℕ)
    → assumed ≡ ((first ++ x ∷ []) ++ y ∷ []) ++ z ∷ [] → AreTrue v first → literal_value v x ≡ true
    → literal_value v y ≡ true → literal_value v z ≡ true → AreTrue v assumed
three_true v first assumed x y z is all p q r =
    rw is
    (true_more v ((first ++ x ∷ []) ++ y ∷ []) z (true_more v (first ++ x ∷ []) y (true_more v first x all p) q) r)

-- both searches refuted
pub both_refuted : (b : BuilderView) (first left right : List ℕ) (more l m l' m' : ℕ) → l' ≡ turned l → m' ≡ turned m
    → left ≡ ((first ++ more ∷ []) ++ l ∷ []) ++ m' ∷ [] → right ≡ ((first ++ more ∷ []) ++ l' ∷ []) ++ m ∷ []
    → AreUnsatisfiable b left → AreUnsatisfiable b right → AreAlikeWhere b first more l m
both_refuted b first left right more l m l' m' e f is is' p q = record {
  shows = λ word v fit all low. one_value v l m
      (λ one other. p.never word v fit
      (three_true v first left more l m' is all low one (ap (literal_value v) f ∙ other)))
      (λ one other. q.never word v fit
      (three_true v first right more l' m is' all low (ap (literal_value v) e ∙ one) other));
}

-- the inputs have the values of the word's first places
abbrev pub Agrees : (ℕ → Bool) → List Bool → ℕ → Type 0
Agrees v word count = (j : ℕ) → j < count → v (1 + j) ≡ slice_index_or word j false

-- what holds of the first places of a word
pub record IsLeastSoFar (b : BuilderView) (word : List Bool) (first : List ℕ) (one other count : ℕ) : Type 0 where
  pub says : (v : ℕ → Bool) → Agrees v word count → AreTrue v first
  pub none : (j : ℕ) → j < count → slice_index_or word j false ≡ true → (x : List Bool) (v : ℕ → Bool)
      → Fits b.inputs b.nodes x v → Agrees v word j → v (1 + j) ≡ false → literal_value v one ≡ literal_value v other

false_reads : (v : ℕ → Bool) (i l : ℕ) → l ≡ 2 * (1 + i) + 1 → v (1 + i) ≡ false → literal_value v l ≡ true
false_reads v i l is off =
    let odd : l % 2 ≡ 1 = omega arith in
    let half : l / 2 ≡ 1 + i = omega arith in
    odd_value v l odd ∙ ap (λ k. not (v k)) half ∙ ap not off

true_reads : (v : ℕ → Bool) (i l : ℕ) → l ≡ 2 * (1 + i) → v (1 + i) ≡ true → literal_value v l ≡ true
true_reads v i l is on = ap (literal_value v) is ∙ even_value v (1 + i) ∙ on

-- one more place
pub least_more : (b : BuilderView) (word : List Bool) (first more : List ℕ)
    (literal one other count l : ℕ) (here : Bool)
    → IsLeastSoFar b word first one other count → literal ≡ 2 * (1 + count) → here ≡ slice_index_or word count false
    → IsNextLiteral b first literal here one other l → more ≡ first ++ l ∷ []
    → IsLeastSoFar b word more one other (count + 1)
least_more b word first more literal one other count l here so_far at reads next is = record {
  says = λ v agrees.
      let value = agrees count (omega arith) ∙ sym reads in
      rw is
      (true_more v first l (so_far.says v (λ (j : ℕ) (lt : j < count). agrees j (omega arith)))
      (elim (cases_Bool here) [
        | inl on ↦ true_reads v count l (next.on on ∙ at) (value ∙ on)
        | inr off ↦ false_reads v count l (let e = next.off off in omega arith) (value ∙ off)
      ]));
  none = λ j lt place x v fit agrees off. elim (cases_lt j count) [
    | inl below ↦ so_far.none j below place x v fit agrees off
    | inr past ↦
        let e : j ≡ count = omega arith in
        let on = reads ∙ ap (λ k. slice_index_or word k false) (sym e) ∙ place in
        (next.alike on).shows x v fit (so_far.says v (subst (Agrees v word) e agrees))
        (false_reads v count (literal + 1) (omega arith) (ap (λ k. v (1 + k)) (sym e) ∙ off))
  ];
}

agree_more : (x y : Bool) (xs ys : List Bool) (place : ℕ) → x ≡ y
    → ((k : ℕ) → k < place → slice_index_or xs k false ≡ slice_index_or ys k false)
    → (k : ℕ) → k < suc place → slice_index_or (x ∷ xs) k false ≡ slice_index_or (y ∷ ys) k false
agree_more x y xs ys place same agree zero lt = same
agree_more x y xs ys place same agree (suc k) lt = agree k (omega arith)

-- what holds wherever a word becomes lower than another one holds of a word before it
before_at : (P : Type 0) (x word : List Bool) → Before x word
    → ((place : ℕ) → place < length x → place < length word
    → ((k : ℕ) → k < place → slice_index_or x k false ≡ slice_index_or word k false)
    → slice_index_or x place false ≡ false → slice_index_or word place false ≡ true → P) → P
before_at P [] word before holds = absurd before
before_at P (x ∷ xs) [] before holds = absurd before
before_at P (x ∷ xs) (y ∷ ys) before holds = elim before [
  | inl here ↦ holds 0 (omega arith) (omega arith) (λ k lt. absurd (omega arith)) here.0 here.1
  | inr later ↦ before_at P xs ys later.1 (λ place within_x within agree.
      holds (suc place) (omega arith) (omega arith) (agree_more x y xs ys place later.0 agree))
]

-- after all places
pub alike_before : (b : BuilderView) (word : List Bool) (first : List ℕ) (one other count : ℕ) → count ≡ length word
    → IsLeastSoFar b word first one other count → AreAlikeBefore b word one other
alike_before b word first one other count whole so_far = record {
  shows = λ x v fit long before. before_at (literal_value v one ≡ literal_value v other) x word before
      (λ place within_x within agree off on. so_far.none place (omega arith) on x v fit
      (λ (j : ℕ) (lt : j < place). fit.of_input j (omega arith) ∙ agree j lt)
      (fit.of_input place (omega arith) ∙ off));
}

-- literals that stand for two others have the same least word
pub if_least_resolved : {E : Type 0} (r : Result (Option (List Bool)) E) (graph b : BuilderView) (l m n n' : ℕ)
    → graph ≡ b → StandsFor b l n → StandsFor b m n'
    → IfOk r (λ some. IfSome some (IsLeastWord graph n n')) → IfOk r (λ some. IfSome some (IsLeastWord b l m))
if_least_resolved (Err e) graph b l m n n' same p q least = tt
if_least_resolved (Ok None) graph b l m n n' same p q least = tt
if_least_resolved (Ok (Some word)) graph b l m n n' same p q least =
    let here : IsLeastWord b n n' word = rw (sym same) least in
    record {
      long = here.long;
      before = record {
        shows = λ x v fit long early.
            p.alike.shows x v fit ∙ here.before.shows x v fit long early ∙ sym (q.alike.shows x v fit);
      };
    }
