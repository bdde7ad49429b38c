-- Literals that stand for literals.
use Rattle.std.specs.Prelude.{◌≡◌, ◌⊎◌, ℕ, ◌+◌, ◌*◌, ◌/◌, ◌%◌, ◌<◌, Bool, not, cond}
use Rattle.std.specs.Prelude.{suc, List, [], ◌∷◌, length, Option, Some, IfOk, map}
use Rattle.std.proofs.Common.{Result, Ok, Err, refl, sym, ap, ◌∙◌, arith, inl, inr}
use Rattle.std.proofs.lemmas.Bool.Decides.{eqb_tells}
use Rattle.mig.specs.declared.node.Node.{Node}
use Rattle.mig.specs.Graphs.{literal_value, node_value, Fits, turned}
use Rattle.mig.specs.Building.{BuilderView, Grown, Gives, Splits, limit}
use Rattle.mig.proofs.Folded.{turned_value, turned_below}
use Rattle.mig.proofs.Built.{fits_before, limit_grows, even_value, odd_value, whole_value}
use Rattle.sat_solver.specs.declared.clause.Clause.{Clause}
use Rattle.sat_solver.proofs.Followed.{clauses_later}
use Rattle.sat_sweep.specs.Code.Merging.{AreAlike, StandsFor, AreMerged, IsKnown, AreAllAlike}
use Rattle.sat_sweep.specs.Code.Merging.{representative_at, turned_as}

pub alike_same : (b : BuilderView) (l : ℕ) → AreAlike b l l
alike_same b l = record { shows = λ word v fit. refl }

pub stands_same : (b : BuilderView) (l : ℕ) → StandsFor b l l
stands_same b l = record { below = λ lt. lt; alike = alike_same b l }

pub alike_then : (b : BuilderView) (l m n : ℕ) → AreAlike b l m → AreAlike b m n → AreAlike b l n
alike_then b l m n p q = record { shows = λ word v fit. p.shows word v fit ∙ q.shows word v fit }

pub alike_back : (b : BuilderView) (l m : ℕ) → AreAlike b l m → AreAlike b m l
alike_back b l m p = record { shows = λ word v fit. sym (p.shows word v fit) }

pub stands_then : (b : BuilderView) (l m n : ℕ) → StandsFor b l m → StandsFor b m n → StandsFor b l n
stands_then b l m n p q = record {
  below = λ lt. q.below (p.below lt);
  alike = alike_then b l m n p.alike q.alike;
}

pub alike_later : (a b : BuilderView) (l m : ℕ) → Grown a b → AreAlike a l m → AreAlike b l m
alike_later a b l m grown alike = record {
  shows = λ word v fit. alike.shows word v (fits_before a b grown word v fit);
}

-- merged nodes stay so where the graph grows
pub merged_later : (a b : BuilderView) (representatives : List (Option ℕ)) → Grown a b → AreMerged a representatives
    → AreMerged b representatives
merged_later a b representatives grown merged = record {
  below = λ node l is. (let lt = merged.below node l is in let le = limit_grows a b grown in omega arith);
  alike = λ node l is. alike_later a b (2 * node) l grown (merged.alike node l is);
}

pub known_later : (a b : BuilderView) (representatives : List (Option ℕ)) (clauses : List Clause) → Grown a b
    → IsKnown a representatives clauses → IsKnown b representatives clauses
known_later a b representatives clauses grown known = record {
  are_merged = merged_later a b representatives grown known.are_merged;
  are_clauses = clauses_later a b clauses grown known.are_clauses;
}

-- a representative, turned as the literal is
pub representative_stands : (b : BuilderView) (representatives : List (Option ℕ)) (literal own found : ℕ)
    → AreMerged b representatives → representative_at representatives (literal / 2) ≡ Some own
    → found ≡ turned_as literal own → StandsFor b literal found
representative_stands b representatives literal own found merged at is =
    let low = merged.below (literal / 2) own at in
    let same = merged.alike (literal / 2) own at in
    elim (eqb_tells (literal % 2) 1) [
      | inl odd ↦
          let e : found ≡ turned own = is ∙ ap (λ (t : Bool). cond t (turned own) own) odd.0 in
          record {
            below = λ lt. rw e (turned_below (1 + b.inputs + length b.nodes) own low);
            alike = record {
              shows = λ word v fit.
                  odd_value v literal odd.1 ∙ ap not (sym (even_value v (literal / 2)) ∙ same.shows word v fit)
                  ∙ sym (turned_value v own) ∙ ap (literal_value v) (sym e);
            };
          }
      | inr even ↦
          let e : found ≡ own = is ∙ ap (λ (t : Bool). cond t (turned own) own) even.0 in
          record {
            below = λ lt. rw e low;
            alike = record {
              shows = λ word v fit.
                  whole_value v literal even.1 ∙ sym (even_value v (literal / 2)) ∙ same.shows word v fit
                  ∙ ap (literal_value v) (sym e);
            };
          }
    ]

-- one more representative
pub merged_more : (b : BuilderView) (old new : List (Option ℕ)) (node literal : ℕ) → AreMerged b old
    → literal < limit b → AreAlike b (2 * node) literal
    → ((k own : ℕ) → representative_at new k ≡ Some own
    → (representative_at old k ≡ Some own) ⊎ ((k ≡ node) × (own ≡ literal)))
    → AreMerged b new
merged_more b old new node literal merged low alike put = record {
  below = λ k own is. elim (put k own is) [
    | inl old ↦ merged.below k own old
    | inr here ↦ rw here.1 low
  ];
  alike = λ k own is. elim (put k own is) [
    | inl old ↦ merged.alike k own old
    | inr here ↦ rw here.0 (rw here.1 alike)
  ];
}

-- a majority of what stands for the operands
pub if_remade : {E : Type 0} (r : Result ℕ E) (a b : BuilderView) (literal x y z : ℕ) (node : Node) → Grown a b
    → Splits a literal node → StandsFor a node.x x → StandsFor a node.y y → StandsFor a node.z z
    → IfOk r (λ given. Gives b given (λ v. node_value v (record { x = x; y = y; z = z })))
    → IfOk r (λ given. StandsFor b literal given)
unfolding node_value
if_remade (Err e) a b literal x y z node grown splits p q r gives = tt
if_remade (Ok given) a b literal x y z node grown splits p q r gives = record {
  below = λ lt. gives.below;
  alike = record {
    shows = λ word v fit.
        let old = fits_before a b grown word v fit in
        let e = p.alike.shows word v old in
        let f = q.alike.shows word v old in
        let g = r.alike.shows word v old in
        let h = splits.shows word v old in
        let k = gives.shows word v fit in
        cc;
  };
}

-- what stands for a literal has its value
pub given_then : (a b : BuilderView) (literal found : ℕ) (value : (ℕ → Bool) → Bool) → b ≡ a → Gives a literal value
    → StandsFor b literal found → Gives b found value
given_then a b literal found value same gives stands =
    let here : Gives b literal value = rw same gives in
    record {
      below = stands.below here.below;
      shows = λ word v fit. sym (stands.alike.shows word v fit) ∙ here.shows word v fit;
    }

-- literals for which one literal stands have one value
pub one_for_both : (b : BuilderView) (l m n n' : ℕ) → StandsFor b l n → StandsFor b m n' → n ≡ n' → AreAlike b l m
one_for_both b l m n n' p q same =
    alike_then b l n m p.alike (alike_back b m n (rw same q.alike))

-- literals that are alike at each place show the same
pub maps_alike : (b : BuilderView) (ones others : List ℕ) → length others ≡ length ones → AreAllAlike b ones others
    → (word : List Bool) (v : ℕ → Bool) → Fits b.inputs b.nodes word v
    → map (literal_value v) ones ≡ map (literal_value v) others
maps_alike b [] [] size alike word v fit = refl
maps_alike b [] (m ∷ ms) size alike word v fit = absurd cc
maps_alike b (l ∷ ls) [] size alike word v fit = absurd cc
maps_alike b (l ∷ ls) (m ∷ ms) size alike word v fit =
    let first = (alike 0 (omega arith)).shows word v fit in
    let rest = maps_alike b ls ms (omega arith) (λ (k : ℕ) (lt : k < length ls). alike (suc k) (omega arith)) word v fit
    in
    cc
