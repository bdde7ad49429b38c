-- A tree of the plan has as many leaves as its gate has uses, and no tree with fewer rows has.
use Rattle.std.proofs.Common.{◌≡◌, ℕ, zero, suc, ◌*◌, ◌≤◌, ◌^◌, Bool, true, false, leb, List, [], ◌∷◌, length, refl}
use Rattle.std.proofs.Common.{sym, ap, ◌∙◌, subst, arith, inl, inr, mul_comm, mul-le-mul_right, pow-suc, le_trans}
use Rattle.std.proofs.Math.Nat.{pow-zero}
use Rattle.std.proofs.lemmas.Bool.{leb-false}
use Rattle.circuit.specs.PlainNets.{PlainView}
use Rattle.level_balance.specs.Levels.{depth_from, depth}
use Rattle.level_balance.specs.Plan.{frame}
use Rattle.level_balance.specs.Uses.{use_count}
use Rattle.level_balance.specs.Trees.{FansOut, IsShortestTree, IsLeastExponent, tree_rows, tree_of}
use Rattle.level_balance.proofs.Trees.{IsBase, base_two, reach, reach_times, depth_enough, tree_fed, sizes_length}

reach_power : (b t : ℕ) → reach b t 1 ≡ b ^ t
unfolding reach
reach_power b zero = sym (pow-zero b)
reach_power b (suc t) = reach_times b t 1 ∙ ap (λ (r : ℕ). r * b) (reach_power b t) ∙ sym (pow-suc b t)

reach_more : (b t n m : ℕ) → n ≤ m → reach b t n ≤ reach b t m
unfolding reach
reach_more b zero n m le = le
reach_more b (suc t) n m le = reach_more b t (n * b) (m * b) (mul-le-mul_right b le)

-- rows give no more than their number allows
fans_within : (b n : ℕ) (cs : List ℕ) (f : ℕ) → FansOut b n cs f → f ≤ reach b (length cs) n
unfolding reach
fans_within b n [] f h = h
fans_within b n (c ∷ cs) f h =
    let one = fans_within b c cs f h.1 in
    let le : c ≤ n * b = subst (λ k. c ≤ k) (mul_comm b n) h.0 in
    le_trans one (reach_more b (length cs) c (n * b) le)

depth_least : (b k f size t : ℕ) → f ≤ reach b t size → depth_from k b f size ≤ t
unfolding reach
depth_least b zero f size t le = omega arith
depth_least b (suc k) f size t le = go (leb f size) refl t le (λ s h. depth_least b k f (size * b) s h)
  where
    go : (c : Bool) → leb f size ≡ c → (s : ℕ) → f ≤ reach b s size
        → ((r : ℕ) → f ≤ reach b r (size * b) → depth_from k b f (size * b) ≤ r)
        → (elim c as (λ (d : Bool). ℕ) [ true ↦ 0 | false ↦ suc (depth_from k b f (size * b)) ]) ≤ s
    go true e s h less = omega arith
    go false e zero h less = let lt = leb-false f size e in absurd (omega arith)
    go false e (suc s) h less = let more = less s h in omega arith

pub least_exponent : (b f : ℕ) → IsBase b → IsLeastExponent b f (depth b f)
least_exponent b f base = record {
  enough = subst (λ k. f ≤ k) (reach_power b (depth b f))
      (depth_enough b (base_two b base) f f 1 (omega arith) (omega arith));
  least = λ s le. depth_least b f f 1 s (subst (λ k. f ≤ k) (sym (reach_power b s)) le);
}

frame_base : (net : PlainView) (three : Bool) → IsBase (frame net three).base
unfolding frame
frame_base net true = inr refl
frame_base net false = inl refl

pub tree_exponent : (net : PlainView) (three : Bool) (i : ℕ)
    → IsLeastExponent (frame net three).base (use_count (frame net three).uses i) (tree_rows (frame net three) i)
tree_exponent net three i = least_exponent (frame net three).base
    (use_count (frame net three).uses i) (frame_base net three)

pub tree_length : (net : PlainView) (three : Bool) (i : ℕ)
    → length (tree_of (frame net three) i) ≡ tree_rows (frame net three) i
tree_length net three i = sizes_length (frame net three).base (tree_rows (frame net three) i)
    (use_count (frame net three).uses i)

pub tree_shortest : (net : PlainView) (three : Bool) (i : ℕ)
    → IsShortestTree (frame net three).base (use_count (frame net three).uses i) (tree_of (frame net three) i)
tree_shortest net three i =
    let b = (frame net three).base in
    let fan = use_count (frame net three).uses i in
    record {
      fans_out = tree_fed b (frame_base net three) fan;
      shortest = λ others h.
          let least : depth b fan ≤ length others = depth_least b fan fan 1 (length others)
          (fans_within b 1 others fan h) in
          subst (λ k. k ≤ length others) (sym (tree_length net three i)) least;
    }
