-- The tables of nodes of which nothing is known.
use Rattle.std.proofs.Common.{◌≡◌, ℕ, ◌<◌, ◌≤◌, ◌^◌, List, length, arith, refl, ap, sym, ◌∙◌, inl, inr}
use Rattle.std.specs.Prelude.{slice_index, slice_set, replicate}
use Rattle.std.proofs.lemmas.Bool.{cases_eq}
use Rattle.std.proofs.lemmas.List.{get_or-set_same, get_or-set_other, length-set, get_or-replicate, length-replicate}
use Rattle.std.proofs.lemmas.List.Folds.{sum_by-replicate}
use Rattle.union_find.specs.Forests.{Forest, Tables, trees, Obeys}
use Rattle.union_find.specs.Code.Shapes.{IsShaped, AreTables}
use Rattle.union_find.proofs.Hanging.{at, at_there, at_apart}

-- what the tables are
pub record IsFresh (f : Forest) (n : ℕ) : Type 0 where
  pub some : 0 < n
  pub count_is : f.count ≡ n
  pub parent_is : (s : ℕ) → s < n → f.parent s ≡ s
  pub above_is : (s : ℕ) → s < n → f.above s ≡ n
  pub height_0 : f.height 0 ≡ 0
  pub height_is : (s : ℕ) → 0 < s → s < n → f.height s ≡ 1
  pub size_is : (s : ℕ) → s < n → f.size s ≡ 1

pub fresh_obeys : (f : Forest) (n : ℕ) → IsFresh f n → (h : ℕ → ℕ) → h 0 ≡ 0 → ((s : ℕ) → 0 < s → s < n → 0 < h s)
    → Obeys f h
fresh_obeys f n fresh h base positive = record {
  base = base;
  positive = λ s pos lt. positive s pos (omega (arith, fresh.count_is));
  linked = λ s lt.
      let low : s < n = omega (arith, fresh.count_is) in
      let same : h (f.parent s) ≡ h s = ap h (fresh.parent_is s low) in
      omega (arith, same, fresh.above_is s low, fresh.count_is);
}

-- the height of the ground, and that of every other node
height_at : ℕ → ℕ
height_at s = at 0 0 1 s

height_0 : height_at 0 ≡ 0
unfolding height_at
height_0 = at_there 0 0 1 0 refl

height_1 : (s : ℕ) → (s ≡ 0 → ⊥) → height_at s ≡ 1
unfolding height_at
height_1 s ne = at_apart 0 0 1 s ne

height_few : (s : ℕ) → height_at s ≤ 1
height_few s = elim (cases_eq s 0) [
  | inl e ↦ let is : height_at s ≡ height_at 0 = ap height_at e in omega (arith, is, height_0)
  | inr ne ↦ let is = height_1 s ne in omega (arith, is)
]

fresh_shape : (f : Forest) (n : ℕ) → IsFresh f n → IsShaped f height_at (λ s. s)
fresh_shape f n fresh =
    let e = fresh.count_is in
    record {
      some = let some = fresh.some in omega (arith, e);
      obeys = fresh_obeys f n fresh height_at height_0
          (λ s pos lt. let is = height_1 s (λ z. absurd (omega (arith, z))) in omega (arith, is));
      parent_below = λ s lt. let is = fresh.parent_is s (omega (arith, e)) in omega (arith, is);
      root_below = λ s lt. lt;
      root_is = λ s lt. fresh.parent_is s (omega (arith, e));
      along = λ s lt. fresh.parent_is s (omega (arith, e));
      at_root = λ s lt is. refl;
      height_is = λ s lt is. elim (cases_eq s 0) [
        | inl z ↦ ap f.height z ∙ fresh.height_0 ∙ sym height_0 ∙ sym (ap height_at z)
        | inr ne ↦ fresh.height_is s (omega (arith, ne)) (omega (arith, e)) ∙ sym (height_1 s ne)
      ];
      within = λ s lt.
          let few = height_few s in
          let one = fresh.size_is s (omega (arith, e)) in
          omega (arith, few, one);
      rising = λ s lt moves. absurd (moves (fresh.parent_is s (omega (arith, e))));
      some_size = λ s lt. let one = fresh.size_is s (omega (arith, e)) in omega (arith, one);
      in_root = λ s lt. omega arith;
      lowest = λ s lt ne. record { node = s; below = lt; here = refl; one = height_1 s ne };
      together = λ k known s t ls lt same.
          let low : k s ≡ k t = ap k same in
          let high : height_at s ≡ height_at t = ap height_at same in
          omega (arith, low, high);
    }

fresh_tables : (t : Tables) (n : ℕ) → n < 2 ^ 32 → length t.parent ≡ n → length t.above ≡ n → length t.height ≡ n
    → length t.size ≡ n → IsFresh (trees t) n → AreTables t
fresh_tables t n few pl al hl sl fresh =
    let ones : List ℕ = replicate n 1 in
    record {
      few = omega (arith, pl);
      above_long = al ∙ sym pl;
      height_long = hl ∙ sym pl;
      size_long = sl ∙ sym pl;
      known = record {
        h = height_at;
        root = λ s. s;
        sizes = ones;
        shaped = fresh_shape (trees t) n fresh;
        sized = record {
          long = length-replicate n 1 ∙ sym pl;
          all =
              let total = sum_by-replicate (λ (m : ℕ). m) n 1 in
              omega (arith, total, pl);
          each = λ s lt is.
              let low : s < n = omega (arith, pl) in
              get_or-replicate n s 1 0 low ∙ sym (fresh.size_is s low);
        };
      };
    }

-- the tables that are made
abbrev made : List ℕ → ℕ → Tables
made parent n = record {
  parent = parent;
  above = replicate n n;
  height = slice_set (replicate n 1) 0 0;
  size = replicate n 1;
}

-- the parents of single nodes: each node's is itself
abbrev AreOwn : List ℕ → ℕ → Type 0
AreOwn parent n = (k : ℕ) → k < n → slice_index parent k ≡ k

made_fresh : (parent : List ℕ) (n : ℕ) → length parent ≡ n → AreOwn parent n → 0 < n
    → IsFresh (trees (made parent n)) n
made_fresh parent n long each some = record {
  some = some;
  count_is = long;
  parent_is = each;
  above_is = λ s lt. get_or-replicate n s n 0 lt;
  height_0 =
      get_or-set_same (replicate {A = ℕ} n 1) 0 0 0 (let long = length-replicate {A = ℕ} n 1 in omega (arith, long));
  height_is = λ s pos lt.
      get_or-set_other (replicate {A = ℕ} n 1) 0 s 0 0 (λ z. absurd (omega (arith, z))) ∙ get_or-replicate n s 1 0 lt;
  size_is = λ s lt. get_or-replicate n s 1 0 lt;
}

pub made_tables : (parent : List ℕ) (n : ℕ) → length parent ≡ n → AreOwn parent n → 0 < n → n < 2 ^ 32
    → AreTables (made parent n)
made_tables parent n long each some few =
    fresh_tables (made parent n) n few long (length-replicate n n)
    (length-set (replicate n 1) 0 0 ∙ length-replicate n 1) (length-replicate n 1) (made_fresh parent n long each some)

pub made_obeys : (parent : List ℕ) (n : ℕ) → length parent ≡ n → AreOwn parent n → 0 < n
    → (h : ℕ → ℕ) → h 0 ≡ 0 → ((s : ℕ) → 0 < s → s < n → 0 < h s) → Obeys (trees (made parent n)) h
made_obeys parent n long each some h base positive =
    fresh_obeys (trees (made parent n)) n (made_fresh parent n long each some) h base positive
