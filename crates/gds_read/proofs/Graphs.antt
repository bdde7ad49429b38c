-- References by name and by number.
use Rattle.std.proofs.Common.{◌≡◌, ℕ, zero, suc, ◌+◌, ◌-◌, ◌<◌, ◌≤◌, List, [], ◌∷◌, map, drop, length, Bool, true}
use Rattle.std.proofs.Common.{false, eqb, ◌||◌, Option, Some, None, refl, sym, ap, ◌∙◌, arith}
use Rattle.std.specs.Prelude.{not, nat_lt, slice_index_or}
use Rattle.std.specs.Cmp.Lexicographic.{pointwise}
use Rattle.std.proofs.Math.Bool.{beq}
use Rattle.std.proofs.lemmas.Bool.{ltb-true, ltb-false}
use Rattle.std.proofs.lemmas.List.{length-map}
use Rattle.poly_cut.proofs.Held.{same_marks as marks_same}
use Rattle.gds_records.specs.Records.{same}
use Rattle.gds_records.specs.Drawing.{place_of}
use Rattle.gds_records.specs.Whole.{Use, Outline}
use Rattle.gds_records.specs.WideWhole.{uses_by, some_use, goes_down, first_long}
use Rattle.gds_records.proofs.Written.{eqb_suc}
use Rattle.gds_read.specs.declared.outline.NamedUse.{NamedUse}
use Rattle.gds_read.specs.declared.outline.NamedOutline.{NamedOutline}
use Rattle.gds_read.specs.Code.Outlining.{use_of, outline_of, names_in}
use Rattle.gds_read.specs.Code.Graphs.{graph_by, graph_of, targets_at, some_target, descends, is_long}
use Rattle.gds_read.proofs.Items.{next_item}
use Rattle.gds_read.proofs.Distinct.{Fresh, each_first}

-- ---- what a structure references, by name and by number

number_uses : (names : List (List ℕ)) (us : List NamedUse)
    → map (λ u. place_of u.name names) (map use_of us) ≡ map (λ u. place_of u.name.now names) us
number_uses names [] = refl
number_uses names (u ∷ us) = ap (λ (x : List ℕ). place_of u.name.now names ∷ x) (number_uses names us)

pub by_number : (names : List (List ℕ)) (ss : List NamedOutline) (t : List ℕ)
    → map (λ u. place_of u.name names) (uses_by t (map outline_of ss)) ≡ targets_at (graph_by names ss)
    (place_of t (names_in ss))
by_number names [] t = refl
by_number names (s ∷ ss) t = turn (same t s.name.now) (by_number names ss t)
  where
    turn : (z : Bool) → map (λ u. place_of u.name names) (uses_by t (map outline_of ss)) ≡ targets_at
        (graph_by names ss) (place_of t (names_in ss))
        → map (λ u. place_of u.name names)
        (elim z as (λ (x : Bool). List Use) [ true ↦ map use_of s.uses | false ↦ uses_by t (map outline_of ss) ])
        ≡ targets_at (graph_by names (s ∷ ss))
        (elim z as (λ (x : Bool). ℕ) [ true ↦ 0 | false ↦ suc (place_of t (names_in ss)) ])
    turn true e = number_uses names s.uses
    turn false e = e

some_by_number : (names : List (List ℕ)) (test : ℕ → Bool) (us : List Use)
    → some_use (λ t. test (place_of t names)) us ≡ some_target test (map (λ u. place_of u.name names) us)
some_by_number names test [] = refl
some_by_number names test (u ∷ us) = ap (λ (b : Bool). test (place_of u.name names) || b) (some_by_number names test us)

some_alike : (p q : List ℕ → Bool) → ((t : List ℕ) → p t ≡ q t) → (us : List Use) → some_use p us ≡ some_use q us
some_alike p q f [] = refl
some_alike p q f (u ∷ us) = (λ i. f u.name i || some_alike p q f us i)

-- ---- chains

pub some_always : (ns : List ℕ) (none : Bool) → none ≡ eqb (length ns) 0 → not none ≡ some_target (λ n. true) ns
some_always [] none e = ap (λ (b : Bool). not b) e
some_always (n ∷ ns) none e = ap (λ (b : Bool). not b) (e ∙ eqb_suc (length ns))

pub target_alike : (p q : ℕ → Bool) → ((n : ℕ) → p n ≡ q n) → (ns : List ℕ) → some_target p ns ≡ some_target q ns
target_alike p q f [] = refl
target_alike p q f (n ∷ ns) = (λ i. f n i || target_alike p q f ns i)

-- marks that were made structure by structure
pub marked_at : (p : ℕ → Bool) (graph : List (List ℕ)) (n : ℕ)
    → slice_index_or (map (λ ns. some_target p ns) graph) n false ≡ some_target p (targets_at graph n)
marked_at p [] n = refl
marked_at p (ns ∷ graph) zero = refl
marked_at p (ns ∷ graph) (suc n) = marked_at p graph n

-- these are the marks of the structures from which chains of so many references go down
pub record Marked (marks : List Bool) (k : ℕ) (graph : List (List ℕ)) : Type 0 where
  pub each : (n : ℕ) → slice_index_or marks n false ≡ descends k graph n

pub first_marks : (marks : List Bool) (graph : List (List ℕ)) → marks ≡ map (λ ns. some_target (λ n. true) ns) graph
    → Marked marks 1 graph
first_marks marks graph e = record {
  each = λ n. ap (λ (x : List Bool). slice_index_or x n false) e ∙ marked_at (λ m. true) graph n;
}

pub more_marks : (marks above : List Bool) (k : ℕ) (graph : List (List ℕ)) → Marked marks k graph
    → above ≡ map (λ ns. some_target (λ n. slice_index_or marks n false) ns) graph → Marked above (k + 1) graph
more_marks marks above k graph m e =
    let q : suc k ≡ k + 1 = omega arith in
    record {
      each = λ n. ap (λ (x : List Bool). slice_index_or x n false) e
          ∙ marked_at (λ i. slice_index_or marks i false) graph n
          ∙ target_alike (λ i. slice_index_or marks i false) (descends k graph) m.each (targets_at graph n)
          ∙ ap (λ (x : ℕ). descends x graph n) q;
    }

stays : (more k : ℕ) (graph : List (List ℕ)) → ((n : ℕ) → descends (suc k) graph n ≡ descends k graph n) → (n : ℕ)
    → descends (more + k) graph n ≡ descends k graph n
stays zero k graph f n = let q : 0 + k ≡ k = omega arith in ap (λ (x : ℕ). descends x graph n) q
stays (suc more) k graph f n =
    let q : suc more + k ≡ suc (more + k) = omega arith in
    ap (λ (x : ℕ). descends x graph n) q ∙ target_alike (descends (more + k) graph) (descends k graph)
    (stays more k graph f) (targets_at graph n) ∙ f n

pub all_marks : (marks : List Bool) (k : ℕ) (graph : List (List ℕ)) → k ≡ 65 → Marked marks k graph → (n : ℕ)
    → slice_index_or marks n false ≡ is_long graph n
unfolding is_long
all_marks marks k graph e m n = m.each n ∙ ap (λ (x : ℕ). descends x graph n) e

-- marks that one more reference leaves as they are stay so
pub same_marks : (marks above : List Bool) (k : ℕ) (graph : List (List ℕ)) → k ≤ 65 → Marked marks k graph
    → above ≡ map (λ ns. some_target (λ n. slice_index_or marks n false) ns) graph → pointwise beq above marks ≡ true
    → (n : ℕ) → slice_index_or marks n false ≡ is_long graph n
unfolding is_long
same_marks marks above k graph h m e t n =
    let s = marks_same above marks t in
    let q : k + 1 ≡ suc k = omega arith in
    let all : (65 - k) + k ≡ 65 = omega arith in
    let w = more_marks marks above k graph m e in
    let f : (i : ℕ) → descends (suc k) graph i ≡ descends k graph i
    = λ i. ap (λ (x : ℕ). descends x graph i) (sym q) ∙ sym (w.each i)
    ∙ ap (λ (x : List Bool). slice_index_or x i false) s ∙ m.each i in
    m.each n ∙ sym (stays (65 - k) k graph f n) ∙ ap (λ (x : ℕ). descends x graph n) all

module _ (ss : List NamedOutline) where
  goes_by_number : (k : ℕ) (t : List ℕ) → goes_down k (map outline_of ss) t ≡ descends k (graph_of ss)
      (place_of t (names_in ss))
  goes_by_number zero t = refl
  goes_by_number (suc k) t =
      some_alike (goes_down k (map outline_of ss)) (λ n. descends k (graph_of ss) (place_of n (names_in ss)))
      (goes_by_number k) (uses_by t (map outline_of ss))
      ∙ some_by_number (names_in ss) (descends k (graph_of ss)) (uses_by t (map outline_of ss))
      ∙ ap (λ (x : List ℕ). some_target (descends k (graph_of ss)) x) (by_number (names_in ss) ss t)

-- ---- where each structure is the first of its name, and none of them has a long chain

pub past_none : (graph : List (List ℕ)) (n : ℕ) → length graph ≤ n → targets_at graph n ≡ []
past_none [] n h = refl
past_none (ns ∷ graph) zero h = absurd (omega arith)
past_none (ns ∷ graph) (suc n) h = past_none graph n (omega (arith, h))

past_short : (graph : List (List ℕ)) (n : ℕ) → length graph ≤ n → is_long graph n ≡ false
unfolding is_long
past_short graph n h = ap (λ (ns : List ℕ). some_target (descends 64 graph) ns) (past_none graph n h)

each_short : (all os : List Outline) → first_long all os ≡ None → (k : ℕ) → k < length os
    → goes_down 65 all (slice_index_or (map (λ o. o.name) os) k []) ≡ false
each_short all [] e k h = absurd (omega arith)
each_short all (o ∷ os) e k h = turn (goes_down 65 all o.name) refl e k h (each_short all os)
  where
    turn : (z : Bool) → goes_down 65 all o.name ≡ z
        → (elim z as (λ (x : Bool). Option ℕ) [ true ↦ Some o.place | false ↦ first_long all os ]) ≡ None
        → (k : ℕ) → k < suc (length os)
        → (first_long all os ≡ None → (k : ℕ) → k < length os
        → goes_down 65 all (slice_index_or (map (λ o. o.name) os) k []) ≡ false)
        → goes_down 65 all (slice_index_or (o.name ∷ map (λ o. o.name) os) k []) ≡ false
    turn true f g k h r = absurd cc
    turn false f g zero h r = f
    turn false f g (suc k) h r = r g k (omega (arith, h))

module _ (ss : List NamedOutline) (fresh : Fresh [] (names_in ss))
    (none : first_long (map outline_of ss) (map outline_of ss) ≡ None) where
  stands_short : (n : ℕ) → n < length ss → is_long (graph_of ss) n ≡ false
  unfolding is_long
  stands_short n h =
      let outlined : length (map outline_of ss) ≡ length ss = length-map ss outline_of in
      let sized : length (names_in ss) ≡ length (map outline_of ss) = length-map (map outline_of ss) (λ s. s.name) in
      let name : List ℕ = slice_index_or (names_in ss) n [] in
      let first : place_of name (names_in ss) ≡ 0 + n = each_first [] (names_in ss) fresh n
      (omega (arith, h, outlined, sized)) in
      let place : n ≡ place_of name (names_in ss) = omega (arith, first) in
      ap (λ (m : ℕ). descends 65 (graph_of ss) m) place ∙ sym (goes_by_number ss 65 name)
      ∙ each_short (map outline_of ss) (map outline_of ss) none n (omega (arith, h, outlined))

  pub all_short : (n : ℕ) → is_long (graph_of ss) n ≡ false
  all_short n = turn (nat_lt n (length ss)) refl
    where
      turn : (z : Bool) → nat_lt n (length ss) ≡ z → is_long (graph_of ss) n ≡ false
      turn true e = stands_short n (ltb-true n (length ss) e)
      turn false e =
          let sized : length (graph_of ss) ≡ length ss = length-map ss
          (λ s. map (λ u. place_of u.name.now (names_in ss)) s.uses) in
          let past : length ss ≤ n = ltb-false n (length ss) e in
          past_short (graph_of ss) n (omega (arith, sized, past))

pick_here : (z : Bool) (p : ℕ) (r : Option ℕ) → z ≡ true
    → (elim z as (λ (x : Bool). Option ℕ) [ true ↦ Some p | false ↦ r ]) ≡ Some p
pick_here true p r e = refl
pick_here false p r e = absurd cc

pick_next : (z : Bool) (p : ℕ) (r : Option ℕ) → z ≡ false
    → (elim z as (λ (x : Bool). Option ℕ) [ true ↦ Some p | false ↦ r ]) ≡ r
pick_next true p r e = absurd cc
pick_next false p r e = refl

-- the search for the first structure with a long chain, structure by structure
module _ (ss : List NamedOutline) (i : ℕ) (s : NamedOutline) (h : i < length ss) (q : s ≡ slice_index_or ss i s)
    (total : Option ℕ) where
  pub long_here : first_long (map outline_of ss) (map outline_of (drop i ss)) ≡ total → (b : Bool)
      → b ≡ is_long (graph_of ss) (place_of s.name.now (names_in ss)) → b ≡ true → Some s.place ≡ total
  unfolding is_long
  long_here e b w t =
      sym (pick_here (goes_down 65 (map outline_of ss) s.name.now) s.place
      (first_long (map outline_of ss) (map outline_of (drop (i + 1) ss)))
      (goes_by_number ss 65 s.name.now ∙ sym w ∙ t))
      ∙ ap (λ (x : List NamedOutline). first_long (map outline_of ss) (map outline_of x))
      (sym (next_item ss i s h q)) ∙ e

  pub long_next : first_long (map outline_of ss) (map outline_of (drop i ss)) ≡ total → (b : Bool)
      → b ≡ is_long (graph_of ss) (place_of s.name.now (names_in ss)) → b ≡ false
      → first_long (map outline_of ss) (map outline_of (drop (i + 1) ss)) ≡ total
  unfolding is_long
  long_next e b w t =
      sym (pick_next (goes_down 65 (map outline_of ss) s.name.now) s.place
      (first_long (map outline_of ss) (map outline_of (drop (i + 1) ss)))
      (goes_by_number ss 65 s.name.now ∙ sym w ∙ t))
      ∙ ap (λ (x : List NamedOutline). first_long (map outline_of ss) (map outline_of x))
      (sym (next_item ss i s h q)) ∙ e
