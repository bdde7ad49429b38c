-- Every list of shapes has nets: from one net for each shape, the nets of each two shapes that touch are made one.
use Rattle.std.proofs.Common.{◌≡◌, ℕ, zero, suc, ◌+◌, ◌<◌, ◌≤◌, min, max, Bool, true, false, ◌==◌, cond, refl, sym, ap}
use Rattle.std.proofs.Common.{subst, ◌∙◌, arith, ◌⊎◌, inl, inr, List, [], ◌∷◌, length, Option, Some, None}
use Rattle.std.specs.Prelude.{slice_get, slice_index}
use Rattle.std.proofs.lemmas.Bool.{cases_eq, cases_order, eqb-true, eq-eqb, both_ways}
use Rattle.geom.specs.declared.shapes.Shape.{Shape}
use Rattle.layout_rules.specs.Touch.{touch, Touching, Joined}
use Rattle.layout_rules.specs.Nets.{AreNets}
use Rattle.layout_rules.proofs.NetLaws.{Touching-within, Joined-self, Joined-touching, Joined-trans, Joined-back}
use Rattle.layout_rules.proofs.NetLaws.{AreNets-certified}

-- two labels made one: the lesser stands for both
abbrev merged : ℕ → ℕ → ℕ → ℕ
merged a b n = cond (n == max a b) (min a b) n

merged_most : (a b n : ℕ) → n ≡ max a b → merged a b n ≡ min a b
merged_most a b n e = ap (λ (t : Bool). cond t (min a b) n) (eq-eqb n (max a b) e)

merged_least : (a b n : ℕ) → n ≡ min a b → merged a b n ≡ min a b
merged_least a b n e = go (n == max a b)
  where
    go : (t : Bool) → cond t (min a b) n ≡ min a b
    go true = refl
    go false = e

one_label : (a b : ℕ) → merged a b a ≡ merged a b b
one_label a b = elim (cases_order a b) [
  | inl e ↦ ap (merged a b) e
  | inr h ↦ elim h [
    | inl lt ↦ merged_least a b a (omega arith) ∙ sym (merged_most a b b (omega arith))
    | inr gt ↦ merged_most a b a (omega arith) ∙ sym (merged_least a b b (omega arith))
  ]
]

module _ (shapes : List Shape) where
  abbrev touch_of : Option Shape → Option Shape → Bool
  touch_of None o = false
  touch_of (Some a) None = false
  touch_of (Some a) (Some b) = touch a b

  touching_told : (i j : ℕ) → touch_of (slice_get shapes i) (slice_get shapes j) ≡ true → Touching shapes i j
  touching_told i j e = go (slice_get shapes i) (slice_get shapes j) refl refl e
    where
      go : (o q : Option Shape) → slice_get shapes i ≡ o → slice_get shapes j ≡ q → touch_of o q ≡ true
          → Touching shapes i j
      go None q u v e = absurd cc
      go (Some a) None u v e = absurd cc
      go (Some a) (Some b) u v e = record { first = a; second = b; first_is = u; second_is = v; touch_so = e }

  touching_tells : (i j : ℕ) → Touching shapes i j → touch_of (slice_get shapes i) (slice_get shapes j) ≡ true
  touching_tells i j t = ap (λ (o : Option Shape). touch_of o (slice_get shapes j)) t.first_is
      ∙ ap (touch_of (Some t.first)) t.second_is ∙ t.touch_so

  -- labels that are one for each two shapes that touch, where the two are done
  record Labels (Done : ℕ → ℕ → Type 0) : Type 0 where
    label : ℕ → ℕ
    joined : (n : ℕ) → Joined shapes n (label n)
    not_above : (n : ℕ) → label n ≤ n
    agree : (i j : ℕ) → Done i j → Touching shapes i j → label i ≡ label j

  none_done : (Done : ℕ → ℕ → Type 0) → ((i j : ℕ) → Done i j → ⊥) → Labels Done
  none_done Done none = record {
    label = λ n. n;
    joined = λ n. Joined-self shapes n;
    not_above = λ n. omega arith;
    agree = λ i j d t. absurd (none i j d);
  }

  -- the labels of two shapes that touch are made one
  merge : (Done : ℕ → ℕ → Type 0) → Labels Done → (i j : ℕ) → Touching shapes i j
      → Labels (λ x y. Done x y ⊎ ((x ≡ i) × (y ≡ j)))
  merge Done l i j t = record {
    label = λ n. merged a b (l.label n);
    joined = λ n. to_merged n (l.label n == max a b) refl;
    not_above = λ n. (let k = l.not_above n in lower n (l.label n == max a b) refl);
    agree = λ x y done touching. same x y touching done;
  }
    where
      a : ℕ
      a = l.label i

      b : ℕ
      b = l.label j

      both : Joined shapes a b
      both = Joined-trans shapes a i b (Joined-back shapes i a (l.joined i))
          (Joined-trans shapes i j b (Joined-touching shapes i j t) (l.joined j))

      -- the greater label is joined to the lesser
      down : Joined shapes (max a b) (min a b)
      down = elim (cases_order a b) [
        | inl e ↦ subst (λ (n : ℕ). Joined shapes n (min a b)) (let k : min a b ≡ max a b = omega arith in k)
            (Joined-self shapes (min a b))
        | inr h ↦ elim h [
          | inl lt ↦ subst (λ (n : ℕ). Joined shapes n (min a b)) (let k : b ≡ max a b = omega arith in k)
              (subst (λ (n : ℕ). Joined shapes b n) (let k : a ≡ min a b = omega arith in k)
              (Joined-back shapes a b both))
          | inr gt ↦ subst (λ (n : ℕ). Joined shapes n (min a b)) (let k : a ≡ max a b = omega arith in k)
              (subst (λ (n : ℕ). Joined shapes a n) (let k : b ≡ min a b = omega arith in k) both)
        ]
      ]

      to_merged : (n : ℕ) (t : Bool) → (l.label n == max a b) ≡ t → Joined shapes n (cond t (min a b) (l.label n))
      to_merged n true e =
          Joined-trans shapes n (max a b) (min a b)
          (subst (λ (m : ℕ). Joined shapes n m) (eqb-true (l.label n) (max a b) e) (l.joined n)) down
      to_merged n false e = l.joined n

      lower : (n : ℕ) (t : Bool) → (l.label n == max a b) ≡ t → cond t (min a b) (l.label n) ≤ n
      lower n true e = let k = l.not_above n in let h : l.label n ≡ max a b = eqb-true (l.label n) (max a b) e in
          omega arith
      lower n false e = l.not_above n

      same : (x y : ℕ) → Touching shapes x y → Done x y ⊎ ((x ≡ i) × (y ≡ j))
          → merged a b (l.label x) ≡ merged a b (l.label y)
      same x y touching (inl done) = ap (merged a b) (l.agree x y done touching)
      same x y touching (inr e) = ap (λ (n : ℕ). merged a b (l.label n)) e.0 ∙ one_label a b
          ∙ ap (λ (n : ℕ). merged a b (l.label n)) (sym e.1)

  -- one more pair is done
  with_pair : (Done : ℕ → ℕ → Type 0) → Labels Done → (i j : ℕ) → Labels (λ x y. Done x y ⊎ ((x ≡ i) × (y ≡ j)))
  with_pair Done l i j = go (touch_of (slice_get shapes i) (slice_get shapes j)) refl
    where
      apart : touch_of (slice_get shapes i) (slice_get shapes j) ≡ false → (x y : ℕ) → Done x y ⊎ ((x ≡ i) × (y ≡ j))
          → Touching shapes x y → l.label x ≡ l.label y
      apart e x y (inl done) t = l.agree x y done t
      apart e x y (inr same) t =
          absurd
          (both_ways _ e
          (touching_tells i j
          (subst (λ (n : ℕ). Touching shapes i n) same.1 (subst (λ (n : ℕ). Touching shapes n y) same.0 t))))

      go : (t : Bool) → touch_of (slice_get shapes i) (slice_get shapes j) ≡ t
          → Labels (λ x y. Done x y ⊎ ((x ≡ i) × (y ≡ j)))
      go true e = merge Done l i j (touching_told i j e)
      go false e = record { label = l.label; joined = l.joined; not_above = l.not_above; agree = apart e }

  -- fewer need be done
  with_fewer : (Done Fewer : ℕ → ℕ → Type 0) → ((x y : ℕ) → Fewer x y → Done x y) → Labels Done → Labels Fewer
  with_fewer Done Fewer some l =
      record {
        label = l.label;
        joined = l.joined;
        not_above = l.not_above;
        agree = λ i j d t. l.agree i j (some i j d) t;
      }

  -- the rows below k are done, and of row k the first m pairs
  abbrev IsDone : ℕ → ℕ → ℕ → ℕ → Type 0
  IsDone k m x y = (x < k) ⊎ ((x ≡ k) × (y < m))

  in_row : (k m : ℕ) → Labels (IsDone k 0) → Labels (IsDone k m)
  in_row k zero l = l
  in_row k (suc m) l = with_fewer (λ x y. IsDone k m x y ⊎ ((x ≡ k) × (y ≡ m))) (IsDone k (suc m)) one_more
      (with_pair (IsDone k m) (in_row k m l) k m)
    where
      one_more : (x y : ℕ) → IsDone k (suc m) x y → IsDone k m x y ⊎ ((x ≡ k) × (y ≡ m))
      one_more x y (inl lt) = inl (inl lt)
      one_more x y (inr h) =
          elim (cases_eq y m) [ inl e ↦ inr (h.0, e) | inr ne ↦ inl (inr (h.0, let lt = h.1 in omega arith)) ]

  abbrev Below : ℕ → ℕ → ℕ → Type 0
  Below k x y = (x < k) × (y < length shapes)

  rows_done : (k : ℕ) → Labels (Below k)
  rows_done zero = none_done (Below zero) (λ i j d. let lt = d.0 in omega arith)
  rows_done (suc k) = with_fewer (λ x y. IsDone k (length shapes) x y) (Below (suc k)) one_more
      (in_row k (length shapes) (start (rows_done k)))
    where
      one_more : (x y : ℕ) → Below (suc k) x y → IsDone k (length shapes) x y
      one_more x y h = elim (cases_eq x k) [ inl e ↦ inr (e, h.1) | inr ne ↦ inl (let lt = h.0 in omega arith) ]

      start : Labels (Below k) → Labels (IsDone k 0)
      start l =
          record {
            label = l.label;
            joined = l.joined;
            not_above = l.not_above;
            agree = λ x y d t. l.agree x y (begun x y t d) t;
          }
        where
          begun : (x y : ℕ) → Touching shapes x y → IsDone k 0 x y → Below k x y
          begun x y t (inl lt) = (lt, (Touching-within t).1)
          begun x y t (inr h) = absurd (let lt = h.1 in omega arith)

  -- labels as a list
  abbrev listed : (ℕ → ℕ) → ℕ → ℕ → List ℕ
  listed label k zero = []
  listed label k (suc n) = label k ∷ listed label (suc k) n

  listed_long : (label : ℕ → ℕ) (k n : ℕ) → length (listed label k n) ≡ n
  listed_long label k zero = refl
  listed_long label k (suc n) = ap suc (listed_long label (suc k) n)

  listed_at : (label : ℕ → ℕ) (k n i : ℕ) → i < n → slice_index (listed label k n) i ≡ label (k + i)
  listed_at label k zero i lt = absurd (omega arith)
  listed_at label k (suc n) zero lt = ap label (omega arith)
  listed_at label k (suc n) (suc i) lt = listed_at label (suc k) n i (omega arith) ∙ ap label (omega arith)

  -- every list of shapes has nets
  pub some_nets : (nets : List ℕ) × AreNets shapes nets
  some_nets = (
    nets,
    AreNets-certified shapes nets (record {
      long = listed_long l.label 0 (length shapes);
      joined = λ i lt. subst (λ (n : ℕ). Joined shapes i n) (sym (at i lt)) (l.joined i);
      not_above = λ i lt. (let k = l.not_above i in let e = at i lt in omega arith);
      agree = λ i j t. (let w = Touching-within t in at i w.0 ∙ l.agree i j w t ∙ sym (at j w.1));
    }),
  )
    where
      l : Labels (Below (length shapes))
      l = rows_done (length shapes)

      nets : List ℕ
      nets = listed l.label 0 (length shapes)

      at : (i : ℕ) → i < length shapes → slice_index nets i ≡ l.label i
      at i lt = listed_at l.label 0 (length shapes) i lt ∙ ap l.label (omega arith)
