-- A list that rises by some order stays so where an item is put into it, and has that item and the old ones.
use Rattle.std.proofs.Common.{◌≡◌, ℕ, zero, suc, ◌<◌, Bool, true, false, refl, sym, ap, ◌∙◌, arith, ◌⊎◌, inl, inr, List}
use Rattle.std.proofs.Common.{[], ◌∷◌, Some, slice_get}
use Rattle.std.proofs.lemmas.Option.{same_Some}

-- the item has a place among these
pub record Among {A : Type 0} (y : A) (es : List A) : Type 0 where
  pub place : ℕ
  pub there : slice_get es place ≡ Some y

pub none_among : {A : Type 0} {P : Type 0} (y : A) → Among y [] → P
none_among y a = absurd (let h = a.there in cc)

first_of : {A : Type 0} (e : A) (es : List A) → Among e (e ∷ es)
first_of e es = record { place = 0; there = refl }

later : {A : Type 0} (e z : A) (es : List A) → Among z es → Among z (e ∷ es)
later e z es a = record { place = suc a.place; there = a.there }

among_cases : {A : Type 0} (e z : A) (es : List A) → Among z (e ∷ es) → (z ≡ e) ⊎ Among z es
among_cases e z es a = go a.place a.there
  where
    go : (n : ℕ) → slice_get (e ∷ es) n ≡ Some z → (z ≡ e) ⊎ Among z es
    go zero h = inl (sym (same_Some e z h))
    go (suc n) h = inr (record { place = n; there = h })

-- an order in which two items neither of which is below the other are one
pub record IsOrder {A : Type 0} (below : A → A → Bool) : Type 0 where
  pub chain : (x y z : A) → below x y ≡ true → below y z ≡ true → below x z ≡ true
  pub same : (x y : A) → below x y ≡ false → below y x ≡ false → x ≡ y

module _ {A : Type 0} (below : A → A → Bool) where
  -- all of these are above y
  abbrev pub Above : A → List A → Type 0
  Above y es = (j : ℕ) (z : A) → slice_get es j ≡ Some z → below y z ≡ true

  abbrev pub Rising : List A → Type 0
  Rising [] = Unit {0}
  Rising (e ∷ es) = Above e es × Rising es

  pub by_places : (es : List A) → Rising es → (i j : ℕ) (y z : A) → slice_get es i ≡ Some y → slice_get es j ≡ Some z
      → i < j → below y z ≡ true
  by_places [] rising i j y z p q lt = absurd cc
  by_places (e ∷ es) rising i zero y z p q lt = absurd (omega arith)
  by_places (e ∷ es) rising zero (suc j) y z p q lt = ap (λ (x : A). below x z) (sym (same_Some e y p)) ∙ rising.0 j z q
  by_places (e ∷ es) rising (suc i) (suc j) y z p q lt = by_places es rising.1 i j y z p q (omega arith)

  -- a rising list with one item more
  pub record Inserted (y : A) (es : List A) : Type 0 where
    pub items : List A
    pub rising : Rising items
    pub has : Among y items
    pub keeps : (z : A) → Among z es → Among z items
    pub only : (z : A) → Among z items → (z ≡ y) ⊎ Among z es

  module _ (order : IsOrder below) where
    pub insert : (y : A) (es : List A) → Rising es → Inserted y es
    insert y [] rising = record {
      items = y ∷ [];
      rising = (λ j z h. absurd cc, tt);
      has = first_of y [];
      keeps = λ z a. none_among z a;
      only = λ z a. among_cases y z [] a;
    }
    insert y (e ∷ es) rising = go (below y e) (below e y) refl refl (insert y es rising.1)
      where
        before : below y e ≡ true → Inserted y (e ∷ es)
        before lt = record {
          items = y ∷ e ∷ es;
          rising = (above, rising);
          has = first_of y (e ∷ es);
          keeps = λ z a. later y z (e ∷ es) a;
          only = λ z a. among_cases y z (e ∷ es) a;
        }
          where
            above : Above y (e ∷ es)
            above zero z h = ap (below y) (sym (same_Some e z h)) ∙ lt
            above (suc j) z h = order.chain y e z lt (rising.0 j z h)

        there : y ≡ e → Inserted y (e ∷ es)
        there q = record {
          items = e ∷ es;
          rising = rising;
          has = record { place = 0; there = ap (λ (x : A). Some x) (sym q) };
          keeps = λ z a. a;
          only = λ z a. inr a;
        }

        after : below e y ≡ true → Inserted y es → Inserted y (e ∷ es)
        after gt rest = record {
          items = e ∷ rest.items;
          rising = (above, rest.rising);
          has = later e y rest.items rest.has;
          keeps = λ z a. kept z (among_cases e z es a);
          only = λ z a. one_of z (among_cases e z rest.items a);
        }
          where
            above_of : (z : A) → (z ≡ y) ⊎ Among z es → below e z ≡ true
            above_of z (inl q) = ap (below e) q ∙ gt
            above_of z (inr a) = rising.0 a.place z a.there

            above : Above e rest.items
            above j z h = above_of z (rest.only z (record { place = j; there = h }))

            kept : (z : A) → (z ≡ e) ⊎ Among z es → Among z (e ∷ rest.items)
            kept z (inl q) = record { place = 0; there = ap (λ (x : A). Some x) (sym q) }
            kept z (inr a) = later e z rest.items (rest.keeps z a)

            old : (z : A) → (z ≡ y) ⊎ Among z es → (z ≡ y) ⊎ Among z (e ∷ es)
            old z (inl q) = inl q
            old z (inr a) = inr (later e z es a)

            one_of : (z : A) → (z ≡ e) ⊎ Among z rest.items → (z ≡ y) ⊎ Among z (e ∷ es)
            one_of z (inl q) = inr (record { place = 0; there = ap (λ (x : A). Some x) (sym q) })
            one_of z (inr a) = old z (rest.only z a)

        go : (b c : Bool) → below y e ≡ b → below e y ≡ c → Inserted y es → Inserted y (e ∷ es)
        go true c p q rest = before p
        go false true p q rest = after q rest
        go false false p q rest = there (order.same y e p q)
