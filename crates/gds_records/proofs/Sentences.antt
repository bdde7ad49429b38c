-- A sentence ends with ENDLIB, which stands nowhere else in it; and which kinds may follow.
use Rattle.std.proofs.Common.{◌≡◌, ℕ, List, [], ◌∷◌, ◌++◌, Bool, true, false, eqb, ◌&&◌, ◌||◌, refl, sym, ap, subst}
use Rattle.std.proofs.Common.{◌∙◌, append_assoc, ◌⊎◌, inl, inr}
use Rattle.std.specs.Prelude.{not}
use Rattle.std.proofs.lemmas.Bool.{eqb-true, eq-eqb, and_parts, or_parts, or_from, not-true, cases_Bool}
use Rattle.gds_records.specs.Language.{Language, Nothing, Empty, One, Then, Either, Many, Speaks, Repeats, none, more}
use Rattle.gds_records.specs.Records.{Record, kinds}
use Rattle.gds_records.specs.Profiles.{Profile}
use Rattle.gds_records.specs.Derivative.{after, after_all}
use Rattle.gds_records.specs.Profiled.{alive, may_follow_in}
use Rattle.gds_records.proofs.Derive.{all_complete, goes_on}

-- ---- whether a language has a word

some_word : (a : Language) → alive a ≡ true → (w : List ℕ) × Speaks a w
some_word Nothing e = absurd cc
some_word Empty e = ([], refl)
some_word (One k) e = (k ∷ [], refl)
some_word (Then a b) e =
    let p = and_parts (alive a) (alive b) e in
    let x = some_word a p.0 in let y = some_word b p.1 in
    (x.0 ++ y.0, (x.0, y.0, refl, x.1, y.1))
some_word (Either a b) e = some_either a b (alive a) refl (some_word a)
    (λ q. some_word b (sym (ap (λ (t : Bool). t || alive b) q) ∙ e))
  where
    some_either : (x y : Language) (t : Bool) → alive x ≡ t → (alive x ≡ true → (w : List ℕ) × Speaks x w)
        → (alive x ≡ false → (w : List ℕ) × Speaks y w) → (w : List ℕ) × (Speaks x w ⊎ Speaks y w)
    some_either x y true q f g = let z = f q in (z.0, inl z.1)
    some_either x y false q f g = let z = g q in (z.0, inr z.1)
some_word (Many a) e = ([], none [] refl)

no_word : (a : Language) (w : List ℕ) → alive a ≡ false → Speaks a w → ⊥
no_word Nothing w e h = h
no_word Empty w e h = absurd cc
no_word (One k) w e h = absurd cc
no_word (Then a b) w e h = by_first a (alive a) refl
    (λ q. no_word b h.1 (sym (ap (λ (t : Bool). t && alive b) q) ∙ e) h.4) (λ q. no_word a h.0 q h.3)
  where
    by_first : (x : Language) (t : Bool) → alive x ≡ t → (alive x ≡ true → ⊥) → (alive x ≡ false → ⊥) → ⊥
    by_first x true q f g = f q
    by_first x false q f g = g q
no_word (Either a b) w e (inl h) = no_word a w (or_parts (alive a) (alive b) e).0 h
no_word (Either a b) w e (inr h) = no_word b w (or_parts (alive a) (alive b) e).1 h
no_word (Many a) w e h = absurd cc

-- ---- the end

abbrev pub has_kind : ℕ → List ℕ → Bool
has_kind k [] = false
has_kind k (x ∷ xs) = eqb x k || has_kind k xs

abbrev pub mentions : ℕ → Language → Bool
mentions k Nothing = false
mentions k Empty = false
mentions k (One j) = eqb j k
mentions k (Then a b) = mentions k a || mentions k b
mentions k (Either a b) = mentions k a || mentions k b
mentions k (Many a) = mentions k a

append_lacks : (k : ℕ) (xs ys : List ℕ) → has_kind k xs ≡ false → has_kind k ys ≡ false → has_kind k (xs ++ ys) ≡ false
append_lacks k [] ys e f = f
append_lacks k (x ∷ xs) ys e f = let p = or_parts (eqb x k) (has_kind k xs) e in
    or_from (eqb x k) (has_kind k (xs ++ ys)) p.0 (append_lacks k xs ys p.1 f)

many_lacks : (k : ℕ) (a : Language) → ((v : List ℕ) → Speaks a v → has_kind k v ≡ false) → (w : List ℕ)
    → Repeats (Speaks a) w → has_kind k w ≡ false
many_lacks k a f w (none w' e) = ap (λ (x : List ℕ). has_kind k x) e
many_lacks k a f w (more w' front rest e h r) = ap (λ (x : List ℕ). has_kind k x) e
    ∙ append_lacks k front rest (f front h) (many_lacks k a f rest r)

-- a kind that the language does not mention is in no word
pub lacks : (k : ℕ) (a : Language) (w : List ℕ) → mentions k a ≡ false → Speaks a w → has_kind k w ≡ false
lacks k Nothing w e h = absurd h
lacks k Empty w e h = ap (λ (x : List ℕ). has_kind k x) h
lacks k (One j) w e h = ap (λ (x : List ℕ). has_kind k x) h ∙ or_from (eqb j k) false e refl
lacks k (Then a b) w e h = let p = or_parts (mentions k a) (mentions k b) e in
    ap (λ (x : List ℕ). has_kind k x) h.2 ∙ append_lacks k h.0 h.1 (lacks k a h.0 p.0 h.3) (lacks k b h.1 p.1 h.4)
lacks k (Either a b) w e (inl h) = lacks k a w (or_parts (mentions k a) (mentions k b) e).0 h
lacks k (Either a b) w e (inr h) = lacks k b w (or_parts (mentions k a) (mentions k b) e).1 h
lacks k (Many a) w e h = many_lacks k a (λ v s. lacks k a v e s) w h

abbrev pub ends_with : ℕ → Language → Bool
ends_with k Nothing = true
ends_with k Empty = false
ends_with k (One j) = eqb j k
ends_with k (Then a b) = not (mentions k a) && ends_with k b
ends_with k (Either a b) = ends_with k a && ends_with k b
ends_with k (Many a) = false

pub record Ends (k : ℕ) (w : List ℕ) : Type 0 where
  pub front : List ℕ
  pub whole : w ≡ front ++ k ∷ []
  pub free : has_kind k front ≡ false

-- each word ends with the kind, which stands nowhere else in it
pub ends_so : (k : ℕ) (a : Language) (w : List ℕ) → ends_with k a ≡ true → Speaks a w → Ends k w
ends_so k Nothing w e h = absurd h
ends_so k Empty w e h = absurd cc
ends_so k (One j) w e h = record { front = []; whole = h ∙ ap (λ (x : ℕ). x ∷ []) (eqb-true j k e); free = refl }
ends_so k (Then a b) w e h =
    let p = and_parts (not (mentions k a)) (ends_with k b) e in
    let r = ends_so k b h.1 p.1 h.4 in
    record {
      front = h.0 ++ r.front;
      whole = h.2 ∙ ap (λ (x : List ℕ). h.0 ++ x) r.whole ∙ sym (append_assoc h.0 r.front (k ∷ []));
      free = append_lacks k h.0 r.front (lacks k a h.0 (not-true (mentions k a) p.0) h.3) r.free;
    }
ends_so k (Either a b) w e (inl h) = ends_so k a w (and_parts (ends_with k a) (ends_with k b) e).0 h
ends_so k (Either a b) w e (inr h) = ends_so k b w (and_parts (ends_with k a) (ends_with k b) e).1 h
ends_so k (Many a) w e h = absurd cc

nothing_after : (k : ℕ) (u w front : List ℕ) → u ++ k ∷ w ≡ front ++ k ∷ [] → has_kind k front ≡ false → w ≡ []
nothing_after k [] w [] e f = cc
nothing_after k [] w (x ∷ front) e f = absurd
    (let q : k ≡ x = cc in let p = (or_parts (eqb x k) (has_kind k front) f).0 in
    let r : eqb x k ≡ true = subst (λ (y : ℕ). eqb y k ≡ true) q (eq-eqb k k refl) in cc)
nothing_after k (y ∷ u) w [] e f = absurd (none_left u w (let q : u ++ k ∷ w ≡ [] = cc in q))
  where
    none_left : (u w : List ℕ) → u ++ k ∷ w ≡ [] → ⊥
    none_left [] w e = cc
    none_left (z ∷ u) w e = cc
nothing_after k (y ∷ u) w (x ∷ front) e f = nothing_after k u w front (let q : u ++ k ∷ w ≡ front ++ k ∷ [] = cc in q)
    (or_parts (eqb x k) (has_kind k front) f).1

module _ (profile : Profile) where
  -- ---- what may follow

  pub follows : (before : List Record) (k : ℕ) → may_follow_in profile before k ≡ true
      → (w : List ℕ) × Speaks profile.language (kinds before ++ k ∷ w)
  follows before k e =
      let x = some_word (after k (after_all (kinds before) profile.language)) e in (
        x.0,
        goes_on (kinds before) (k ∷ x.0) profile.language
            (goes_on (k ∷ []) x.0 (after_all (kinds before) profile.language) x.1),
      )

  pub no_follower : (before : List Record) (k : ℕ) → may_follow_in profile before k ≡ false → (w : List ℕ)
      → Speaks profile.language (kinds before ++ k ∷ w) → ⊥
  no_follower before k e w h = no_word (after k (after_all (kinds before) profile.language)) w e
      (all_complete (k ∷ []) w (after_all (kinds before) profile.language)
      (all_complete (kinds before) (k ∷ w) profile.language h))

  pub followed : (before : List Record) (k : ℕ) (w : List ℕ) → Speaks profile.language (kinds before ++ k ∷ w)
      → may_follow_in profile before k ≡ true
  followed before k w h = elim (cases_Bool (may_follow_in profile before k)) [
    | inl e ↦ e
    | inr e ↦ absurd (no_follower before k e w h)
  ]

  module _ (ends : ends_with 4 profile.language ≡ true) where
    pub sentence_ends : (w : List ℕ) → Speaks profile.language w → Ends 4 w
    sentence_ends w h = ends_so 4 profile.language w ends h

    -- nothing stands after ENDLIB
    pub at_end : (u w : List ℕ) → Speaks profile.language (u ++ 4 ∷ w) → w ≡ []
    at_end u w h = let r = sentence_ends (u ++ 4 ∷ w) h in nothing_after 4 u w r.front r.whole r.free

    -- what something follows is not ENDLIB
    pub not_end : (u : List ℕ) (k j : ℕ) (w : List ℕ) → Speaks profile.language (u ++ k ∷ j ∷ w) → eqb k 4 ≡ false
    not_end u k j w h = elim (cases_Bool (eqb k 4)) [
      | inl e ↦ absurd
          (let q : k ≡ 4 = eqb-true k 4 e in let r : j ∷ w ≡ [] = at_end u (j ∷ w)
          (subst (λ (x : ℕ). Speaks profile.language (u ++ x ∷ j ∷ w)) q h) in cc)
      | inr e ↦ e
    ]

    -- what nothing follows is ENDLIB
    pub is_end : (u : List ℕ) (k : ℕ) → Speaks profile.language (u ++ k ∷ []) → k ≡ 4
    is_end u k h = let r = sentence_ends (u ++ k ∷ []) h in last_same u r.front r.whole
      where
        last_same : (u front : List ℕ) → u ++ k ∷ [] ≡ front ++ 4 ∷ [] → k ≡ 4
        last_same [] [] e = cc
        last_same [] (x ∷ []) e = absurd cc
        last_same [] (x ∷ y ∷ front) e = absurd cc
        last_same (x ∷ []) [] e = absurd cc
        last_same (x ∷ y ∷ u) [] e = absurd cc
        last_same (x ∷ u) (y ∷ front) e = last_same u front cc
