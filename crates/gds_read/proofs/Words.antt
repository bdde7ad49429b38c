-- Which record types stand in each word of a language.
use Rattle.std.proofs.Common.{◌≡◌, ℕ, List, [], ◌∷◌, ◌++◌, Bool, true, false, eqb, ◌&&◌, ◌||◌, ap, ◌∙◌}
use Rattle.std.proofs.Common.{◌⊎◌, inl, inr}
use Rattle.std.proofs.lemmas.Bool.{and_parts, or_cases, or_right}
use Rattle.gds_records.specs.Language.{Language, Nothing, Empty, One, Then, Either, Many, Speaks}
use Rattle.gds_records.proofs.Sentences.{has_kind}

abbrev pub needs : ℕ → Language → Bool
needs k Nothing = false
needs k Empty = false
needs k (One j) = eqb j k
needs k (Then a b) = needs k a || needs k b
needs k (Either a b) = needs k a && needs k b
needs k (Many a) = false

has_front : (k : ℕ) (xs ys : List ℕ) → has_kind k xs ≡ true → has_kind k (xs ++ ys) ≡ true
has_front k [] ys e = absurd cc
has_front k (x ∷ xs) ys e = turn (eqb x k) (has_front k xs ys) (or_cases (eqb x k) (has_kind k xs) e)
  where
    turn : (b : Bool) → (has_kind k xs ≡ true → has_kind k (xs ++ ys) ≡ true) → (b ≡ true) ⊎ (has_kind k xs ≡ true)
        → (b || has_kind k (xs ++ ys)) ≡ true
    turn b g (inl f) = ap (λ (t : Bool). t || has_kind k (xs ++ ys)) f
    turn b g (inr f) = or_right b (has_kind k (xs ++ ys)) (g f)

has_back : (k : ℕ) (xs ys : List ℕ) → has_kind k ys ≡ true → has_kind k (xs ++ ys) ≡ true
has_back k [] ys e = e
has_back k (x ∷ xs) ys e = or_right (eqb x k) (has_kind k (xs ++ ys)) (has_back k xs ys e)

-- a kind that the language needs is in each word
pub holds : (k : ℕ) (a : Language) (w : List ℕ) → needs k a ≡ true → Speaks a w → has_kind k w ≡ true
holds k Nothing w e h = absurd h
holds k Empty w e h = absurd cc
holds k (One j) w e h = ap (λ (x : List ℕ). has_kind k x) h ∙ ap (λ (b : Bool). b || false) e
holds k (Then a b) w e h = ap (λ (x : List ℕ). has_kind k x) h.2
    ∙ turn (or_cases (needs k a) (needs k b) e) (λ f. holds k a h.0 f h.3) (λ f. holds k b h.1 f h.4)
  where
    turn : (needs k a ≡ true) ⊎ (needs k b ≡ true) → (needs k a ≡ true → has_kind k h.0 ≡ true)
        → (needs k b ≡ true → has_kind k h.1 ≡ true) → has_kind k (h.0 ++ h.1) ≡ true
    turn (inl f) p q = has_front k h.0 h.1 (p f)
    turn (inr f) p q = has_back k h.0 h.1 (q f)
holds k (Either a b) w e (inl h) = holds k a w (and_parts (needs k a) (needs k b) e).0 h
holds k (Either a b) w e (inr h) = holds k b w (and_parts (needs k a) (needs k b) e).1 h
holds k (Many a) w e h = absurd cc
