-- What may follow a kind, by derivatives: a word is in the language where the derivative by each of its kinds in turn
-- speaks the empty word.
use Rattle.std.proofs.Common.{◌≡◌, ℕ, List, [], ◌∷◌, ◌++◌, ◌⊎◌, inl, inr, Bool, true, false, eqb, ◌&&◌, ◌||◌, refl, sym}
use Rattle.std.proofs.Common.{ap, subst, ◌∙◌, arith}
use Rattle.std.proofs.lemmas.Bool.{eqb-true}
use Rattle.std.proofs.lemmas.Bool.Decides.{nat_tests}
use Rattle.gds_records.specs.Derivative.{speaks_nothing, then, join, either, after, after_all}
use Rattle.gds_records.specs.Language.{Language, Nothing, Empty, One, Then, Either, Many, Speaks, Repeats, none, more}

-- ---- laws

then_speaks : (a b : Language) (word : List ℕ) → Speaks (then a b) word → Speaks (Then a b) word
then_speaks Nothing b word h = absurd h
then_speaks Empty b word h = ([], word, refl, refl, h)
then_speaks (One kind) b word h = h
then_speaks (Then a c) b word h = h
then_speaks (Either a c) b word h = h
then_speaks (Many a) b word h = h

join_speaks : (a b : Language) (word : List ℕ) → Speaks (join a b) word → Speaks a word ⊎ Speaks b word
join_speaks a Nothing word h = inl h
join_speaks a Empty word h = h
join_speaks a (One kind) word h = h
join_speaks a (Then b c) word h = h
join_speaks a (Either b c) word h = h
join_speaks a (Many b) word h = h

either_speaks : (a b : Language) (word : List ℕ) → Speaks (either a b) word → Speaks (Either a b) word
either_speaks Nothing b word h = inr h
either_speaks Empty b word h = join_speaks Empty b word h
either_speaks (One kind) b word h = join_speaks (One kind) b word h
either_speaks (Then a c) b word h = join_speaks (Then a c) b word h
either_speaks (Either a c) b word h = join_speaks (Either a c) b word h
either_speaks (Many a) b word h = join_speaks (Many a) b word h

and_true : (a b : Bool) → (a && b) ≡ true → (a ≡ true) × (b ≡ true)
and_true true true e = (refl, refl)
and_true true false e = absurd cc
and_true false b e = absurd cc

or_true : (a b : Bool) → (a || b) ≡ true → (a ≡ true) ⊎ (b ≡ true)
or_true true b e = inl refl
or_true false b e = inr e

nothing_sound : (a : Language) → speaks_nothing a ≡ true → Speaks a []
nothing_sound Nothing e = absurd cc
nothing_sound Empty e = refl
nothing_sound (One kind) e = absurd cc
nothing_sound (Then a b) e = let p = and_true (speaks_nothing a) (speaks_nothing b) e in
    ([], [], refl, nothing_sound a p.0, nothing_sound b p.1)
nothing_sound (Either a b) e = elim (or_true (speaks_nothing a) (speaks_nothing b) e) [
  | inl x ↦ inl (nothing_sound a x)
  | inr x ↦ inr (nothing_sound b x)
]
nothing_sound (Many a) e = none [] refl

one_sound : (k kind : ℕ) (word : List ℕ) (b : Bool) → eqb kind k ≡ b
    → Speaks (elim b as (λ (x : Bool). Language) [ true ↦ Empty | false ↦ Nothing ]) word → (k ∷ word) ≡ kind ∷ []
one_sound k kind word true e h = let q : kind ≡ k = eqb-true kind k e in cc
one_sound k kind word false e h = absurd h

first_sound : (k : ℕ) (a b : Language) (word : List ℕ) (da : Language) → ((w : List ℕ) → Speaks da w → Speaks a (k ∷ w))
    → Speaks (then da b) word → Speaks (Then a b) (k ∷ word)
first_sound k a b word da sa h =
    let t = then_speaks da b word h in
    (k ∷ t.0, t.1, ap (λ (w : List ℕ). k ∷ w) t.2, sa t.0 t.3, t.4)

seq_sound : (k : ℕ) (a b : Language) (word : List ℕ) (da db : Language)
    → ((w : List ℕ) → Speaks da w → Speaks a (k ∷ w)) → ((w : List ℕ) → Speaks db w → Speaks b (k ∷ w))
    → (n : Bool) → speaks_nothing a ≡ n
    → Speaks (elim n as (λ (x : Bool). Language) [ true ↦ either (then da b) db | false ↦ then da b ]) word
    → Speaks (Then a b) (k ∷ word)
seq_sound k a b word da db sa sb true e h = elim (either_speaks (then da b) db word h) [
  | inl x ↦ first_sound k a b word da sa x
  | inr x ↦ ([], k ∷ word, refl, nothing_sound a e, sb word x)
]
seq_sound k a b word da db sa sb false e h = first_sound k a b word da sa h

pub after_sound : (k : ℕ) (a : Language) (word : List ℕ) → Speaks (after k a) word → Speaks a (k ∷ word)
after_sound k Nothing word h = absurd h
after_sound k Empty word h = absurd h
after_sound k (One kind) word h = one_sound k kind word (eqb kind k) refl h
after_sound k (Then a b) word h = seq_sound k a b word (after k a) (after k b) (after_sound k a) (after_sound k b)
    (speaks_nothing a) refl h
after_sound k (Either a b) word h =
    elim (either_speaks (after k a) (after k b) word h) [
      | inl x ↦ inl (after_sound k a word x)
      | inr x ↦ inr (after_sound k b word x)
    ]
after_sound k (Many a) word h =
    let t = then_speaks (after k a) (Many a) word h in
    more (k ∷ word) (k ∷ t.0) t.1 (ap (λ (w : List ℕ). k ∷ w) t.2) (after_sound k a t.0 t.3) t.4

pub all_sound : (ks : List ℕ) (a : Language) → speaks_nothing (after_all ks a) ≡ true → Speaks a ks
all_sound [] a e = nothing_sound a e
all_sound (k ∷ ks) a e = after_sound k a ks (all_sound ks (after k a) e)

-- ---- and the other way

speaks_then : (a b : Language) (word : List ℕ) → Speaks (Then a b) word → Speaks (then a b) word
speaks_then Nothing b word h = absurd h.3
speaks_then Empty b word h = let e : word ≡ h.1 = h.2 ∙ ap (λ (f : List ℕ). f ++ h.1) h.3 in
    subst (Speaks b) (sym e) h.4
speaks_then (One kind) b word h = h
speaks_then (Then a c) b word h = h
speaks_then (Either a c) b word h = h
speaks_then (Many a) b word h = h

speaks_join : (a b : Language) (word : List ℕ) → Speaks a word ⊎ Speaks b word → Speaks (join a b) word
speaks_join a Nothing word (inl h) = h
speaks_join a Nothing word (inr h) = absurd h
speaks_join a Empty word h = h
speaks_join a (One kind) word h = h
speaks_join a (Then b c) word h = h
speaks_join a (Either b c) word h = h
speaks_join a (Many b) word h = h

speaks_either : (a b : Language) (word : List ℕ) → Speaks a word ⊎ Speaks b word → Speaks (either a b) word
speaks_either Nothing b word (inl h) = absurd h
speaks_either Nothing b word (inr h) = h
speaks_either Empty b word h = speaks_join Empty b word h
speaks_either (One kind) b word h = speaks_join (One kind) b word h
speaks_either (Then a c) b word h = speaks_join (Then a c) b word h
speaks_either (Either a c) b word h = speaks_join (Either a c) b word h
speaks_either (Many a) b word h = speaks_join (Many a) b word h

nil_parts : (a b : List ℕ) → [] ≡ a ++ b → ([] ≡ a) × ([] ≡ b)
nil_parts [] b e = (refl, e)
nil_parts (x ∷ a) b e = absurd cc

both : (a b : Bool) → a ≡ true → b ≡ true → (a && b) ≡ true
both true true p q = refl
both true false p q = absurd cc
both false b p q = absurd cc

some_left : (a b : Bool) → a ≡ true → (a || b) ≡ true
some_left true b p = refl
some_left false b p = absurd cc

some_right : (a b : Bool) → b ≡ true → (a || b) ≡ true
some_right true b p = refl
some_right false b p = p

nothing_complete : (a : Language) → Speaks a [] → speaks_nothing a ≡ true
nothing_complete Nothing h = absurd h
nothing_complete Empty h = refl
nothing_complete (One kind) h = absurd cc
nothing_complete (Then a b) h =
    let p = nil_parts h.0 h.1 h.2 in
    both (speaks_nothing a) (speaks_nothing b) (nothing_complete a (subst (Speaks a) (sym p.0) h.3))
    (nothing_complete b (subst (Speaks b) (sym p.1) h.4))
nothing_complete (Either a b) (inl h) = some_left (speaks_nothing a) (speaks_nothing b) (nothing_complete a h)
nothing_complete (Either a b) (inr h) = some_right (speaks_nothing a) (speaks_nothing b) (nothing_complete b h)
nothing_complete (Many a) h = refl

one_complete : (k kind : ℕ) (word : List ℕ) (b : Bool) → eqb kind k ≡ b → (k ∷ word) ≡ kind ∷ []
    → Speaks (elim b as (λ (x : Bool). Language) [ true ↦ Empty | false ↦ Nothing ]) word
one_complete k kind word true e h = cc
one_complete k kind word false e h = absurd
    (let q : kind ≡ k = cc in let r : eqb kind k ≡ true = grind (arith, nat_tests) in cc)

seq_complete : (k : ℕ) (a b : Language) (word front rest : List ℕ) (da db : Language)
    → ((w : List ℕ) → Speaks a (k ∷ w) → Speaks da w) → ((w : List ℕ) → Speaks b (k ∷ w) → Speaks db w)
    → (n : Bool) → speaks_nothing a ≡ n → (k ∷ word) ≡ front ++ rest → Speaks a front → Speaks b rest
    → Speaks (elim n as (λ (x : Bool). Language) [ true ↦ either (then da b) db | false ↦ then da b ]) word
seq_complete k a b word [] rest da db sa sb true e q ha hb = speaks_either (then da b) db word
    (inr (sb word (subst (Speaks b) (sym q) hb)))
seq_complete k a b word [] rest da db sa sb false e q ha hb = absurd (let r = nothing_complete a ha in cc)
seq_complete k a b word (x ∷ front) rest da db sa sb true e q ha hb =
    let same : x ≡ k = cc in let w : word ≡ front ++ rest = cc in
    speaks_either (then da b) db word
    (inl (speaks_then da b word (front, rest, w, sa front (subst (λ (y : ℕ). Speaks a (y ∷ front)) same ha), hb)))
seq_complete k a b word (x ∷ front) rest da db sa sb false e q ha hb =
    let same : x ≡ k = cc in let w : word ≡ front ++ rest = cc in
    speaks_then da b word (front, rest, w, sa front (subst (λ (y : ℕ). Speaks a (y ∷ front)) same ha), hb)

many_complete : (k : ℕ) (a : Language) (word whole : List ℕ) (da : Language)
    → ((w : List ℕ) → Speaks a (k ∷ w) → Speaks da w) → (k ∷ word) ≡ whole → Repeats (Speaks a) whole
    → Speaks (then da (Many a)) word
many_complete k a word whole da sa q (none w e) = absurd cc
many_complete k a word whole da sa q (more w [] rest e h r) = many_complete k a word rest da sa (q ∙ e) r
many_complete k a word whole da sa q (more w (x ∷ front) rest e h r) =
    let same : x ≡ k = cc in let v : word ≡ front ++ rest = cc in
    speaks_then da (Many a) word (front, rest, v, sa front (subst (λ (y : ℕ). Speaks a (y ∷ front)) same h), r)

after_complete : (k : ℕ) (a : Language) (word : List ℕ) → Speaks a (k ∷ word) → Speaks (after k a) word
after_complete k Nothing word h = absurd h
after_complete k Empty word h = absurd cc
after_complete k (One kind) word h = one_complete k kind word (eqb kind k) refl h
after_complete k (Then a b) word h = seq_complete k a b word h.0 h.1 (after k a) (after k b) (after_complete k a)
    (after_complete k b) (speaks_nothing a) refl h.2 h.3 h.4
after_complete k (Either a b) word (inl h) = speaks_either (after k a) (after k b) word
    (inl (after_complete k a word h))
after_complete k (Either a b) word (inr h) = speaks_either (after k a) (after k b) word
    (inr (after_complete k b word h))
after_complete k (Many a) word h = many_complete k a word (k ∷ word) (after k a) (after_complete k a) refl h

-- the words that go on from these kinds
pub all_complete : (ks more' : List ℕ) (a : Language) → Speaks a (ks ++ more') → Speaks (after_all ks a) more'
all_complete [] more' a h = h
all_complete (k ∷ ks) more' a h = all_complete ks more' (after k a) (after_complete k a (ks ++ more') h)

pub goes_on : (ks more' : List ℕ) (a : Language) → Speaks (after_all ks a) more' → Speaks a (ks ++ more')
goes_on [] more' a h = h
goes_on (k ∷ ks) more' a h = after_sound k a (ks ++ more') (goes_on ks more' (after k a) h)
