-- Numbers of names, as they are added one by one.
use Rattle.std.proofs.Common.{◌≡◌, ℕ, suc, ◌+◌, List, [], ◌∷◌, ◌++◌, length, arith, Bool, true, false, not, cond}
use Rattle.std.proofs.Common.{Option, Some, None, Bor, refl, sym, ap, ◌∙◌}
use Rattle.std.specs.Prelude.{is_some, nat_lt}
use Rattle.std.specs.List.{position, position_or_len}
use Rattle.std.specs.Str.{bytes_eq}
use Rattle.std.specs.Map.{lookup}
use Rattle.std.proofs.lemmas.Bool.{lt-ltb}
use Rattle.std.proofs.lemmas.Slice.Eq.{bytes_eq-Decides}
use Rattle.std.proofs.lemmas.Bool.Decides.{same_from_decides}
use Rattle.blif_flat.specs.Code.Numbering.{number_in, number_or, IsNumbering}

abbrev pub next : Option ℕ → Option ℕ
next (Some n) = Some (suc n)
next None = None

-- the first place, item by item
pub position_cons : {X : Type 0} (p : X → Bool) (x : X) (xs : List X)
    → position p (x ∷ xs) ≡ elim (p x) as (λ (b : Bool). Option ℕ) [ true ↦ Some 0 | false ↦ next (position p xs) ]
position_cons {X = X} p x xs = turn (p x) (position_or_len p xs) (length xs)
  where
    shifted : (b : Bool) (n : ℕ) → cond b (Some (1 + n)) None ≡ next (cond b (Some n) None)
    shifted true n = let s : 1 + n ≡ suc n = omega arith in ap (λ k. Some k) s
    shifted false n = refl

    turn : (b : Bool) (n m : ℕ) → cond (nat_lt (cond (not b) (1 + n) 0) (suc m)) (Some (cond (not b) (1 + n) 0)) None
        ≡ elim b as (λ (x : Bool). Option ℕ) [ true ↦ Some 0 | false ↦ next (cond (nat_lt n m) (Some n) None) ]
    turn true n m = let s : nat_lt 0 (suc m) ≡ true = lt-ltb 0 (suc m) (omega arith) in ap (λ b. cond b (Some 0) None) s
    turn false n m = (let s : nat_lt (1 + n) (suc m) ≡ nat_lt n m =
        grind arith in ap (λ b. cond b (Some (1 + n)) None) s) ∙ shifted (nat_lt n m) n

next_or : (o : Option ℕ) (b : Bool) (k : ℕ) → next (number_or o b k) ≡ number_or (next o) b (suc k)
next_or (Some n) b k = refl
next_or None true k = refl
next_or None false k = refl

pub position_push : {X : Type 0} (p : X → Bool) (xs : List X) (y : X)
    → position p (xs ++ y ∷ []) ≡ number_or (position p xs) (p y) (length xs)
position_push p [] y = position_cons p y [] ∙ last (p y)
  where
    last : (b : Bool) → elim b as (λ (x : Bool). Option ℕ) [ true ↦ Some 0 | false ↦ None ] ≡ number_or None b 0
    last true = refl
    last false = refl
position_push p (x ∷ xs) y =
    position_cons p x (xs ++ y ∷ []) ∙ turn (p x) (position p (xs ++ y ∷ [])) (position p xs) (position_push p xs y)
    ∙ ap (λ o. number_or o (p y) (suc (length xs))) (sym (position_cons p x xs))
  where
    turn : (b : Bool) (f g : Option ℕ) → f ≡ number_or g (p y) (length xs)
        → (elim b as (λ (z : Bool). Option ℕ) [ true ↦ Some 0 | false ↦ next f ]) ≡ number_or
        (elim b as (λ (z : Bool). Option ℕ) [ true ↦ Some 0 | false ↦ next g ]) (p y) (suc (length xs))
    turn true f g e = refl
    turn false f g e = ap next e ∙ next_or g (p y) (length xs)

-- the numbers of some items, and of one more
pub numbered_more : {X : Type 0} (fits : List ℕ → X → Bool) (old new : List (Bor (List ℕ) × ℕ)) (xs : List X) (x : X)
    (number : ℕ) → IsNumbering fits old xs → number ≡ length xs
    → ((t : List ℕ) → number_in new t ≡ number_or (number_in old t) (fits t x) number)
    → IsNumbering fits new (xs ++ x ∷ [])
numbered_more fits old new xs x number is size h t =
    h t ∙ ap (λ o. number_or o (fits t x) number) (is t) ∙ ap (number_or (position (fits t) xs) (fits t x)) size
    ∙ sym (position_push (fits t) xs x)

-- ---- one entry more

put_there : (b : Bool) (o : Option ℕ) (number : ℕ) → (b ≡ true → o ≡ None)
    → cond b (Some number) o ≡ number_or o b number
put_there true (Some n) number h = absurd (let e = h refl in cc)
put_there true None number h = refl
put_there false (Some n) number h = refl
put_there false None number h = refl

pub bytes_same : (x y : List ℕ) → bytes_eq x y ≡ true → x ≡ y
bytes_same x y e = (bytes_eq-Decides x y).0 e

pub bytes_back : (x y : List ℕ) → bytes_eq x y ≡ bytes_eq y x
bytes_back x y = same_from_decides (bytes_eq x y) (bytes_eq y x)
    (λ e. sym (bytes_same x y e), λ e. (bytes_eq-Decides x y).1 (sym e)) (bytes_eq-Decides y x)

pub added_number : (old new : List (Bor (List ℕ) × ℕ)) (name : Bor (List ℕ)) (number : ℕ)
    → number_in old name.now ≡ None
    → ((q : Bor (List ℕ)) → lookup (λ k. bytes_eq q.now k.now) new ≡ cond (bytes_eq name.now q.now) (Some number)
    (lookup (λ k. bytes_eq q.now k.now) old))
    → (t : List ℕ) → number_in new t ≡ number_or (number_in old t) (bytes_eq name.now t) number
added_number old new name number none updates t =
    updates (record name { now = t })
    ∙ put_there (bytes_eq name.now t) (number_in old t) number
    (λ e. ap (λ (x : List ℕ). number_in old x) (sym (bytes_same name.now t e)) ∙ none)

pub none_of : (o : Option ℕ) → is_some o ≡ false → o ≡ None
none_of (Some n) e = absurd cc
none_of None e = refl
