-- Members of lists, lists whose members are all different, and the place of a member.
use Rattle.std.proofs.Common.{◌≡◌, ℕ, zero, suc, ◌+◌, ◌<◌, ◌⊎◌, ◌||◌, Bool, true, false, not, cond, List, [], ◌∷◌, ◌++◌}
use Rattle.std.proofs.Common.{map, length, Some, refl, sym, ap, ◌∙◌, subst, arith, inl, inr, Contains, filter, flat_map}
use Rattle.std.proofs.Common.{one-add}
use Rattle.std.specs.Prelude.{slice_get, slice_index_or}
use Rattle.std.specs.List.{list_any, position_or_len, AllByRecursion}
use Rattle.std.specs.Str.{bytes_eq}
use Rattle.std.proofs.lemmas.Bool.{cases_Bool, or_cases, true≢false}
use Rattle.std.proofs.lemmas.Slice.Eq.{bytes_eq-Decides}
use Rattle.blif_flat.proofs.Numbering.{bytes_same}
use Rattle.blif_read.proofs.Within.{all_join}

abbrev pub Among : {X : Type 0} → X → List X → Type 0
Among x [] = ⊥
Among x (y ∷ ys) = (y ≡ x) ⊎ Among x ys

abbrev pub AreApart : {X : Type 0} → List X → Type 0
AreApart [] = Unit {0}
AreApart (x ∷ xs) = AllByRecursion (λ y. x ≡ y → ⊥) xs × AreApart xs

-- ---- members of joined, mapped and filtered lists

pub among_left : {X : Type 0} (x : X) (xs ys : List X) → Among x xs → Among x (xs ++ ys)
among_left x [] ys h = absurd h
among_left x (y ∷ xs) ys (inl e) = inl e
among_left x (y ∷ xs) ys (inr h) = inr (among_left x xs ys h)

pub among_right : {X : Type 0} (x : X) (xs ys : List X) → Among x ys → Among x (xs ++ ys)
among_right x [] ys h = h
among_right x (y ∷ xs) ys h = inr (among_right x xs ys h)

pub among_parts : {X : Type 0} (x : X) (xs ys : List X) → Among x (xs ++ ys) → Among x xs ⊎ Among x ys
among_parts x [] ys h = inr h
among_parts x (y ∷ xs) ys (inl e) = inl (inl e)
among_parts x (y ∷ xs) ys (inr h) = elim (among_parts x xs ys h) [ inl a ↦ inl (inr a) | inr b ↦ inr b ]

pub among_map : {X Y : Type 0} (f : X → Y) (x : X) (xs : List X) → Among x xs → Among (f x) (map f xs)
among_map f x [] h = absurd h
among_map f x (y ∷ xs) (inl e) = inl (ap f e)
among_map f x (y ∷ xs) (inr h) = inr (among_map f x xs h)

-- a member of a mapped list, by what it is the image of
pub record IsImage {X Y : Type 0} (f : X → Y) (xs : List X) (y : Y) : Type 0 where
  pub of : X
  pub there : Among of xs
  pub is : f of ≡ y

pub image : {X Y : Type 0} (f : X → Y) (xs : List X) (y : Y) → Among y (map f xs) → IsImage f xs y
image f [] y h = absurd h
image f (x ∷ xs) y (inl e) = record { of = x; there = inl refl; is = e }
image f (x ∷ xs) y (inr h) = let more = image f xs y h in record
    { of = more.of; there = inr more.there; is = more.is }

pub among_flat : {X Y : Type 0} (f : X → List Y) (xs : List X) (x : X) (y : Y) → Among x xs → Among y (f x)
    → Among y (flat_map f xs)
among_flat f [] x y h m = absurd h
among_flat f (z ∷ xs) x y (inl e) m = among_left y (f z) (flat_map f xs) (subst (λ u. Among y (f u)) (sym e) m)
among_flat f (z ∷ xs) x y (inr h) m = among_right y (f z) (flat_map f xs) (among_flat f xs x y h m)

-- a member of one of some lists
pub record IsInOne {X Y : Type 0} (f : X → List Y) (xs : List X) (y : Y) : Type 0 where
  pub of : X
  pub there : Among of xs
  pub inside : Among y (f of)

pub in_one : {X Y : Type 0} (f : X → List Y) (xs : List X) (y : Y) → Among y (flat_map f xs) → IsInOne f xs y
in_one f [] y h = absurd h
in_one f (x ∷ xs) y h = elim (among_parts y (f x) (flat_map f xs) h) [
  | inl a ↦ record { of = x; there = inl refl; inside = a }
  | inr b ↦ let more = in_one f xs y b in record { of = more.of; there = inr more.there; inside = more.inside }
]

pub at_among : {X : Type 0} (P : X → Type 0) (xs : List X) (x : X) → AllByRecursion P xs → Among x xs → P x
at_among P [] x all h = absurd h
at_among P (y ∷ xs) x all (inl e) = subst P e all.0
at_among P (y ∷ xs) x all (inr h) = at_among P xs x all.1 h

pub all_from : {X : Type 0} (P : X → Type 0) (xs : List X) → ((x : X) → Among x xs → P x) → AllByRecursion P xs
all_from P [] each = tt
all_from P (x ∷ xs) each = (each x (inl refl), all_from P xs (λ y h. each y (inr h)))

pub all_front : {X : Type 0} (P : X → Type 0) (xs ys : List X) → AllByRecursion P (xs ++ ys) → AllByRecursion P xs
all_front P [] ys h = tt
all_front P (x ∷ xs) ys h = (h.0, all_front P xs ys h.1)

pub all_back : {X : Type 0} (P : X → Type 0) (xs ys : List X) → AllByRecursion P (xs ++ ys) → AllByRecursion P ys
all_back P [] ys h = h
all_back P (x ∷ xs) ys h = all_back P xs ys h.1

pub all_mapped : {X Y : Type 0} (P : Y → Type 0) (f : X → Y) (xs : List X) → AllByRecursion (λ x. P (f x)) xs
    → AllByRecursion P (map f xs)
all_mapped P f [] h = tt
all_mapped P f (x ∷ xs) h = (h.0, all_mapped P f xs h.1)

pub all_unmapped : {X Y : Type 0} (P : Y → Type 0) (f : X → Y) (xs : List X) → AllByRecursion P (map f xs)
    → AllByRecursion (λ x. P (f x)) xs
all_unmapped P f [] h = tt
all_unmapped P f (x ∷ xs) h = (h.0, all_unmapped P f xs h.1)

pub all_weaker : {X : Type 0} (P Q : X → Type 0) → ((x : X) → P x → Q x) → (xs : List X) → AllByRecursion P xs
    → AllByRecursion Q xs
all_weaker P Q f [] h = tt
all_weaker P Q f (x ∷ xs) h = (f x h.0, all_weaker P Q f xs h.1)

kept : {X : Type 0} (b : Bool) (x y : X) (ys : List X) → (y ≡ x) ⊎ Among x ys → (y ≡ x → b ≡ true)
    → Among x (cond b (y ∷ ys) ys)
kept true x y ys h f = h
kept false x y ys (inl e) f = absurd (true≢false (sym (f e)))
kept false x y ys (inr h) f = h

pub among_filter : {X : Type 0} (t : X → Bool) (xs : List X) (x : X) → Among x xs → t x ≡ true → Among x (filter t xs)
among_filter t [] x h e = absurd h
among_filter t (y ∷ xs) x (inl same) e = kept (t y) x y (filter t xs) (inl same) (λ s. ap t s ∙ e)
among_filter t (y ∷ xs) x (inr h) e = kept (t y) x y (filter t xs) (inr (among_filter t xs x h e)) (λ s. ap t s ∙ e)

-- a member that passed a filter
pub record Passes {X : Type 0} (t : X → Bool) (xs : List X) (x : X) : Type 0 where
  pub there : Among x xs
  pub test : t x ≡ true

passed : {X : Type 0} (t : X → Bool) (x y : X) (ys zs : List X) (b : Bool) → t y ≡ b
    → (Among x zs → Passes t ys x) → Among x (cond b (y ∷ zs) zs) → Passes t (y ∷ ys) x
passed t x y ys zs true e more (inl same) = record { there = inl same; test = ap t (sym same) ∙ e }
passed t x y ys zs true e more (inr h) = let is = more h in record { there = inr is.there; test = is.test }
passed t x y ys zs false e more h = let is = more h in record { there = inr is.there; test = is.test }

pub passes : {X : Type 0} (t : X → Bool) (xs : List X) (x : X) → Among x (filter t xs) → Passes t xs x
passes t [] x h = absurd h
passes t (y ∷ xs) x h = passed t x y xs (filter t xs) (t y) refl (passes t xs x) h

-- ---- names

pub same_bytes : (a b : List ℕ) → a ≡ b → bytes_eq a b ≡ true
same_bytes a b e = (bytes_eq-Decides a b).1 e

pub other_bytes : (a b : List ℕ) → (a ≡ b → ⊥) → bytes_eq a b ≡ false
other_bytes a b n = elim (cases_Bool (bytes_eq a b)) [ inl e ↦ absurd (n (bytes_same a b e)) | inr e ↦ e ]

pub among_any : (names : List (List ℕ)) (name : List ℕ) → list_any (bytes_eq name) names ≡ true → Among name names
among_any [] name e = absurd (true≢false (sym e))
among_any (n ∷ ns) name e = elim (or_cases (bytes_eq name n) (list_any (bytes_eq name) ns) e) [
  | inl same ↦ inl (sym (bytes_same name n same))
  | inr more ↦ inr (among_any ns name more)
]

or_right : (a : Bool) → a || true ≡ true
or_right true = refl
or_right false = refl

pub any_among : (names : List (List ℕ)) (name : List ℕ) → Among name names → list_any (bytes_eq name) names ≡ true
any_among [] name h = absurd h
any_among (n ∷ ns) name (inl e) = ap (λ b. b || list_any (bytes_eq name) ns) (same_bytes name n (sym e))
any_among (n ∷ ns) name (inr h) = ap (λ b. bytes_eq name n || b) (any_among ns name h) ∙ or_right (bytes_eq name n)

-- ---- lists whose members differ

pub apart_join : {X : Type 0} (xs ys : List X) → AreApart xs → AreApart ys
    → ((x y : X) → Among x xs → Among y ys → x ≡ y → ⊥) → AreApart (xs ++ ys)
apart_join [] ys a b off = b
apart_join (x ∷ xs) ys a b off = (
  all_join (λ y. x ≡ y → ⊥) xs ys a.0 (all_from (λ y. x ≡ y → ⊥) ys (λ y h. off x y (inl refl) h)),
  apart_join xs ys a.1 b (λ u v h k. off u v (inr h) k),
)

pub apart_front : {X : Type 0} (xs ys : List X) → AreApart (xs ++ ys) → AreApart xs
apart_front [] ys a = tt
apart_front (x ∷ xs) ys a = (all_front (λ y. x ≡ y → ⊥) xs ys a.0, apart_front xs ys a.1)

pub apart_back : {X : Type 0} (xs ys : List X) → AreApart (xs ++ ys) → AreApart ys
apart_back [] ys a = a
apart_back (x ∷ xs) ys a = apart_back xs ys a.1

pub apart_across : {X : Type 0} (xs ys : List X) (x : X) → AreApart (xs ++ ys) → Among x xs → Among x ys → ⊥
apart_across [] ys x a h k = h
apart_across (z ∷ xs) ys x a (inl e) k = at_among (λ y. z ≡ y → ⊥) (xs ++ ys) x a.0 (among_right x xs ys k) e
apart_across (z ∷ xs) ys x a (inr h) k = apart_across xs ys x a.1 h k

pub apart_map : {X Y : Type 0} (f : X → Y) (xs : List X) → ((x y : X) → Among x xs → Among y xs → f x ≡ f y → x ≡ y)
    → AreApart xs → AreApart (map f xs)
apart_map f [] same a = tt
apart_map f (x ∷ xs) same a = (
  all_mapped (λ y. f x ≡ y → ⊥) f xs
      (all_from (λ y. f x ≡ f y → ⊥) xs
      (λ y h e. at_among (λ z. x ≡ z → ⊥) xs y a.0 h (same x y (inl refl) (inr h) e))),
  apart_map f xs (λ u v h k. same u v (inr h) (inr k)) a.1,
)

apart_cond : {X : Type 0} (b : Bool) (x : X) (xs : List X) → AllByRecursion (λ y. x ≡ y → ⊥) xs → AreApart xs
    → AreApart (cond b (x ∷ xs) xs)
apart_cond true x xs h a = (h, a)
apart_cond false x xs h a = a

pub apart_filter : {X : Type 0} (t : X → Bool) (xs : List X) → AreApart xs → AreApart (filter t xs)
apart_filter t [] a = tt
apart_filter t (x ∷ xs) a = apart_cond (t x) x (filter t xs)
    (all_from (λ y. x ≡ y → ⊥) (filter t xs)
    (λ y h. at_among (λ z. x ≡ z → ⊥) xs y a.0 (passes t xs y h).there))
    (apart_filter t xs a.1)

-- images of members at two places differ, so members with one image are one
pub one_image : {X Y : Type 0} (f : X → Y) (xs : List X) (x y : X) → AreApart (map f xs) → Among x xs → Among y xs
    → f x ≡ f y → x ≡ y
one_image f [] x y a h k e = absurd h
one_image f (z ∷ xs) x y a (inl p) (inl q) e = sym p ∙ q
one_image f (z ∷ xs) x y a (inl p) (inr k) e = absurd (at_among (λ u. f z ≡ u → ⊥) (map f xs) (f y) a.0
    (among_map f y xs k) (ap f p ∙ e))
one_image f (z ∷ xs) x y a (inr h) (inl q) e = absurd (at_among (λ u. f z ≡ u → ⊥) (map f xs) (f x) a.0
    (among_map f x xs h) (ap f q ∙ sym e))
one_image f (z ∷ xs) x y a (inr h) (inr k) e = one_image f xs x y a.1 h k e

-- elements at two places of a list differ by what f takes from them
pub apart_from_places : {X Y : Type 0} (f : X → Y) (xs : List X)
    → ((i j : ℕ) (x y : X) → i < j → slice_get xs i ≡ Some x → slice_get xs j ≡ Some y → f x ≡ f y → ⊥)
    → AreApart (map f xs)
apart_from_places f [] differ = tt
apart_from_places f (x ∷ xs) differ = (
  all_mapped (λ y. f x ≡ y → ⊥) f xs (each xs (λ j y at. differ 0 (suc j) x y (omega arith) refl at)),
  apart_from_places f xs (λ i j u v lt at to. differ (suc i) (suc j) u v (omega arith) at to),
)
  where
    each : (ys : List _) → ((j : ℕ) (y : _) → slice_get ys j ≡ Some y → f x ≡ f y → ⊥)
        → AllByRecursion (λ y. f x ≡ f y → ⊥) ys
    each [] h = tt
    each (y ∷ ys) h = (h 0 y refl, each ys (λ j z at. h (suc j) z at))

-- ---- places

pub map_map : {X Y Z : Type 0} (g : Y → Z) (f : X → Y) (xs : List X) → map g (map f xs) ≡ map (λ x. g (f x)) xs
map_map g f [] = refl
map_map g f (x ∷ xs) = ap (λ ys. g (f x) ∷ ys) (map_map g f xs)

pub map_same : {X Y : Type 0} (f g : X → Y) (xs : List X) → AllByRecursion (λ x. f x ≡ g x) xs → map f xs ≡ map g xs
map_same f g [] h = refl
map_same f g (x ∷ xs) h = λ i. h.0 i ∷ map_same f g xs h.1 i

pub all_from_map : {X Y : Type 0} (f g : X → Y) (xs : List X) → map f xs ≡ map g xs → AllByRecursion (λ x. f x ≡ g x) xs
all_from_map f g [] e = tt
all_from_map f g (x ∷ xs) e = (cc, all_from_map f g xs (cc))

-- a test that picks x alone
pub record Picks {X : Type 0} (t : X → Bool) (x : X) : Type 0 where
  pub yes : t x ≡ true
  pub alone : (y : X) → t y ≡ true → y ≡ x

later : {X : Type 0} (t : X → Bool) (x y : X) (ys : List X) → Picks t x → t y ≡ false → Among x (y ∷ ys) → Among x ys
later t x y ys is off (inl e) = absurd (true≢false (sym is.yes ∙ (ap t (sym e) ∙ off)))
later t x y ys is off (inr h) = h

-- what stands at the first place where x is picked is x
pub at_place : {X : Type 0} (t : X → Bool) (x d : X) → Picks t x → (xs : List X) → Among x xs
    → slice_index_or xs (position_or_len t xs) d ≡ x
at_place t x d is [] h = absurd h
at_place {X = X} t x d is (y ∷ ys) h = by (t y) refl (λ m. at_place t x d is ys m)
  where
    by : (b : Bool) → t y ≡ b → (Among x ys → slice_index_or ys (position_or_len t ys) d ≡ x)
        → slice_index_or (y ∷ ys) (cond (not b) (1 + position_or_len t ys) 0) d ≡ x
    by true e more = is.alone y e
    by false e more = ap (λ n. slice_index_or (y ∷ ys) n d) (one-add (position_or_len t ys))
        ∙ more (later t x y ys is e h)

pub place_below : {X : Type 0} (t : X → Bool) (x : X) → Picks t x → (xs : List X) → Among x xs
    → position_or_len t xs < length xs
place_below t x is [] h = absurd h
place_below t x is (y ∷ ys) h = by (t y) refl (λ m. place_below t x is ys m)
  where
    by : (b : Bool) → t y ≡ b → (Among x ys → position_or_len t ys < length ys)
        → cond (not b) (1 + position_or_len t ys) 0 < suc (length ys)
    by true e more = omega arith
    by false e more = let small = more (later t x y ys is e h) in omega arith

pub there : {X : Type 0} (xs : List X) (i : ℕ) (x : X) → slice_get xs i ≡ Some x → Among x xs
there [] i x e = absurd (cc)
there (y ∷ xs) zero x e = inl (cc)
there (y ∷ xs) (suc i) x e = inr (there xs i x e)

-- in a list whose members differ the place of an element is where it stands
pub place_of : {X : Type 0} (t : X → Bool) (x : X) → Picks t x → (xs : List X) (j : ℕ) → AreApart xs
    → slice_get xs j ≡ Some x → position_or_len t xs ≡ j
place_of t x is [] j a at = absurd (cc)
place_of t x is (y ∷ ys) zero a at =
    let same : y ≡ x = cc in
    ap (λ b. cond (not b) (1 + position_or_len t ys) 0) (ap t same ∙ is.yes)
place_of t x is (y ∷ ys) (suc j) a at = by (t y) refl (place_of t x is ys j a.1 at)
  where
    by : (b : Bool) → t y ≡ b → position_or_len t ys ≡ j → cond (not b) (1 + position_or_len t ys) 0 ≡ suc j
    by true e more = absurd (at_among (λ z. y ≡ z → ⊥) ys x a.0 (there ys j x at) (is.alone y e))
    by false e more = one-add (position_or_len t ys) ∙ ap suc more

pub picks_name : (name : List ℕ) → Picks (bytes_eq name) name
picks_name name = record { yes = same_bytes name name refl; alone = λ y e. sym (bytes_same name y e) }

pub contained : {X : Type 0} (xs : List X) (x : X) → Among x xs → Contains xs x
contained [] x h = absurd h
contained (y ∷ xs) x (inl e) = (0, omega arith, e)
contained (y ∷ xs) x (inr h) = let more = contained xs x h in (suc more.0, omega (arith, more.1), more.2)
