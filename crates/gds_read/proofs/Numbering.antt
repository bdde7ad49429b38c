-- Numbers of names, as they are added one by one.
use Rattle.std.proofs.Common.{◌≡◌, ℕ, suc, ◌+◌, ◌<◌, ◌^◌, List, [], ◌∷◌, ◌++◌, map, take, length, subst, arith, Bool}
use Rattle.std.proofs.Common.{true, false, cond, ◌||◌, Option, Some, None, Bor, refl, sym, ap, ◌∙◌}
use Rattle.std.specs.Prelude.{is_some, slice_index_or}
use Rattle.std.proofs.lemmas.List.{map-append, length-append, length-map, length-take}
use Rattle.std.specs.Str.{bytes_eq}
use Rattle.std.specs.Map.{lookup}
use Rattle.gds_records.specs.Records.{same}
use Rattle.gds_records.specs.Drawing.{place_of}
use Rattle.gds_records.specs.Steps.{is_listed}
use Rattle.gds_records.specs.Whole.{Use, Outline, is_defined, unknown}
use Rattle.gds_read.specs.declared.outline.NamedOutline.{NamedOutline}
use Rattle.gds_read.specs.Code.Outlining.{outline_of}
use Rattle.gds_read.specs.Code.Numbering.{number_in, first_place, IsNumbering, number_or, unnumbered}
use Rattle.gds_read.proofs.Items.{one_more}
use Rattle.gds_read.proofs.Named.{same_back, bytes_same}

abbrev next : Option ℕ → Option ℕ
next (Some n) = Some (suc n)
next None = None

-- the first place, name by name
abbrev found : List ℕ → List (List ℕ) → Option ℕ
found t [] = None
found t (n ∷ ns) = elim (same t n) [ true ↦ Some 0 | false ↦ next (found t ns) ]

found_so : (t : List ℕ) (ns : List (List ℕ)) → first_place t ns ≡ found t ns
found_so t [] = refl
found_so t (n ∷ ns) = turn (same t n) (is_listed t ns) (place_of t ns) (found t ns) (found_so t ns)
  where
    turn : (b l : Bool) (p : ℕ) (f : Option ℕ)
        → (elim l as (λ (x : Bool). Option ℕ) [ true ↦ Some p | false ↦ None ]) ≡ f
        → (elim (b || l) as (λ (x : Bool). Option ℕ) [
          | true ↦ Some
              (elim b as (λ (x : Bool). ℕ) [ true ↦ 0 | false ↦ suc p ])
          | false ↦ None
        ]) ≡ (elim b as (λ (x : Bool). Option ℕ) [ true ↦ Some 0 | false ↦ next f ])
    turn true l p f e = refl
    turn false true p f e = ap (λ (x : Option ℕ). next x) e
    turn false false p f e = ap (λ (x : Option ℕ). next x) e

next_or : (o : Option ℕ) (b : Bool) (k : ℕ) → next (number_or o b k) ≡ number_or (next o) b (suc k)
next_or (Some n) b k = refl
next_or None true k = refl
next_or None false k = refl

found_more : (t : List ℕ) (ns : List (List ℕ)) (n : List ℕ)
    → found t (ns ++ n ∷ []) ≡ number_or (found t ns) (same t n) (length ns)
found_more t [] n = last (same t n)
  where
    last : (b : Bool) → (elim b as (λ (x : Bool). Option ℕ) [ true ↦ Some 0 | false ↦ None ]) ≡ number_or None b 0
    last true = refl
    last false = refl
found_more t (x ∷ ns) n = turn (same t x) (found t (ns ++ n ∷ [])) (found t ns) (found_more t ns n)
  where
    turn : (b : Bool) (f g : Option ℕ) → f ≡ number_or g (same t n) (length ns)
        → (elim b as (λ (x : Bool). Option ℕ) [ true ↦ Some 0 | false ↦ next f ]) ≡ number_or
        (elim b as (λ (x : Bool). Option ℕ) [ true ↦ Some 0 | false ↦ next g ]) (same t n) (suc (length ns))
    turn true f g e = refl
    turn false f g e = ap (λ (x : Option ℕ). next x) e ∙ next_or g (same t n) (length ns)

-- the numbers of some names, and of one more
pub numbered_more : (old new : List (Bor (List ℕ) × ℕ)) (names : List (List ℕ)) (name : List ℕ)
    → length (names ++ name ∷ []) < 2 ^ 32 → IsNumbering old names
    → ((t : List ℕ) → number_in new t ≡ number_or (number_in old t) (bytes_eq name t) (length names))
    → IsNumbering new (names ++ name ∷ [])
numbered_more old new names name few i h = record {
  few = few;
  each = λ t. h t ∙ ap (λ (x : Option ℕ). number_or x (bytes_eq name t) (length names)) (i.each t ∙ found_so t names)
      ∙ ap (λ (b : Bool). number_or (found t names) b (length names)) (sym (same_back t name))
      ∙ sym (found_more t names name) ∙ sym (found_so t (names ++ name ∷ []));
}

-- the same, over structures in outline
pub numbered_at : (ss : List NamedOutline) (i : ℕ) (s : NamedOutline) (old new : List (Bor (List ℕ) × ℕ)) (number : ℕ)
    → length ss < 2 ^ 32 → i < length ss → s ≡ slice_index_or ss i s → number ≡ i
    → IsNumbering old (map (λ o. o.name) (map outline_of (take i ss)))
    → ((t : List ℕ) → number_in new t ≡ number_or (number_in old t) (bytes_eq s.name.now t) number)
    → IsNumbering new (map (λ o. o.name) (map outline_of (take (i + 1) ss)))
numbered_at ss i s old new number low h q n is add =
    let names : List (List ℕ) = map (λ o. o.name) (map outline_of (take i ss)) in
    let size : number ≡ length names = n
    ∙ sym
    (omega (
      arith,
      length-map (map outline_of (take i ss)) (λ (o : Outline). o.name),
      length-map
          (take i ss) outline_of,
      length-take i ss,
    )) in
    let more : names ++ s.name.now ∷ [] ≡ map (λ o. o.name) (map outline_of (take (i + 1) ss)) =
    sym (ap (λ (x : List NamedOutline). map (λ o. o.name) (map outline_of x)) (one_more ss i s h q)
    ∙ ap (λ (x : List Outline). map (λ o. o.name) x) (map-append outline_of (take i ss) (s ∷ []))
    ∙ map-append (λ o. o.name) (map outline_of (take i ss)) (outline_of s ∷ [])) in
    let few : length (names ++ s.name.now ∷ []) < 2 ^ 32 = omega
    (arith, length-append names (s.name.now ∷ []), size, n, h, low) in
    subst (λ (x : List (List ℕ)). IsNumbering new x) more
    (numbered_more old new names s.name.now few is
    (λ t. add t ∙ ap (λ (k : ℕ). number_or (number_in old t) (bytes_eq s.name.now t) k) size))

-- ---- one entry more

put_there : (b : Bool) (o : Option ℕ) (number : ℕ) → (b ≡ true → o ≡ None)
    → cond b (Some number) o ≡ number_or o b number
put_there true (Some n) number h = absurd (let e = h refl in cc)
put_there true None number h = refl
put_there false (Some n) number h = refl
put_there false None number h = refl

kept_there : (b : Bool) (o : Option ℕ) (number n : ℕ) → (b ≡ true → o ≡ Some n) → o ≡ number_or o b number
kept_there b (Some m) number n h = refl
kept_there true None number n h = absurd (let e = h refl in cc)
kept_there false None number n h = refl

pub added_number : (old new : List (Bor (List ℕ) × ℕ)) (name : Bor (List ℕ)) (number : ℕ)
    → number_in old name.now ≡ None
    → ((q : Bor (List ℕ)) → lookup (λ k. bytes_eq q.now k.now) new ≡ cond (bytes_eq name.now q.now) (Some number)
    (lookup (λ k. bytes_eq q.now k.now) old))
    → (t : List ℕ) → number_in new t ≡ number_or (number_in old t) (bytes_eq name.now t) number
added_number old new name number none updates t =
    updates (record name { now = t })
    ∙ put_there (bytes_eq name.now t) (number_in old t) number
    (λ e. ap (λ (x : List ℕ). number_in old x) (sym (bytes_same name.now t e)) ∙ none)

pub kept_number : (old : List (Bor (List ℕ) × ℕ)) (name : List ℕ) (number n : ℕ) → number_in old name ≡ Some n
    → (t : List ℕ) → number_in old t ≡ number_or (number_in old t) (bytes_eq name t) number
kept_number old name number n some t =
    kept_there (bytes_eq name t) (number_in old t) number n
    (λ e. ap (λ (x : List ℕ). number_in old x) (sym (bytes_same name t e)) ∙ some)

pub none_of : (o : Option ℕ) → is_some o ≡ false → o ≡ None
none_of (Some n) e = absurd cc
none_of None e = refl

pub kept_some : (old : List (Bor (List ℕ) × ℕ)) (name : List ℕ) (number : ℕ) (o : Option ℕ) → o ≡ number_in old name
    → is_some o ≡ true
    → (t : List ℕ) → number_in old t ≡ number_or (number_in old t) (bytes_eq name t) number
kept_some old name number (Some n) e s = kept_number old name number n (sym e)
kept_some old name number None e s = absurd cc

-- ---- what is unknown

pub defined_listed : (t : List ℕ) (ss : List Outline) → is_defined t ss ≡ is_listed t (map (λ s. s.name) ss)
defined_listed t [] = refl
defined_listed t (s ∷ ss) = ap (λ (b : Bool). same t s.name || b) (defined_listed t ss)

pub unknown_so : (f : List ℕ → Option ℕ) (ss : List Outline)
    → ((t : List ℕ) → f t ≡ first_place t (map (λ s. s.name) ss)) → (us : List Use) → unknown us ss ≡ unnumbered f us
unknown_so f ss h [] = refl
unknown_so f ss h (u ∷ us) =
    turn (is_defined u.name ss) (is_listed u.name (map (λ s. s.name) ss)) (place_of u.name (map (λ s. s.name) ss))
    (f u.name) (unknown us ss) (unnumbered f us) (defined_listed u.name ss) (h u.name) (unknown_so f ss h us)
  where
    turn : (d l : Bool) (p : ℕ) (o a b : Option ℕ) → d ≡ l
        → o ≡ (elim l as (λ (x : Bool). Option ℕ) [ true ↦ Some p | false ↦ None ]) → a ≡ b
        → (elim d as (λ (x : Bool). Option ℕ) [
          | true ↦ a
          | false ↦ Some u.place
        ]) ≡ (elim o as (λ (x : Option ℕ). Option ℕ) [ Some n ↦ b | None ↦ Some u.place ])
    turn true true p (Some n) a b e f g = g
    turn true true p None a b e f g = absurd cc
    turn false false p (Some n) a b e f g = absurd cc
    turn false false p None a b e f g = refl
    turn true false p o a b e f g = absurd cc
    turn false true p o a b e f g = absurd cc
