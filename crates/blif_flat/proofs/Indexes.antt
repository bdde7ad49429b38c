-- Indexes of names, and names that are looked up in them.
use Rattle.std.proofs.Common.{◌≡◌, ℕ, ◌+◌, ◌<◌, ◌||◌, ◌&&◌, Bool, true, false, not, cond, List, [], ◌∷◌, ◌++◌, map}
use Rattle.std.proofs.Common.{take, drop, get_or, length, Bor, refl, sym, ap, ◌∙◌, append_assoc, drop-cons, add-one}
use Rattle.std.specs.List.{list_any, list_all, IsDistinct}
use Rattle.std.proofs.lemmas.List.{take_more, map-append}
use Rattle.std.proofs.lemmas.Bool.{not-true, not-false}
use Rattle.std.proofs.lemmas.Map.Keys.{IsDistinct-push}
use Rattle.std.specs.Str.{bytes_eq}
use Rattle.indexmap.specs.IndexSet.{insert_key, insert_all}
use Rattle.blif_read.specs.Parts.{is_defined}
use Rattle.blif_read.specs.Faults.{adds_again}
use Rattle.blif_read.specs.Code.Seen.{texts}
use Rattle.blif_read.specs.declared.models.Named.{Named}
use Rattle.blif_read.specs.declared.models.Port.{Port}
use Rattle.blif_read.proofs.Adding.{any_append, again_same, same_swapped}
use Rattle.blif_read.proofs.Distinct.{bytes_equiv}
use Rattle.blif_read.proofs.Tokens.{any_seen, inserted_seen}
use Rattle.blif_flat.specs.declared.models.names.Held.{Held}
use Rattle.blif_flat.specs.Designs.{names_in}
use Rattle.blif_flat.specs.Code.Indexing.{names_held}
use Rattle.blif_flat.proofs.Numbering.{bytes_same}

or_none : (a : Bool) → a || false ≡ a
or_none true = refl
or_none false = refl

-- a name that is there already adds none
kept_any : (ks : List (List ℕ)) (k q : List ℕ) (b : Bool) → bytes_eq q k ≡ b → is_defined ks k ≡ true
    → is_defined ks q ≡ is_defined ks q || b
kept_any ks k q true e on = let same : q ≡ k = bytes_same q k e in let f : is_defined ks q ≡ true =
    ap (is_defined ks) same ∙ on in rw f refl
kept_any ks k q false e on = sym (or_none (is_defined ks q))

inserted : (ks : List (List ℕ)) (k q : List ℕ) (b : Bool) → is_defined ks k ≡ b
    → is_defined (cond b ks (ks ++ k ∷ [])) q ≡ is_defined ks q || bytes_eq q k
inserted ks k q true e = kept_any ks k q (bytes_eq q k) refl e
inserted ks k q false e = any_append (bytes_eq q) ks (k ∷ []) ∙ ap (λ b. is_defined ks q || b) (or_none (bytes_eq q k))

or_assoc : (a b c : Bool) → (a || b) || c ≡ a || (b || c)
or_assoc true b c = refl
or_assoc false b c = refl

all_inserted : (ks ns : List (List ℕ)) (q : List ℕ)
    → is_defined (insert_all bytes_eq ks ns) q ≡ is_defined ks q || is_defined ns q
all_inserted ks [] q = sym (or_none (is_defined ks q))
all_inserted ks (n ∷ ns) q =
    all_inserted (insert_key bytes_eq ks n) ns q
    ∙ ap (λ b. b || is_defined ns q) (inserted ks n q (is_defined ks n) refl)
    ∙ or_assoc (is_defined ks q) (bytes_eq q n) (is_defined ns q)

-- a name is among the names of an index where it is among those that were put in
pub index_defines : (keys names : List (List ℕ)) (q : List ℕ) → keys ≡ insert_all bytes_eq [] names
    → is_defined keys q ≡ is_defined names q
index_defines keys names q e = ap (λ ks. is_defined ks q) e ∙ all_inserted [] names q

pub all_same : {X : Type 0} (p q : X → Bool) → ((x : X) → p x ≡ q x) → (xs : List X) → list_all p xs ≡ list_all q xs
all_same p q h [] = refl
all_same p q h (x ∷ xs) = ap (λ b. b && list_all p xs) (h x) ∙ ap (λ b. q x && b) (all_same p q h xs)

pub drop_item : {X : Type 0} (xs : List X) (i : ℕ) (x : X) → i < length xs → x ≡ get_or xs i x
    → drop i xs ≡ x ∷ drop (i + 1) xs
drop_item xs i x lt e = drop-cons xs i x lt ∙ ap (λ n. get_or xs i x ∷ drop n xs) (sym (add-one i))
    ∙ ap (λ y. y ∷ drop (i + 1) xs) (sym e)

-- ---- one more name that is put in

put_key : (keys : List (Bor (List ℕ))) (name : Bor (List ℕ)) (new : List (Bor (List ℕ)))
    → new ≡ insert_key (λ a b. bytes_eq a.now b.now) keys name → texts new ≡ insert_key bytes_eq (texts keys) name.now
put_key keys name new e = ap texts e ∙ inserted_seen keys name

pub next_named : (keys new : List (Bor (List ℕ))) (names : List Named) (i : ℕ) (item : Named) (name : Bor (List ℕ))
    (whole : List (List ℕ)) → i < length names → item ≡ get_or names i item → name.now ≡ item.name
    → new ≡ insert_key (λ a b. bytes_eq a.now b.now) keys name
    → insert_all bytes_eq (texts keys) (names_in (drop i names)) ≡ whole
    → insert_all bytes_eq (texts new) (names_in (drop (i + 1) names)) ≡ whole
next_named keys new names i item name whole lt is n k w =
    ap (λ ks. insert_all bytes_eq ks (names_in (drop (i + 1) names))) (put_key keys name new k
    ∙ ap (insert_key bytes_eq (texts keys)) n)
    ∙ ap (λ xs. insert_all bytes_eq (texts keys) (names_in xs)) (sym (drop_item names i item lt is)) ∙ w

-- ---- names that are held

-- names that are put in one by one differ
inserted_distinct : (b : Bool) (ks : List (List ℕ)) (k : List ℕ) → list_any (bytes_eq k) ks ≡ b
    → IsDistinct bytes_eq ks → IsDistinct bytes_eq (cond b ks (ks ++ k ∷ []))
inserted_distinct true ks k e d = d
inserted_distinct false ks k e d = IsDistinct-push bytes_equiv ks k d e

all_distinct : (ks xs : List (List ℕ)) → IsDistinct bytes_eq ks → IsDistinct bytes_eq (insert_all bytes_eq ks xs)
all_distinct ks [] d = d
all_distinct ks (x ∷ xs) d = all_distinct (insert_key bytes_eq ks x) xs
    (inserted_distinct (list_any (bytes_eq x) ks) ks x refl d)

no_distinct : IsDistinct bytes_eq []
unfolding IsDistinct
no_distinct = tt

pub held_distinct : (held : Held) (xs : List (List ℕ)) → names_held held ≡ insert_all bytes_eq [] xs
    → IsDistinct bytes_eq (names_held held)
held_distinct held xs e = rw e (all_distinct [] xs no_distinct)

-- ---- one more formal

abbrev formals_in : List Port → List (List ℕ)
formals_in ports = map (λ p. p.formal) ports

pub next_formal : (old : List (List ℕ)) (keys new : List (Bor (List ℕ))) (ports : List Port) (i : ℕ) (item : Port)
    (name : Bor (List ℕ)) (fresh whole : Bool) → i < length ports → item ≡ get_or ports i item → name.now ≡ item.formal
    → new ≡ insert_key (λ a b. bytes_eq a.now b.now) keys name
    → fresh ≡ not (list_any (λ k. bytes_eq name.now k.now) keys) → fresh ≡ true
    → texts keys ≡ old ++ map (λ p. p.formal) (take i ports)
    → adds_again (texts keys) (map (λ p. p.formal) (drop i ports)) ≡ whole
    → (texts new ≡ old ++ map (λ p. p.formal) (take (i + 1) ports))
    × (adds_again (texts new) (map (λ p. p.formal) (drop (i + 1) ports)) ≡ whole)
next_formal old keys new ports i item name fresh whole lt is n k f y e w =
    let off : is_defined (texts keys) name.now ≡ false = any_seen (bytes_eq name.now) keys ∙ not-true _ (sym f ∙ y) in
    let pushed : texts new ≡ texts keys ++ name.now ∷ [] = put_key keys name new k
    ∙ ap (λ b. cond b (texts keys) (texts keys ++ name.now ∷ [])) off in
    let more : formals_in (take (i + 1) ports) ≡ formals_in (take i ports) ++ name.now ∷ [] =
    ap formals_in (take_more ports i item lt) ∙ map-append (λ p. p.formal) (take i ports) (get_or ports i item ∷ [])
    ∙ ap (λ x. formals_in (take i ports) ++ x.formal ∷ []) (sym is)
    ∙ ap (λ x. formals_in (take i ports) ++ x ∷ []) (sym n) in
    let here : formals_in (drop i ports) ≡ name.now ∷ formals_in (drop (i + 1) ports) = ap formals_in
    (drop_item ports i item lt is) ∙ ap (λ x. x ∷ formals_in (drop (i + 1) ports)) (sym n) in (
      pushed ∙ ap (λ ks. ks ++ name.now ∷ []) e ∙ append_assoc old (formals_in (take i ports)) (name.now ∷ [])
          ∙ ap (λ x. old ++ x) (sym more),
      ap (λ ks. adds_again ks (formals_in (drop (i + 1) ports))) pushed
          ∙ again_same (texts keys ++ name.now ∷ []) (name.now ∷ texts keys) (formals_in (drop (i + 1) ports))
          (same_swapped (texts keys) (name.now ∷ []))
          ∙ ap (λ b. b || adds_again (name.now ∷ texts keys) (formals_in (drop (i + 1) ports))) (sym off)
          ∙ ap (adds_again (texts keys)) (sym here) ∙ w,
    )

pub old_formal : (keys : List (Bor (List ℕ))) (ports : List Port) (i : ℕ) (item : Port) (name : Bor (List ℕ))
    (fresh whole : Bool) → i < length ports → item ≡ get_or ports i item → name.now ≡ item.formal
    → fresh ≡ not (list_any (λ k. bytes_eq name.now k.now) keys) → fresh ≡ false
    → adds_again (texts keys) (map (λ p. p.formal) (drop i ports)) ≡ whole → true ≡ whole
old_formal keys ports i item name fresh whole lt is n f y w =
    let on : is_defined (texts keys) name.now ≡ true = any_seen (bytes_eq name.now) keys ∙ not-false _ (sym f ∙ y) in
    let here : formals_in (drop i ports) ≡ name.now ∷ formals_in (drop (i + 1) ports) = ap formals_in
    (drop_item ports i item lt is) ∙ ap (λ x. x ∷ formals_in (drop (i + 1) ports)) (sym n) in
    ap (λ b. b || adds_again (name.now ∷ texts keys) (formals_in (drop (i + 1) ports))) (sym on)
    ∙ ap (adds_again (texts keys)) (sym here) ∙ w
