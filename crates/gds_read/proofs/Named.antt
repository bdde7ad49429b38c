-- Names among parts of the bytes.
use Rattle.std.proofs.Common.{◌≡◌, ℕ, List, [], ◌∷◌, ◌++◌, map, Bool, true, false, cond, ◌||◌, Bor, refl, sym, ap}
use Rattle.std.proofs.Common.{◌∙◌}
use Rattle.std.specs.List.{list_any}
use Rattle.std.specs.Str.{bytes_eq}
use Rattle.indexmap.specs.IndexSet.{insert_key}
use Rattle.std.proofs.lemmas.List.{map-append}
use Rattle.std.proofs.lemmas.Slice.Eq.{bytes_eq-Decides}
use Rattle.std.proofs.lemmas.Bool.Decides.{same_from_decides}
use Rattle.gds_records.proofs.Wider.{same_so}
use Rattle.gds_records.proofs.Tree.{same_refl}
use Rattle.gds_records.specs.Records.{same}
use Rattle.gds_records.specs.Steps.{is_listed}

any_seen : (p : List ℕ → Bool) (parts : List (Bor (List ℕ)))
    → list_any p (map (λ t. t.now) parts) ≡ list_any (λ t. p t.now) parts
any_seen p [] = refl
any_seen p (t ∷ ts) = ap (λ b. p t.now || b) (any_seen p ts)

pub inserted : (keys : List (Bor (List ℕ))) (name : Bor (List ℕ))
    → map (λ t. t.now) (insert_key (λ a b. bytes_eq a.now b.now) keys name) ≡ insert_key bytes_eq
    (map (λ t. t.now) keys) name.now
inserted keys name = at (list_any (λ t. bytes_eq name.now t.now) keys)
    ∙ ap (λ b. cond b (map (λ t. t.now) keys) (map (λ t. t.now) keys ++ name.now ∷ []))
    (sym (any_seen (bytes_eq name.now) keys))
  where
    at : (b : Bool) → map (λ t. t.now) (cond b keys (keys ++ name ∷ [])) ≡ cond b (map (λ t. t.now) keys)
        (map (λ t. t.now) keys ++ name.now ∷ [])
    at true = refl
    at false = map-append (λ t. t.now) keys (name ∷ [])

same_of : (x y : List ℕ) → x ≡ y → same x y ≡ true
same_of x y e = rw e (same_refl y)

pub same_bytes_eq : (x y : List ℕ) → same x y ≡ bytes_eq x y
same_bytes_eq x y = same_from_decides (same x y) (bytes_eq x y) (same_so x y, same_of x y) (bytes_eq-Decides x y)

pub listed_any : (t : List ℕ) (names : List (List ℕ)) → is_listed t names ≡ list_any (bytes_eq t) names
listed_any t [] = refl
listed_any t (n ∷ ns) = (λ i. same_bytes_eq t n i || listed_any t ns i)

pub listed : (t : List ℕ) (keys : List (Bor (List ℕ))) → is_listed t (map (λ k. k.now) keys) ≡ list_any
    (λ k. bytes_eq t k.now) keys
listed t keys = listed_any t (map (λ k. k.now) keys) ∙ any_seen (bytes_eq t) keys

pub same_back : (x y : List ℕ) → same x y ≡ bytes_eq y x
same_back x y = same_from_decides (same x y) (bytes_eq y x) (λ e. sym (same_so x y e), λ e. same_of x y (sym e))
    (bytes_eq-Decides y x)

pub bytes_same : (x y : List ℕ) → bytes_eq x y ≡ true → x ≡ y
bytes_same x y e = same_so x y (same_bytes_eq x y ∙ e)
