-- The least key of a table that is none of some, found in the order of the map.
use Rattle.std.proofs.Common.{ℕ, ◌≡◌, Bool, true, false, not, cond, List, [], ◌∷◌, map, filter, Option, Some, None}
use Rattle.std.proofs.Common.{option_map, String, Global, BTreeMap, Bor, string_bytes, nat_cmp, refl, sym, ap, ◌∙◌}
use Rattle.std.proofs.Common.{Less, find, IfSome, option_copied}
use Rattle.std.specs.Option.{option_map_or}
use Rattle.std.specs.Ordering.{is_lt}
use Rattle.std.specs.List.{AllByRecursion}
use Rattle.std.specs.List.Sorted.{IsStrictlySortedBy}
use Rattle.std.specs.Cmp.Lexicographic.{slice_cmp}
use Rattle.std.specs.String.{string_cmp}
use Rattle.std.specs.BTreeMap as tree
use Rattle.toml.specs.View.{members_view, table_view}
use Rattle.toml.specs.declared.value.Value.{Value}
use Rattle.cell_library.specs.Documents.{keys_of, is_among, other_keys, least, lesser}

abbrev Entry : Type 0
Entry = String Global × Value

lesser_either : (P : List ℕ → Type 0) (b : Bool) (x y : List ℕ) → P x → P y → P (cond b x y)
lesser_either P true x y px py = px
lesser_either P false x y px py = py

-- what all keys are, the least is
least-all : (P : List ℕ → Type 0) (ks : List (List ℕ)) → AllByRecursion P ks → IfSome (least ks) P
least-all P [] all = tt
least-all P (k ∷ ks) all = go (least ks) (least-all P ks all.1) where
  go : (l : Option (List ℕ)) → IfSome l P → P (option_map_or (lesser k) l k)
  go None h = all.0
  go (Some x) h = lesser_either P (is_lt (slice_cmp nat_cmp k x)) k x all.0 h

-- a key below all others is the least
least_first : (k : List ℕ) (l : Option (List ℕ)) → IfSome l (λ x. slice_cmp nat_cmp k x ≡ Less)
    → option_map_or (lesser k) l k ≡ k
least_first k None h = refl
least_first k (Some x) h = rw h refl

kept_all : (P : List ℕ → Type 0) (b : Bool) (k : List ℕ) (ks : List (List ℕ)) → P k → AllByRecursion P ks
    → AllByRecursion P (cond b (k ∷ ks) ks)
kept_all P true k ks here rest = (here, rest)
kept_all P false k ks here rest = rest

filter-all : (P : List ℕ → Type 0) (test : List ℕ → Bool) (ks : List (List ℕ)) → AllByRecursion P ks
    → AllByRecursion P (filter test ks)
filter-all P test [] all = all
filter-all P test (k ∷ ks) all = kept_all P (test k) k (filter test ks) all.0 (filter-all P test ks all.1)

above : (k : String Global) (es : List Entry) → AllByRecursion (λ y. string_cmp k y ≡ Less) (map (λ e. e.0) es)
    → AllByRecursion (λ x. slice_cmp nat_cmp (string_bytes k) x ≡ Less) (keys_of (members_view es))
above k [] h = h
above k (e ∷ es) h = (h.0, above k es h.1)

found_at : (b : Bool) (k : String Global) (rest : Option (String Global)) (others : List (List ℕ))
    → option_map string_bytes rest ≡ least others →
    IfSome (least others) (λ x. slice_cmp nat_cmp (string_bytes k) x ≡ Less)
    → option_map string_bytes (cond b (Some k) rest) ≡ least (cond b (string_bytes k ∷ others) others)
found_at true k rest others same below = ap (λ x. Some x) (sym (least_first (string_bytes k) (least others) below))
found_at false k rest others same below = same

found_entries : (known : List (List ℕ)) (es : List Entry) → IsStrictlySortedBy string_cmp (map (λ e. e.0) es) →
    option_map string_bytes (find (λ key. not (is_among known (string_bytes key))) (map (λ e. e.0) es)) ≡ least
    (other_keys known (members_view es))
unfolding IsStrictlySortedBy
found_entries known [] sorted = refl
found_entries known (e ∷ es) sorted =
    found_at (not (is_among known (string_bytes e.0))) e.0
    (find (λ key. not (is_among known (string_bytes key))) (map (λ e. e.0) es)) (other_keys known (members_view es))
    (found_entries known es sorted.1)
    (least-all (λ x. slice_cmp nat_cmp (string_bytes e.0) x ≡ Less) (other_keys known (members_view es))
    (filter-all (λ x. slice_cmp nat_cmp (string_bytes e.0) x ≡ Less) (λ key. not (is_among known key))
    (keys_of (members_view es)) (above e.0 es sorted.0)))

bytes_of : (found : Option (Bor (String Global)))
    → option_map (λ key. string_bytes key.now) found ≡ option_map string_bytes (option_copied found)
bytes_of None = refl
bytes_of (Some key) = refl

-- the first key in the order of the map is the least
pub found_least : (known : List (List ℕ)) (m : BTreeMap (String Global) Value) (found : Option (Bor (String Global))) →
    option_copied found ≡ find (λ key. not (is_among known (string_bytes key))) (tree.keys m)
    → tree.IsOrdered string_cmp m →
    option_map (λ key. string_bytes key.now) found ≡ least (other_keys known (table_view m))
found_least known m found first sorted = bytes_of found
    ∙ (ap (option_map string_bytes) first ∙ found_entries known m.entries sorted)
