-- The integers of an array, item by item.
use Rattle.std.proofs.Common.{ℕ, ℤ, ◌≡◌, ◌<◌, ◌+◌, List, [], ◌∷◌, ◌++◌, length, get_or, drop, Option, Some, None}
use Rattle.std.proofs.Common.{option_map, refl, sym, ap, ◌∙◌, append_assoc}
use Rattle.toml.specs.Data.{Data, Items, item, string, integer, float, boolean, datetime, array, table, as_integer}
use Rattle.toml.specs.View.{view, items_view}
use Rattle.toml.specs.declared.value.Value.{Value}
use Rattle.toml.proofs.Views.{items_view-drop}
use Rattle.cell_library.specs.Documents.{integers_of}

-- the first is an integer
first_integer : (d : Data) (rest : Items) (z : ℤ) → Some z ≡ as_integer d
    → integers_of (item d rest) ≡ option_map (λ zs. z ∷ zs) (integers_of rest)
first_integer (integer y) rest z e = let same : z ≡ y = cc in rw same refl
first_integer (string s) rest z e = cc
first_integer (float x) rest z e = cc
first_integer (boolean b) rest z e = cc
first_integer (datetime t) rest z e = cc
first_integer (array a) rest z e = cc
first_integer (table t) rest z e = cc

first_other : (d : Data) (rest : Items) → None ≡ as_integer d → integers_of (item d rest) ≡ None
first_other (integer y) rest e = cc
first_other (string s) rest e = refl
first_other (float x) rest e = refl
first_other (boolean b) rest e = refl
first_other (datetime t) rest e = refl
first_other (array a) rest e = refl
first_other (table t) rest e = refl

moved : (all : List ℤ) (z : ℤ) (r : Option (List ℤ))
    → option_map (λ zs. all ++ zs) (option_map (λ zs. z ∷ zs) r) ≡ option_map (λ zs. (all ++ z ∷ []) ++ zs) r
moved all z None = refl
moved all z (Some zs) = ap (λ x. Some x) (sym (append_assoc all (z ∷ []) zs))

-- one more integer
pub integers_more : (xs : List Value) (i : ℕ) (v : Value) (z : ℤ) (all : List ℤ) → i < length xs → v ≡ get_or xs i v
    → Some z ≡ as_integer (view v) →
    integers_of (items_view xs) ≡ option_map (λ zs. all ++ zs) (integers_of (items_view (drop i xs))) →
    integers_of (items_view xs) ≡ option_map (λ zs. (all ++ z ∷ []) ++ zs) (integers_of (items_view (drop (i + 1) xs)))
integers_more xs i v z all h at e inv =
    inv ∙ (ap (λ w. option_map (λ zs. all ++ zs) (integers_of w)) (items_view-drop xs i v h)
    ∙ (ap (option_map (λ zs. all ++ zs)) (ap (λ w. integers_of (item (view w) (items_view (drop (i + 1) xs)))) (sym at)
    ∙ first_integer (view v) (items_view (drop (i + 1) xs)) z e)
    ∙ moved all z (integers_of (items_view (drop (i + 1) xs)))))

-- an item that is none
pub integers_stop : (xs : List Value) (i : ℕ) (v : Value) (all : List ℤ) → i < length xs → v ≡ get_or xs i v
    → None ≡ as_integer (view v) →
    integers_of (items_view xs) ≡ option_map (λ zs. all ++ zs) (integers_of (items_view (drop i xs))) →
    integers_of (items_view xs) ≡ None
integers_stop xs i v all h at e inv =
    inv ∙ (ap (λ w. option_map (λ zs. all ++ zs) (integers_of w)) (items_view-drop xs i v h)
    ∙ ap (option_map (λ zs. all ++ zs)) (ap (λ w. integers_of (item (view w) (items_view (drop (i + 1) xs)))) (sym at)
    ∙ first_other (view v) (items_view (drop (i + 1) xs)) e))

pub ruleset integer_steps = (integers_more, integers_stop)
