-- What the number and the ends of a line's tokens say of the line.
use Rattle.std.proofs.Common.{◌≡◌, ℕ, ◌<◌, ◌&&◌, ◌||◌, ◌==◌, Bool, true, false, not, cond, List, [], ◌∷◌, ◌++◌, length}
use Rattle.std.proofs.Common.{drop, refl, sym, ap, ◌∙◌, arith}
use Rattle.std.specs.List.{list_all, list_any}
use Rattle.std.specs.Str.{bytes_eq}
use Rattle.indexmap.specs.IndexSet.{insert_key, insert_all}
use Rattle.blif_read.specs.Statements.{truth, truth_of, last_of}
use Rattle.blif_read.specs.Faults.{has_shape, is_plane_byte, adds_again}
use Rattle.blif_read.specs.Parts.{plane}
use Rattle.blif_read.specs.Code.Ends.{first_of, last_after}

truth_after : (t : List ℕ) (ts : List (List ℕ)) → truth (t ∷ ts) ≡ truth_of (last_after t ts)
truth_after t [] = refl
truth_after t (u ∷ us) = truth_after u us

-- a row ends with its last token
pub truth_last : (row : List (List ℕ)) → truth row ≡ truth_of (last_after [] row)
truth_last [] = refl
truth_last (t ∷ ts) = truth_after t ts

pub one_shape : (n : ℕ) (row : List (List ℕ)) → length row ≡ 1 → has_shape n row ≡ (n == 0)
one_shape n [] e = absurd (omega arith)
one_shape n (t ∷ []) e = refl
one_shape n (t ∷ u ∷ us) e = absurd (omega arith)

pub two_shape : (n : ℕ) (row : List (List ℕ)) → length row ≡ 2
    → has_shape n row ≡ not (n == 0) && (length (first_of row) == n && list_all is_plane_byte (first_of row))
two_shape n [] e = absurd (omega arith)
two_shape n (t ∷ []) e = absurd (omega arith)
two_shape n (t ∷ u ∷ []) e = refl
two_shape n (t ∷ u ∷ v ∷ vs) e = absurd (omega arith)

pub other_shape : (n : ℕ) (row : List (List ℕ)) → (length row ≡ 1 → ⊥) → (length row ≡ 2 → ⊥) → has_shape n row ≡ false
other_shape n [] a b = refl
other_shape n (t ∷ []) a b = absurd (a (omega arith))
other_shape n (t ∷ u ∷ []) a b = absurd (b (omega arith))
other_shape n (t ∷ u ∷ v ∷ vs) a b = refl

-- a row of one token has an empty plane
pub no_plane : (row : List (List ℕ)) → length row < 2 → plane row ≡ record { plane = [] }
no_plane [] h = refl
no_plane (t ∷ []) h = refl
no_plane (t ∷ u ∷ us) h = absurd (omega arith)

pub first_plane : (row : List (List ℕ)) → (length row < 2 → ⊥) → plane row ≡ record { plane = first_of row }
first_plane [] h = absurd (h (omega arith))
first_plane (t ∷ []) h = absurd (h (omega arith))
first_plane (t ∷ u ∷ us) h = refl

last_at : (t : List ℕ) (ts : List (List ℕ)) → last_of (t ∷ ts) ≡ last_after t ts ∷ []
last_at t [] = refl
last_at t (u ∷ us) = last_at u us

pub no_last : (ts : List (List ℕ)) → length ts < 2 → last_of (drop 1 ts) ≡ []
no_last [] h = refl
no_last (t ∷ []) h = refl
no_last (t ∷ u ∷ us) h = absurd (omega arith)

one_last : (ts : List (List ℕ)) → (length ts < 2 → ⊥) → last_of (drop 1 ts) ≡ last_after [] ts ∷ []
one_last [] h = absurd (h (omega arith))
one_last (t ∷ []) h = absurd (h (omega arith))
one_last (t ∷ u ∷ us) h = last_at u us

twice : (b : Bool) → not (not b) ≡ b || false
twice true = refl
twice false = refl

neither : (b : Bool) → not (not b) ≡ false → b ≡ false
neither true e = absurd (cc)
neither false e = refl

-- the last name of a definition is added
module _ (keys ts : List (List ℕ)) (name : List ℕ) (new : Bool) (h : length ts < 2 → ⊥) (n : name ≡ last_after [] ts)
    (e : new ≡ not (list_any (bytes_eq name) keys)) where
  pub last_again : not new ≡ adds_again keys (last_of (drop 1 ts))
  last_again = ap not e ∙ ap (λ x. not (not (list_any (bytes_eq x) keys))) n
      ∙ twice (list_any (bytes_eq (last_after [] ts)) keys) ∙ ap (adds_again keys) (sym (one_last ts h))

  pub last_added : (grown : List (List ℕ)) → grown ≡ insert_key bytes_eq keys name → not new ≡ false
      → grown ≡ keys ++ last_of (drop 1 ts)
  last_added grown k f =
      let off : list_any (bytes_eq name) keys ≡ false = neither (list_any (bytes_eq name) keys) (sym (ap not e) ∙ f) in
      k ∙ ap (λ b. cond b keys (keys ++ name ∷ [])) off ∙ ap (λ x. keys ++ x ∷ []) n
      ∙ ap (λ xs. keys ++ xs) (sym (one_last ts h))

-- the last name of a definition is added, where it is not there yet
pub one_inserted : (keys ts : List (List ℕ)) (name : List ℕ) → (length ts < 2 → ⊥) → name ≡ last_after [] ts
    → (grown : List (List ℕ)) → grown ≡ insert_key bytes_eq keys name
    → grown ≡ insert_all bytes_eq keys (last_of (drop 1 ts))
one_inserted keys ts name h n grown k = k ∙ ap (insert_key bytes_eq keys) n
    ∙ ap (insert_all bytes_eq keys) (sym (one_last ts h))
