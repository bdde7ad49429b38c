-- Paths, and the folders that they name.
use Rattle.std.proofs.Common.{ℕ, suc, ◌≡◌, ◌≢◌, ◌<◌, ◌≤◌, ◌+◌, List, [], ◌∷◌, ◌++◌, length, get_or, take, drop}
use Rattle.std.proofs.Common.{refl, ap, sym, ◌∙◌, Bool, true, false, ◌||◌, eqb, Option, Some, None, MatchOption, Bor}
use Rattle.std.proofs.Common.{arith, ne_eqb}
use Rattle.std.specs.Prelude.{if◌then◌else◌, Result, Ok, Err, IfOk, String, string_bytes}
use Rattle.std.specs.declared.alloc.Global.{Global}
use Rattle.std.specs.declared.alloc.AllocError.{AllocError}
use Rattle.std.specs.Str.Pattern.{RFindsChar}
use Rattle.std.proofs.lemmas.List.{take-append-drop}
use Rattle.std.proofs.lemmas.Str.Pattern.{NoCharPasses-char, drop_at_char}
use Rattle.aq_base.specs.Honest.{is_absolute, is_slash, has_slash, folder_of}

-- whether a path begins at the root, by its first byte
pub absolute_first : (path : List ℕ) → is_absolute path ≡ eqb (get_or path 0 0) 47
absolute_first [] = refl
absolute_first (byte ∷ path) = refl

pub absolute_none : (path : List ℕ) → length path ≡ 0 → is_absolute path ≡ false
absolute_none [] e = refl
absolute_none (byte ∷ path) e = absurd (omega (arith, e))

or_true : (b : Bool) → b || true ≡ true
or_true true = refl
or_true false = refl

no_folder : (path : List ℕ) → has_slash path ≡ false → folder_of path ≡ []
no_folder [] e = refl
no_folder (byte ∷ path) e = ap (λ b. if b then byte ∷ folder_of path else []) e

slash_within : (front rest : List ℕ) → has_slash (front ++ 47 ∷ rest) ≡ true
slash_within [] rest = refl
slash_within (byte ∷ front) rest = ap (λ b. is_slash byte || b) (slash_within front rest) ∙ or_true (is_slash byte)

folder_split : (front rest : List ℕ) → has_slash rest ≡ false → folder_of (front ++ 47 ∷ rest) ≡ front ++ 47 ∷ []
folder_split [] rest e = ap (λ (path : List ℕ). 47 ∷ path) (no_folder rest e)
folder_split (byte ∷ front) rest e =
    ap (λ b. if b then byte ∷ folder_of (front ++ 47 ∷ rest) else []) (slash_within (byte ∷ front) rest)
    ∙ ap (λ (path : List ℕ). byte ∷ path) (folder_split front rest e)

lacks : (path : List ℕ) → ((i : ℕ) → i < length path → get_or path i 0 ≢ 47) → has_slash path ≡ false
lacks [] none = refl
lacks (byte ∷ path) none = ap (λ b. b || has_slash path) (ne_eqb byte 47 (none 0 (omega arith)))
    ∙ lacks path (λ i l. none (suc i) (omega arith))

-- what the last slash of a path splits it into
pub split_folder : (path : List ℕ) (r : Option (Bor (List ℕ) × Bor (List ℕ)))
    → MatchOption r (RFindsChar 47 path None) (λ x. (i : ℕ) × (j : ℕ) × RFindsChar 47 path (Some (i, j))
    × (x.0.now ≡ take i path) × (x.1.now ≡ drop j path) × (i ≤ j) × (length x.0.now ≡ i)
    × (length x.1.now + j ≡ length path))
    → MatchOption r (folder_of path ≡ []) (λ x. folder_of path ≡ x.0.now ++ 47 ∷ [])
split_folder path None h = no_folder path (lacks path (λ i l. NoCharPasses-char 47 path i h (omega arith) l))
split_folder path (Some x) h =
    let i = h.0 in
    let j = h.1 in
    let rest : has_slash (drop j path) ≡ false =
    lacks (drop j path) (λ k l. NoCharPasses-char 47 (drop j path) k h.2.0 (omega arith) l) in
    let whole : path ≡ take i path ++ 47 ∷ drop j path = sym (take-append-drop i path)
    ∙ ap (λ l. take i path ++ l) (drop_at_char 47 path i j h.2.1 (omega arith)) in
    ap (λ p. folder_of p) whole ∙ folder_split (take i path) (drop j path) rest ∙ ap (λ f. f ++ 47 ∷ []) (sym h.3)

-- a path that was made
pub made-so : (r : Result (String Global) AllocError) (bytes path : List ℕ) → IfOk r (λ made. string_bytes made ≡ bytes)
    → bytes ≡ path → IfOk r (λ made. string_bytes made ≡ path)
made-so (Ok made) bytes path h e = h ∙ e
made-so (Err why) bytes path h e = tt

pub ruleset folders = (absolute_first, absolute_none)
