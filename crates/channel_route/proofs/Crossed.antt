-- The numbers of the wires that cross a column.
use Rattle.std.proofs.Common.{◌≡◌, ℕ, zero, suc, ◌+◌, ◌<◌, Bool, true, false, List, [], ◌∷◌, ◌++◌, length, get_or, take}
use Rattle.std.proofs.Common.{refl, sym, ap, subst, ◌∙◌, arith}
use Rattle.rowed.specs.declared.wire.Wire.{Wire}
use Rattle.channel_route.specs.Crossing.{crosses, numbers_crossing}

-- one wire more
pub crossing_more_yes : (x n k : ℕ) (ws : List Wire) (d : Wire) → k < length ws → crosses x (get_or ws k d) ≡ true
    → numbers_crossing x n (take k ws) ++ (n + k) ∷ [] ≡ numbers_crossing x n (take (suc k) ws)
crossing_more_yes x n k [] d lt c = absurd (omega arith)
crossing_more_yes x n zero (w ∷ ws) d lt c = let e : n + 0 ≡ n = omega arith in rw (c, e) refl
crossing_more_yes x n (suc k) (w ∷ ws) d lt c =
    go (crosses x w) refl (crossing_more_yes x (suc n) k ws d (omega arith) c)
  where
    e : n + suc k ≡ suc n + k
    e = omega arith

    go : (b : Bool) → crosses x w ≡ b → numbers_crossing x (suc n) (take k ws) ++ (suc n + k) ∷ [] ≡ numbers_crossing x
        (suc n) (take (suc k) ws) → numbers_crossing x n (take (suc k) (w ∷ ws)) ++ (n + suc k) ∷ [] ≡ numbers_crossing
        x n (take (suc (suc k)) (w ∷ ws))
    go true q r = rw (q, e) (ap (λ (l : List ℕ). n ∷ l) r)
    go false q r = rw (q, e) r

pub crossing_more_no : (x n k : ℕ) (ws : List Wire) (d : Wire) → k < length ws → crosses x (get_or ws k d) ≡ false
    → numbers_crossing x n (take k ws) ≡ numbers_crossing x n (take (suc k) ws)
crossing_more_no x n k [] d lt c = absurd (omega arith)
crossing_more_no x n zero (w ∷ ws) d lt c = rw c refl
crossing_more_no x n (suc k) (w ∷ ws) d lt c = go (crosses x w) refl (crossing_more_no x (suc n) k ws d (omega arith) c)
  where
    go : (b : Bool) → crosses x w ≡ b → numbers_crossing x (suc n) (take k ws) ≡ numbers_crossing x (suc n)
        (take (suc k) ws) → numbers_crossing x n (take (suc k) (w ∷ ws)) ≡ numbers_crossing x n
        (take (suc (suc k)) (w ∷ ws))
    go true q r = rw q (ap (λ (l : List ℕ). n ∷ l) r)
    go false q r = rw q r

pub over_yes : (x k : ℕ) (ws : List Wire) (d : Wire) (items new : List ℕ) (t : Bool) → k < length ws
    → t ≡ crosses x (get_or ws k d) → t ≡ true → items ≡ numbers_crossing x 0 (take k ws) → new ≡ items ++ k ∷ []
    → new ≡ numbers_crossing x 0 (take (k + 1) ws)
over_yes x k ws d items new t lt e does is now =
    let z : 0 + k ≡ k = omega arith in
    let s : suc k ≡ k + 1 = omega arith in
    let h = crossing_more_yes x 0 k ws d lt (sym e ∙ does) in
    now ∙ ap (λ (l : List ℕ). l ++ k ∷ []) is
    ∙ subst (λ (m : ℕ). numbers_crossing x 0 (take k ws) ++ m ∷ [] ≡ numbers_crossing x 0 (take (suc k) ws)) z h
    ∙ ap (λ (m : ℕ). numbers_crossing x 0 (take m ws)) s

pub over_no : (x k : ℕ) (ws : List Wire) (d : Wire) (items new : List ℕ) (t : Bool) → k < length ws
    → t ≡ crosses x (get_or ws k d) → t ≡ false → items ≡ numbers_crossing x 0 (take k ws) → new ≡ items
    → new ≡ numbers_crossing x 0 (take (k + 1) ws)
over_no x k ws d items new t lt e does_not is now = let s : suc k ≡ k + 1 = omega arith in
    now ∙ is ∙ crossing_more_no x 0 k ws d lt (sym e ∙ does_not) ∙ ap (λ (m : ℕ). numbers_crossing x 0 (take m ws)) s
