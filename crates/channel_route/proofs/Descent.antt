-- The way down from the top to the first entry below a bound.
use Rattle.std.proofs.Common.{◌≡◌, ℕ, zero, suc, ◌+◌, ◌-◌, ◌<◌, ◌≤◌, false, ltb, List, [], ◌∷◌, length, get_or}
use Rattle.std.proofs.Common.{refl, sym, ap, ◌∙◌, subst, arith, add-one, if◌then◌else◌}
use Rattle.std.proofs.lemmas.List.{get_or_default}
use Rattle.std.proofs.lemmas.Bool.{le-ltb}
use Rattle.channel_route.specs.Code.Levels.{halves, LeadUp, AreLevels, lowest_level, top_level}
use Rattle.channel_route.specs.Tracks.{lowest_free}
use Rattle.channel_route.proofs.Minima.{step_down, pair_long, below_within, none_below}
use Rattle.channel_route.proofs.Raising.{top_of, top_is}

lead_at : (xs : List ℕ) (ls : List (List ℕ)) (k : ℕ) → LeadUp xs ls → k < length ls
    → get_or (xs ∷ ls) (suc k) [] ≡ halves (get_or (xs ∷ ls) k [])
lead_at xs [] k up lt = absurd (omega arith)
lead_at xs (l ∷ ls) zero up lt = up.1
lead_at xs (l ∷ ls) (suc k) up lt = lead_at l ls k up.2 (omega arith)

above_is : (levels : List (List ℕ)) (k : ℕ) → AreLevels levels → 0 < k → k < length levels
    → get_or levels k [] ≡ halves (get_or levels (k - 1) [])
above_is [] k are some lt = absurd (omega arith)
above_is (xs ∷ ls) zero are some lt = absurd (omega arith)
above_is (xs ∷ ls) (suc k) are some lt = let e : suc k - 1 ≡ k = omega arith in
    lead_at xs ls k are (omega arith) ∙ ap (λ (n : ℕ). halves (get_or (xs ∷ ls) n [])) (sym e)

-- what the loop keeps: the place of the first entry of a level that is below the bound
pub record Stands (levels : List (List ℕ)) (bound level place : ℕ) : Type 0 where
  pub found : lowest_free bound (get_or levels level []) ≡ place
  pub within : place < length (get_or levels level [])
  pub below : level < length levels

pub level_read : (levels : List (List ℕ)) (bound level place : ℕ) (x now : List ℕ) → Stands levels bound level place
    → x ≡ get_or levels (level - 1) x → now ≡ x → now ≡ get_or levels (level - 1) []
level_read levels bound level place x now st is n = n ∙ is
    ∙ get_or_default levels (level - 1) x [] (omega (arith, st.below))

pub child_asks : (levels : List (List ℕ)) (bound level place : ℕ) (now : List ℕ) → AreLevels levels → 0 < level
    → Stands levels bound level place → now ≡ get_or levels (level - 1) [] → place + place < length now
child_asks levels bound level place now are some st is =
    subst (λ (l : List ℕ). place + place < length l) (sym is)
    (pair_long place (get_or levels (level - 1) [])
    (subst (λ (l : List ℕ). place < length l) (above_is levels level are some st.below) st.within))

pub stands_below : (levels : List (List ℕ)) (bound level place place' : ℕ) (now : List ℕ) → AreLevels levels → 0 < level
    → Stands levels bound level place → now ≡ get_or levels (level - 1) []
    → place' ≡ (if ltb (get_or now (place + place) 0) bound then place + place else place + place + 1)
    → Stands levels bound (level - 1) place'
stands_below levels bound level place place' now are some st is next =
    let below = get_or levels (level - 1) [] in
    let up : get_or levels level [] ≡ halves below = above_is levels level are some st.below in
    let first : lowest_free bound (halves below) ≡ place = ap (lowest_free bound) (sym up) ∙ st.found in
    let small : place < length (halves below) = subst (λ (l : List ℕ). place < length l) up st.within in
    let here : lowest_free bound below ≡ place' = step_down bound place below first small
    ∙ sym (next ∙ rw (is, add-one) refl) in
    record {
      found = here;
      within = omega (arith, here, below_within bound below (omega (arith, first, small)));
      below = omega (arith, st.below);
    }

-- where the least entry is not below the bound, no entry is
none_at : (bound : ℕ) (xs : List ℕ) (ls : List (List ℕ)) → LeadUp xs ls → bound ≤ get_or (top_of xs ls) 0 bound
    → lowest_free bound xs ≡ length xs
none_at bound [] [] up le = refl
none_at bound (x ∷ []) [] up le = let k : ltb x bound ≡ false = le-ltb x bound le in rw k refl
none_at bound (x ∷ (y ∷ xs)) [] up le = absurd (omega (arith, up))
none_at bound xs (l ∷ ls) up le =
    let h : lowest_free bound l ≡ length l = none_at bound l ls up.2 le in
    none_below bound xs (subst (λ (k : List ℕ). length k ≤ lowest_free bound k) up.1 (omega (arith, h)))

pub none_is : (levels : List (List ℕ)) (bound : ℕ) → AreLevels levels → bound ≤ get_or (top_level levels) 0 bound
    → length (lowest_level levels) ≡ lowest_free bound (lowest_level levels)
none_is [] bound are le = refl
none_is (xs ∷ ls) bound are le = sym (none_at bound xs ls are
    (subst (λ (l : List ℕ). bound ≤ get_or l 0 bound) (top_is xs ls) le))
