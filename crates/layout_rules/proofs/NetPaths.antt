-- When numbers are those of nets, computed: each comes with a path to its shape.
use Rattle.std.proofs.Common.{◌≡◌, ℕ, zero, suc, ◌+◌, ◌<◌, ◌≤◌, ◌&&◌, Bool, true, false, List, [], ◌∷◌, length, Option}
use Rattle.std.proofs.Common.{None, Some, refl, sym, subst, arith, inl, inr, slice_get, slice_index, zip, ◌==◌, not}
use Rattle.std.proofs.Common.{nat_lt}
use Rattle.std.specs.List.{list_any}
use Rattle.std.proofs.lemmas.Bool.{eqb-true, ltb-true, not-false, and_cases, and_parts, both_ways, false_from_ne_true}
use Rattle.geom.specs.declared.shapes.Shape.{Shape}
use Rattle.layout_rules.specs.Touch.{touch, Touching, IsPath, Joined}
use Rattle.layout_rules.specs.Nets.{AreNets}
use Rattle.layout_rules.proofs.NetLaws.{AreNets-certified}
use Rattle.layout_rules.proofs.PlaceLaws.{list_any-at}
use Rattle.layout_rules.proofs.Places.{places, IsOneOf, place_at, zip_at}

abbrev both_touch : Option Shape → Option Shape → Bool
both_touch None b = false
both_touch (Some s) None = false
both_touch (Some s) (Some t) = touch s t

abbrev touch_at : List Shape → ℕ → ℕ → Bool
touch_at shapes i m = both_touch (slice_get shapes i) (slice_get shapes m)

touching : (shapes : List Shape) (i m : ℕ) (a b : Option Shape) → slice_get shapes i ≡ a → slice_get shapes m ≡ b
    → both_touch a b ≡ true → Touching shapes i m
touching shapes i m None b p q e = absurd (both_ways false refl e)
touching shapes i m (Some s) None p q e = absurd (both_ways false refl e)
touching shapes i m (Some s) (Some t) p q e =
    record { first = s; second = t; first_is = p; second_is = q; touch_so = e }

-- the path leads from the one to the other
abbrev pub is_path : List Shape → ℕ → List ℕ → ℕ → Bool
is_path shapes i [] j = i == j
is_path shapes i (m ∷ path) j = touch_at shapes i m && is_path shapes m path j

pub path_from : (shapes : List Shape) (i : ℕ) (path : List ℕ) (j : ℕ)
    → is_path shapes i path j ≡ true → IsPath shapes i path j
path_from shapes i [] j e = eqb-true i j e
path_from shapes i (m ∷ path) j e =
    let both : (touch_at shapes i m ≡ true) × (is_path shapes m path j ≡ true) = and_parts (touch_at shapes i m)
    (is_path shapes m path j) e in
    (touching shapes i m (slice_get shapes i) (slice_get shapes m) refl refl both.0, path_from shapes m path j both.1)

-- each number, from k on, is not above its shape, which the path joins to it
abbrev are_led : List Shape → ℕ → List ℕ → List (List ℕ) → Bool
are_led shapes k [] paths = true
are_led shapes k (n ∷ nets) [] = false
are_led shapes k (n ∷ nets) (path ∷ paths) =
    (nat_lt n (suc k) && is_path shapes k path n) && are_led shapes (suc k) nets paths

pub record IsLed (shapes : List Shape) (i n : ℕ) : Type 0 where
  pub joined : Joined shapes i n
  pub not_above : n ≤ i

led_at : (shapes : List Shape) (k : ℕ) (nets : List ℕ) (paths : List (List ℕ)) → are_led shapes k nets paths ≡ true
    → (i : ℕ) → i < length nets → IsLed shapes (k + i) (slice_index nets i)
led_at shapes k [] paths e i h = absurd (let no : i < 0 = h in omega arith)
led_at shapes k (n ∷ nets) [] e i h = absurd (both_ways false refl e)
led_at shapes k (n ∷ nets) (path ∷ paths) e zero h =
    let both : ((nat_lt n (suc k) && is_path shapes k path n) ≡ true)
    × (are_led shapes (suc k) nets paths ≡ true) = and_parts (nat_lt n (suc k) && is_path shapes k path n)
    (are_led shapes (suc k) nets paths) e in
    let here : (nat_lt n (suc k) ≡ true)
    × (is_path shapes k path n ≡ true) = and_parts (nat_lt n (suc k)) (is_path shapes k path n) both.0 in
    let below : n < suc k = ltb-true n (suc k) here.0 in
    let same : k ≡ k + 0 = omega arith in
    subst (λ (m : ℕ). IsLed shapes m n) same
    (record { joined = (path, path_from shapes k path n here.1); not_above = omega arith })
led_at shapes k (n ∷ nets) (path ∷ paths) e (suc i) h =
    let both : ((nat_lt n (suc k) && is_path shapes k path n) ≡ true)
    × (are_led shapes (suc k) nets paths ≡ true) = and_parts (nat_lt n (suc k) && is_path shapes k path n)
    (are_led shapes (suc k) nets paths) e in
    let within : i < length nets = (let long : suc i < suc (length nets) = h in omega arith) in
    let same : suc k + i ≡ k + suc i = omega arith in
    subst (λ (m : ℕ). IsLed shapes m (slice_index nets i)) same (led_at shapes (suc k) nets paths both.1 i within)

-- two touch and have different numbers
abbrev disagree : Shape × ℕ → Shape × ℕ → Bool
disagree a b = touch a.0 b.0 && not (a.1 == b.1)

abbrev disagrees : List (Shape × ℕ) → Shape × ℕ → Bool
disagrees numbered a = list_any (disagree a) numbered

agree_each : (shapes : List Shape) (nets : List ℕ) → length nets ≡ length shapes
    → places (disagrees (zip shapes nets)) (zip shapes nets) ≡ [] → (i j : ℕ) → Touching shapes i j
    → slice_index nets i ≡ slice_index nets j
agree_each shapes nets long none i j t =
    let a : slice_get (zip shapes nets) i ≡ Some (t.first, slice_index nets i) =
    zip_at shapes nets i t.first long t.first_is in
    let b : slice_get (zip shapes nets) j ≡ Some (t.second, slice_index nets j) =
    zip_at shapes nets j t.second long t.second_is in
    let no : disagree (t.first, slice_index nets i) (t.second, slice_index nets j) ≡ false =
    false_from_ne_true _ (λ yes.
    subst (IsOneOf i) none (place_at (disagrees (zip shapes nets)) (zip shapes nets) i (t.first, slice_index nets i) a
    (list_any-at (disagree (t.first, slice_index nets i)) (zip shapes nets) j
    (t.second, slice_index nets j) b yes))) in
    elim (and_cases (touch t.first t.second) (not (slice_index nets i == slice_index nets j)) no) [
      | inl apart ↦ absurd (both_ways (touch t.first t.second) apart t.touch_so)
      | inr same ↦ eqb-true (slice_index nets i) (slice_index nets j)
          (not-false (slice_index nets i == slice_index nets j) same)
    ]

pub nets_from : (shapes : List Shape) (nets : List ℕ) (paths : List (List ℕ)) → length nets ≡ length shapes
    → are_led shapes 0 nets paths ≡ true
    → places (disagrees (zip shapes nets)) (zip shapes nets) ≡ [] → AreNets shapes nets
nets_from shapes nets paths long led none = AreNets-certified shapes nets (record {
  long = long;
  joined = λ i h. (led_each i h).joined;
  not_above = λ i h. (led_each i h).not_above;
  agree = agree_each shapes nets long none;
})
  where
    led_each : (i : ℕ) → i < length shapes → IsLed shapes i (slice_index nets i)
    led_each i h =
        let within : i < length nets = subst (λ (n : ℕ). i < n) (sym long) h in
        let same : 0 + i ≡ i = omega arith in
        subst (λ (m : ℕ). IsLed shapes m (slice_index nets i)) same (led_at shapes 0 nets paths led i within)
