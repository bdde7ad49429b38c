-- The excitation lines of a drawing.
use Rattle.std.proofs.Common.{◌≡◌, ℕ, zero, suc, ◌+◌, ◌-◌, ◌*◌, ◌%◌, ◌<◌, ◌≤◌, Bool, true, false, ◌&&◌, ◌||◌, ◌==◌, leb}
use Rattle.std.proofs.Common.{refl, sym, ap, subst, ◌∙◌, arith, ◌⊎◌, inl, inr, if◌then◌else◌, pos, negsuc, neg_ℤ, ℤ}
use Rattle.std.proofs.Common.{int_le}
use Rattle.std.proofs.Common.{nat_lt}
use Rattle.std.proofs.lemmas.Bool.{cases_order, cases_lt, and_parts}
use Rattle.std.proofs.lemmas.Bool.Decides.{nat_tests}
use Rattle.cell_library.specs.Library.{LibraryView}
use Rattle.layout_make.proofs.Lawful.{IsLawful}
use Rattle.geom.specs.Rectangle.{share_point, share_x, share_y}
use Rattle.layout_make.specs.Sheet.{Sheet, Tag, Lead, Bar}
use Rattle.layout_make.specs.Sheet.{Flank, LeftOf, Over, RightOf, turns_right, lead_flank, begins, lead_first}
use Rattle.layout_make.specs.Sheet.{line_rect}
use Rattle.layout_make.specs.Sheet.{flank_rect, step_low, step_high, step_right, layer_of, place_of, lower_edge}
use Rattle.layout_make.proofs.SheetKeeps.{IsRouted, IsStep, Fits}
use Rattle.layout_make.proofs.Routes.{on_line}
use Rattle.layout_make.proofs.Columns.{next_edge, edges_apart}

-- flanks that meet
abbrev pub beside : Flank → Flank → Bool
beside LeftOf RightOf = false
beside RightOf LeftOf = false
beside a b = true

pub below_zero : (n : ℕ) → int_le (neg_ℤ (pos n)) (pos 0) ≡ true
below_zero zero = refl
below_zero (suc n) = refl

pub below_all : (n m : ℕ) → int_le (neg_ℤ (pos n)) (pos m) ≡ true
below_all zero m = grind (arith, nat_tests)
below_all (suc n) m = refl

pub flanks_share : (l : LibraryView) (right : ℕ) → 1 ≤ right → (f g : Flank) (a b c d : ℤ)
    → share_x (flank_rect l right f a b) (flank_rect l right g c d) ≡ beside f g
flanks_share l right some LeftOf LeftOf a b c d = let h = below_zero (2 * l.pitch) in cc
flanks_share l right some LeftOf Over a b c d = let h = below_all (2 * l.pitch) right in cc
flanks_share l right some LeftOf RightOf a b c d = let h = below_all (2 * l.pitch) (right + 2 * l.pitch) in
    apart _ right some
  where
    apart : (x : Bool) (w : ℕ) → 1 ≤ w → (x && int_le (pos w) (pos 0)) ≡ false
    apart x w some = grind (arith, nat_tests)
flanks_share l right some Over LeftOf a b c d = let h = below_all (2 * l.pitch) right in cc
flanks_share l right some Over Over a b c d = plain right
  where
    plain : (w : ℕ) → (int_le (pos 0) (pos w) && int_le (pos 0) (pos w)) ≡ true
    plain w = grind (arith, nat_tests)
flanks_share l right some Over RightOf a b c d = plain right (2 * l.pitch)
  where
    plain : (w p : ℕ) → (int_le (pos 0) (pos (w + p)) && int_le (pos w) (pos w)) ≡ true
    plain w p = grind (arith, nat_tests)
flanks_share l right some RightOf LeftOf a b c d =
    plain right (int_le (neg_ℤ (pos (2 * l.pitch))) (pos (right + 2 * l.pitch))) some
  where
    plain : (w : ℕ) (y : Bool) → 1 ≤ w → (int_le (pos w) (pos 0) && y) ≡ false
    plain w y some = grind (arith, nat_tests)
flanks_share l right some RightOf Over a b c d = plain right (2 * l.pitch)
  where
    plain : (w p : ℕ) → (int_le (pos w) (pos w) && int_le (pos 0) (pos (w + p))) ≡ true
    plain w p = grind (arith, nat_tests)
flanks_share l right some RightOf RightOf a b c d = plain right (2 * l.pitch)
  where
    plain : (w p : ℕ) → (int_le (pos w) (pos (w + p)) && int_le (pos w) (pos (w + p))) ≡ true
    plain w p = grind (arith, nat_tests)

-- spans of rows share a height exactly where they meet
rows_le : (s : Sheet) → IsLawful s.library → (a d : ℕ)
    → int_le (pos (lower_edge s a)) (pos (lower_edge s d + s.library.height)) ≡ leb a d
rows_le s laws a d = elim (cases_lt d a) [
  | inl lt ↦ let e = edges_apart s.library s.used d a lt in let f = next_edge s.library s.used d in
      no (lower_edge s a) (lower_edge s d + s.library.height) a d (omega arith) lt
  | inr ge ↦ elim (cases_order a d) [
    | inl same ↦ let e : lower_edge s a ≡ lower_edge s d = ap (λ (x : ℕ). lower_edge s x) same in
        yes (lower_edge s a) (lower_edge s d + s.library.height) a d (omega arith) ge
    | inr h ↦ elim h [
      | inl lt ↦ let e = edges_apart s.library s.used a d lt in let f = next_edge s.library s.used a in
          yes (lower_edge s a) (lower_edge s d + s.library.height) a d (omega arith) ge
      | inr lt ↦ absurd (omega arith)
    ]
  ]
]
  where
    no : (x y a d : ℕ) → y < x → d < a → int_le (pos x) (pos y) ≡ leb a d
    no x y a d h k = grind (arith, nat_tests)

    yes : (x y a d : ℕ) → x ≤ y → a ≤ d → int_le (pos x) (pos y) ≡ leb a d
    yes x y a d h k = grind (arith, nat_tests)

is_le_here : (a b : ℕ) → a ≤ b → leb a b ≡ true
is_le_here a b e = grind (arith, nat_tests)

-- of two heights below the rows the one that is further below is the lower
neg_le : (a b : ℕ) → b ≤ a → int_le (neg_ℤ (pos a)) (neg_ℤ (pos b)) ≡ true
neg_le zero zero h = refl
neg_le zero (suc b) h = absurd (omega arith)
neg_le (suc a) zero h = refl
neg_le (suc a) (suc b) h = is_le_here b a (omega arith)

above_neg : (x n : ℕ) → 1 ≤ n → int_le (pos x) (neg_ℤ (pos n)) ≡ false
above_neg x zero h = absurd (omega arith)
above_neg x (suc n) h = refl

leb_zero : (d : ℕ) → leb 0 (suc d) ≡ true
leb_zero d = grind (arith, nat_tests)

leb_above : (a : ℕ) → leb (suc a) 0 ≡ false
leb_above a = grind (arith, nat_tests)

leb_suc : (a d : ℕ) → leb a d ≡ leb (suc a) (suc d)
leb_suc a d = grind (arith, nat_tests)

steps_le : (s : Sheet) → IsLawful s.library → (a d : ℕ) → int_le (step_low s a) (step_high s d) ≡ leb a d
steps_le s laws zero zero = neg_le (2 * s.library.height) s.library.height (omega arith)
steps_le s laws zero (suc d) = below_all (2 * s.library.height) (lower_edge s d + s.library.height)
    ∙ sym (leb_zero d)
steps_le s laws (suc a) zero = above_neg (lower_edge s a) s.library.height
    (let x = laws.tall in let y = laws.space_some in omega arith) ∙ sym (leb_above a)
steps_le s laws (suc a) (suc d) = rows_le s laws a d ∙ leb_suc a d

low_high : (s : Sheet) (n : ℕ) (f : Flank) (a b : ℕ) → ((line_rect s n f a b).y0 ≡ step_low s a)
    × ((line_rect s n f a b).y1 ≡ step_high s b)
low_high s n LeftOf a b = (refl, refl)
low_high s n Over a b = (refl, refl)
low_high s n RightOf a b = (refl, refl)

pub spans_share : (s : Sheet) → IsLawful s.library → (n m : ℕ) (f g : Flank) (a b c d : ℕ)
    → share_y (line_rect s n f a b) (line_rect s m g c d) ≡ (leb a d && leb c b)
spans_share s laws n m f g a b c d =
    let p = low_high s n f a b in
    let q = low_high s m g c d in
    ap (λ (z : ℤ). int_le z (line_rect s m g c d).y1 && int_le (line_rect s m g c d).y0 (line_rect s n f a b).y1) p.0
    ∙ ap (λ (z : ℤ). int_le (step_low s a) z && int_le (line_rect s m g c d).y0 (line_rect s n f a b).y1) q.1
    ∙ ap (λ (z : ℤ). int_le (step_low s a) (step_high s d) && int_le z (line_rect s n f a b).y1) q.0
    ∙ ap (λ (z : ℤ). int_le (step_low s a) (step_high s d) && int_le (step_low s c) z) p.1
    ∙ ap (λ (x : Bool). x && int_le (step_low s c) (step_high s b)) (steps_le s laws a d)
    ∙ ap (λ (x : Bool). leb a d && x) (steps_le s laws c b)

-- of bars with one right end
pub lines_share : (s : Sheet) → IsRouted s → (n m : ℕ) → step_right s n ≡ step_right s m → 1 ≤ step_right s m
    → (f g : Flank) (a b c d : ℕ)
    → share_point (line_rect s n f a b) (line_rect s m g c d) ≡ (beside f g && (leb a d && leb c b))
lines_share s is n m same some f g a b c d =
    ap (λ (x : Bool). x && share_y (line_rect s n f a b) (line_rect s m g c d))
    (ap (λ (w : ℕ). share_x (flank_rect s.library w f (step_low s a) (step_high s b)) (line_rect s m g c d)) same
    ∙ flanks_share s.library (step_right s m) some f g (step_low s a) (step_high s b) (step_low s c) (step_high s d))
    ∙ ap (λ (x : Bool). beside f g && x) (spans_share s is.laws n m f g a b c d)

-- a drawn bar has some width
pub step_wide : (s : Sheet) → IsRouted s → (n : ℕ) → IsStep s n → 1 ≤ step_right s n
step_wide s is zero step = step.lagged refl
step_wide s is (suc r) step = is.right_some

-- Which lines are in contact: a bar with its own lead, and with the link to the next bar.

abbrev pub Linked : Tag → Tag → Type 0
Linked (Lead q) (Bar r) = (q ≡ r) ⊎ (q ≡ r + 2)
Linked (Bar r) (Lead q) = (q ≡ r) ⊎ (q ≡ r + 2)
Linked a b = ⊥

-- where a line begins
pub begins_low : (lag n : ℕ) → begins lag n ≡ true → n ≤ 2
begins_low lag zero e = omega arith
begins_low lag (suc zero) e = omega arith
begins_low lag (suc (suc zero)) e = omega arith
begins_low lag (suc (suc (suc n))) e = absurd cc

pub begins_bare : (lag : ℕ) → begins lag 2 ≡ true → lag ≡ 0
begins_bare zero e = refl
begins_bare (suc lag) e = absurd cc

pub begins_lagged : (lag : ℕ) → begins lag 2 ≡ false → 1 ≤ lag
begins_lagged zero e = absurd cc
begins_lagged (suc lag) e = omega arith

-- above a step the line goes on
pub goes_on : (s : Sheet) (n : ℕ) → IsStep s n → begins s.lag (suc (suc n)) ≡ false
goes_on s zero step = go s.lag (step.lagged refl)
  where
    go : (lag : ℕ) → 1 ≤ lag → begins lag 2 ≡ false
    go zero h = absurd (omega arith)
    go (suc lag) h = refl
goes_on s (suc n) step = refl

pub lead_low : (lag n : ℕ) → (n ≤ lead_first lag n + 2) × (lead_first lag n ≤ n)
lead_low lag zero = (omega arith, omega arith)
lead_low lag (suc zero) = (omega arith, omega arith)
lead_low lag (suc (suc n)) = go (begins lag (suc (suc n)))
  where
    go : (b : Bool) → (suc (suc n) ≤ (if b then suc (suc n) else n) + 2)
        × ((if b then suc (suc n) else n) ≤ suc (suc n))
    go true = (omega arith, omega arith)
    go false = (omega arith, omega arith)

lead_bar : (lag q r : ℕ) → suc q % 2 ≡ suc r % 2 → lead_first lag q ≤ r → r ≤ q → (q ≡ r) ⊎ (q ≡ r + 2)
lead_bar lag q r e a b = go (cases_order q r)
  where
    go : (q ≡ r) ⊎ ((q < r) ⊎ (r < q)) → (q ≡ r) ⊎ (q ≡ r + 2)
    go (inl e) = inl e
    go (inr (inl lt)) = absurd (omega arith)
    go (inr (inr lt)) = inr (let k = (lead_low lag q).0 in omega arith)

pub bar_lead : (s : Sheet) (q r : ℕ) → IsStep s r → (q ≡ r) ⊎ (q ≡ r + 2) → (lead_first s.lag q ≤ r) × (r ≤ q)
bar_lead s q r step (inl e) = let k = (lead_low s.lag q).1 in (omega arith, omega arith)
bar_lead s q r step (inr e) =
    let two : suc (suc r) ≡ q = omega arith in
    let first : lead_first s.lag q ≡ r = sym (ap (λ (n : ℕ). lead_first s.lag n) two)
    ∙ ap (λ (b : Bool). if b then suc (suc r) else r) (goes_on s r step) in
    (omega arith, omega arith)

-- leads on one flank and of one layer are four steps apart
both_sides : (a b : ℕ) → nat_lt a 2 ≡ nat_lt b 2 → ((a < 2) × (b < 2)) ⊎ ((2 ≤ a) × (2 ≤ b))
both_sides a b e = grind (arith, nat_tests)

four_steps : (n m : ℕ) → turns_right n ≡ turns_right m → suc n % 2 ≡ suc m % 2 → suc n % 4 ≡ suc m % 4
four_steps n m e f = elim (both_sides (suc n % 4) (suc m % 4) e) [ inl h ↦ omega arith | inr h ↦ omega arith ]

lead_lead : (lag n m : ℕ) → suc n % 2 ≡ suc m % 2 → turns_right n ≡ turns_right m → lead_first lag n ≤ m
    → lead_first lag m ≤ n → n ≡ m
lead_lead lag n m e f a b =
    let x = lead_low lag n in let y = lead_low lag m in let z = four_steps n m f e in omega arith

-- leads that meet are on one flank
flanks_met : (s : Sheet) (n m : ℕ) → 1 ≤ step_right s n → 1 ≤ step_right s m
    → share_x (place_of s (Lead n)) (place_of s (Lead m)) ≡ true → turns_right n ≡ turns_right m
flanks_met s n m some also e = go (turns_right n) (turns_right m) e
  where
    right : (w : ℕ) (y : Bool) → 1 ≤ w → (int_le (pos w) (pos 0) && y) ≡ true → ⊥
    right w y h e = grind (arith, nat_tests)

    left : (w : ℕ) (x : Bool) → 1 ≤ w → (x && int_le (pos w) (pos 0)) ≡ true → ⊥
    left w x h e = grind (arith, nat_tests)

    go : (b c : Bool)
        → share_x (line_rect s n (if b then RightOf else LeftOf) (lead_first s.lag n) n)
        (line_rect s m (if c then RightOf else LeftOf) (lead_first s.lag m) m) ≡ true → b ≡ c
    go true true e = refl
    go true false e = absurd (right (step_right s n) _ some e)
    go false true e = absurd (left (step_right s m) _ also e)
    go false false e = refl

le_true : (a b : ℕ) → leb a b ≡ true → a ≤ b
le_true a b e = grind (arith, nat_tests)

pub is_le : (a b : ℕ) → a ≤ b → leb a b ≡ true
is_le a b e = grind (arith, nat_tests)

same_steps : (n m : ℕ) → 14 + suc n % 2 ≡ 14 + suc m % 2 → suc n % 2 ≡ suc m % 2
same_steps n m e = omega arith

-- parts that share a point share steps
steps_met : (s : Sheet) → IsRouted s → (n m : ℕ) (f g : Flank) (a b c d : ℕ)
    → share_point (line_rect s n f a b) (line_rect s m g c d) ≡ true → (a ≤ d) × (c ≤ b)
steps_met s is n m f g a b c d e =
    let y = and_parts (share_x (line_rect s n f a b) (line_rect s m g c d))
    (share_y (line_rect s n f a b) (line_rect s m g c d)) e in
    let k = and_parts (leb a d) (leb c b) (sym (spans_share s is.laws n m f g a b c d) ∙ y.1) in
    (le_true a d k.0, le_true c b k.1)

-- two lines of one layer that share a point are one, or linked
pub linked : (s : Sheet) → IsRouted s → (t u : Tag) → Fits s t → Fits s u → on_line (layer_of t) ≡ true
    → layer_of t ≡ layer_of u → share_point (place_of s t) (place_of s u) ≡ true → (t ≡ u) ⊎ Linked t u
linked s is (Lead n) (Lead m) ft fu li e h =
    let k = steps_met s is n m (lead_flank n) (lead_flank m) (lead_first s.lag n) n (lead_first s.lag m) m h in
    let x = and_parts (share_x (place_of s (Lead n)) (place_of s (Lead m)))
    (share_y (place_of s (Lead n)) (place_of s (Lead m))) h in
    inl (ap Lead (lead_lead s.lag n m (same_steps n m e)
    (flanks_met s n m (step_wide s is n ft) (step_wide s is m fu) x.0) k.0 k.1))
linked s is (Lead q) (Bar r) ft fu li e h =
    let k = steps_met s is q r (lead_flank q) Over (lead_first s.lag q) q r r h in
    inr (lead_bar s.lag q r (same_steps q r e) k.0 k.1)
linked s is (Bar r) (Lead q) ft fu li e h =
    let k = steps_met s is r q Over (lead_flank q) r r (lead_first s.lag q) q h in
    inr (lead_bar s.lag q r (sym (same_steps r q e)) k.1 k.0)
linked s is (Bar n) (Bar m) ft fu li e h =
    let k = steps_met s is n m Over Over n n m m h in
    let a = k.0 in let b = k.1 in inl (ap Bar (omega arith))
linked s is (Lead n) u ft fu li e h = absurd (let x : suc n % 2 < 2 = omega arith in omega arith)
linked s is (Bar n) u ft fu li e h = absurd (let x : suc n % 2 < 2 = omega arith in omega arith)
linked s is t u ft fu li e h = absurd cc

-- at the right a lead and a bar that it touches end alike
pub right_same : (s : Sheet) (q r : ℕ) → (q ≡ r) ⊎ (q ≡ r + 2) → turns_right q ≡ true → step_right s q ≡ step_right s r
right_same s q r (inl e) turns = ap (step_right s) e
right_same s q zero (inr e) turns = absurd (let k : turns_right q ≡ false = ap turns_right e in cc)
right_same s q (suc r) (inr e) turns = ap (step_right s) (let k : q ≡ suc (suc (suc r)) = omega arith in k)

-- a lead shares points with its bar, and with the one before it, wherever their right ends are
pub bar_over : (s : Sheet) → IsRouted s → (q r : ℕ) → IsStep s r → (q ≡ r) ⊎ (q ≡ r + 2)
    → (share_point (place_of s (Lead q)) (place_of s (Bar r)) ≡ true)
    × (share_point (place_of s (Bar r)) (place_of s (Lead q)) ≡ true)
bar_over s is q r step h =
    let k = bar_lead s q r step h in
    let some = step_wide s is r step in
    go (turns_right q) refl k some
  where
    all : {b c : Bool} → b ≡ true → c ≡ true → (true && (b && c)) ≡ true
    all {b} {c} f g = ap (λ (x : Bool). x && c) f ∙ g

    Over_left : (lead_first s.lag q ≤ r) × (r ≤ q) → 1 ≤ step_right s r
        → (share_point (line_rect s r LeftOf (lead_first s.lag q) q) (line_rect s r Over r r) ≡ true)
        × (share_point (line_rect s r Over r r) (line_rect s r LeftOf (lead_first s.lag q) q) ≡ true)
    Over_left k some = (
      lines_share s is r r refl some LeftOf Over (lead_first s.lag q) q r r
          ∙ all (is_le (lead_first s.lag q) r k.0) (is_le r q k.1),
      lines_share s is r r refl some Over LeftOf r r (lead_first s.lag q) q
          ∙ all (is_le r q k.1) (is_le (lead_first s.lag q) r k.0),
    )

    Over_right : step_right s q ≡ step_right s r → (lead_first s.lag q ≤ r) × (r ≤ q) → 1 ≤ step_right s r
        → (share_point (line_rect s q RightOf (lead_first s.lag q) q) (line_rect s r Over r r) ≡ true)
        × (share_point (line_rect s r Over r r) (line_rect s q RightOf (lead_first s.lag q) q) ≡ true)
    Over_right same k some = (
      lines_share s is q r same some RightOf Over (lead_first s.lag q) q r r
          ∙ all (is_le (lead_first s.lag q) r k.0) (is_le r q k.1),
      lines_share s is r q (sym same) (subst (λ (n : ℕ). 1 ≤ n) (sym same) some) Over RightOf r r
          (lead_first s.lag q) q ∙ all (is_le r q k.1) (is_le (lead_first s.lag q) r k.0),
    )

    go : (b : Bool) → turns_right q ≡ b → (lead_first s.lag q ≤ r) × (r ≤ q) → 1 ≤ step_right s r
        → (share_point (place_of s (Lead q)) (place_of s (Bar r)) ≡ true)
        × (share_point (place_of s (Bar r)) (place_of s (Lead q)) ≡ true)
    go false e k some = rw e (Over_left k some)
    go true e k some = rw e (Over_right (right_same s q r h e) k some)
