-- Rule E2 (e), (f): the edges of bars, directions and phases, and the one bar of each frame.
use Rattle.std.proofs.Common.{◌≡◌, ℕ, zero, suc, ◌+◌, ◌*◌, ◌%◌, ◌<◌, ◌≤◌, Bool, true, false, not, ◌&&◌, ◌||◌, ◌==◌}
use Rattle.std.proofs.Common.{refl, sym, ap, subst, ◌∙◌, arith}
use Rattle.std.proofs.Common.{◌⊎◌, inl, inr, if◌then◌else◌, pos, neg_ℤ, ℤ, int_le, int_lt, nat_lt}
use Rattle.std.proofs.lemmas.Bool.{cases_order, cases_lt}
use Rattle.std.proofs.lemmas.Bool.Decides.{nat_tests}
use Rattle.circuit.specs.CellKinds.{slots_of}
use Rattle.geom.specs.Rectangle.{meet_x, meet_y, share_point, share_x, share_y, overlap, within, left_edge, right_edge}
use Rattle.layout_make.specs.Sheet.{Sheet, Frame, Lead, Bar, Flank, LeftOf, Over, RightOf, turns_right, lead_flank}
use Rattle.layout_make.specs.Sheet.{lead_first, line_rect, flank_rect, step_low, step_high, step_right, place_of}
use Rattle.layout_make.specs.Sheet.{shape_of}
use Rattle.layout_make.specs.Sheet.{lower_edge}
use Rattle.cell_library.specs.Library.{LibraryView}
use Rattle.layout_make.proofs.SheetKeeps.{Fits, IsRouted, IsStep}
use Rattle.layout_rules.specs.ExcitationLines.{enters, leaves, phase_of}
use Rattle.layout_make.proofs.Columns.{next_edge, edges_apart}
use Rattle.layout_make.proofs.LineShapes.{spans_share, below_zero, bar_lead, is_le, step_wide, right_same}
use Rattle.layout_make.proofs.Comparing.{four, lt_of}

abbrev is_left : Flank → Bool
is_left LeftOf = true
is_left f = false

abbrev is_right : Flank → Bool
is_right RightOf = true
is_right f = false

-- the spans of a bar's lead meet
spans_meet : (s : Sheet) → IsRouted s → (q r : ℕ) → IsStep s r → (q ≡ r) ⊎ (q ≡ r + 2)
    → share_y (place_of s (Lead q)) (place_of s (Bar r)) ≡ true
spans_meet s is q r step l = let k = bar_lead s q r step l in
    spans_share s is.laws q r (lead_flank q) Over (lead_first s.lag q) q r r
    ∙ both (is_le (lead_first s.lag q) r k.0) (is_le r q k.1)
  where
    both : {a b : Bool} → a ≡ true → b ≡ true → (a && b) ≡ true
    both {a} {b} e f = ap (λ (x : Bool). x && b) e ∙ f

left_of : (l : LibraryView) (w v : ℕ) → 1 ≤ v → (b : Bool) → (b ≡ true → w ≡ v) → (low high c d : ℤ)
    → (share_x (flank_rect l w (if b then RightOf else LeftOf) low high) (left_edge (flank_rect l v Over c d)) ≡ not b)
    × (share_x (flank_rect l w (if b then RightOf else LeftOf) low high) (right_edge (flank_rect l v Over c d)) ≡ b)
left_of l w v some true same low high c d =
    subst (λ (n : ℕ). (share_x (flank_rect l n RightOf low high) (left_edge (flank_rect l v Over c d)) ≡ false)
    × (share_x (flank_rect l n RightOf low high) (right_edge (flank_rect l v Over c d)) ≡ true)) (sym (same refl))
    (right v (2 * l.pitch) some)
  where
    right : (w p : ℕ) → 1 ≤ w → ((int_le (pos w) (pos 0) && int_le (pos 0) (pos (w + p))) ≡ false)
        × ((int_le (pos w) (pos w) && int_le (pos w) (pos (w + p))) ≡ true)
    right w p some = (grind (arith, nat_tests), grind (arith, nat_tests))
left_of l w v some false same low high c d =
    (left (2 * l.pitch), plain v (int_le (neg_ℤ (pos (2 * l.pitch))) (pos v)) some)
  where
    plain : (w : ℕ) (x : Bool) → 1 ≤ w → (x && int_le (pos w) (pos 0)) ≡ false
    plain w x some = grind (arith, nat_tests)

    left : (p : ℕ) → (int_le (neg_ℤ (pos p)) (pos 0) && int_le (pos 0) (pos 0)) ≡ true
    left p = let k = below_zero p in cc

-- a lead shares a point with the edge of a bar on its own flank alone
pub lead_edges : (s : Sheet) → IsRouted s → (q r : ℕ) → IsStep s r → (q ≡ r) ⊎ (q ≡ r + 2)
    → (share_point (place_of s (Lead q)) (left_edge (place_of s (Bar r))) ≡ not (turns_right q))
    × (share_point (place_of s (Lead q)) (right_edge (place_of s (Bar r))) ≡ turns_right q)
lead_edges s is q r step l =
    let x = left_of s.library (step_right s q) (step_right s r) (step_wide s is r step) (turns_right q)
    (right_same s q r l) (step_low s (lead_first s.lag q)) (step_high s q) (step_low s r) (step_high s r) in
    let y = spans_meet s is q r step l in (
      ap (λ (b : Bool). b && share_y (place_of s (Lead q)) (place_of s (Bar r))) x.0
          ∙ ap (λ (b : Bool). not (turns_right q) && b) y ∙ and_true (not (turns_right q)),
      ap (λ (b : Bool). b && share_y (place_of s (Lead q)) (place_of s (Bar r))) x.1
          ∙ ap (λ (b : Bool). turns_right q && b) y ∙ and_true (turns_right q),
    )
  where
    and_true : (b : Bool) → (b && true) ≡ b
    and_true true = refl
    and_true false = refl

-- the next link leaves at the other edge
pub turns_back : (n : ℕ) → turns_right (n + 2) ≡ not (turns_right n)
turns_back n =
    plain (suc n % 4) (suc (n + 2) % 4)
    (elim (cases_lt (suc n % 4) 2) [ inl lt ↦ inl (lt, omega arith) | inr le ↦ inr (le, omega arith) ])
  where
    plain : (a b : ℕ) → ((a < 2) × (2 ≤ b)) ⊎ ((2 ≤ a) × (b < 2)) → nat_lt b 2 ≡ not (nat_lt a 2)
    plain a b (inl h) = grind (arith, nat_tests)
    plain a b (inr h) = grind (arith, nat_tests)

-- a line comes to a bar by its lead, and leaves it by the next one at the other edge
pub bar_entered : (s : Sheet) → IsRouted s → (r : ℕ) → IsStep s r
    → enters (shape_of s (Lead r)) (shape_of s (Bar r)) ≡ true
bar_entered s is r step = let k = lead_edges s is r r step (inl refl) in plain _ _ (turns_right r) k.0 k.1
  where
    plain : (x y t : Bool) → x ≡ not t → y ≡ t → ((x && not y) || (y && not x)) ≡ true
    plain x y true e f = rw (e, f) refl
    plain x y false e f = rw (e, f) refl

pub bar_left : (s : Sheet) → IsRouted s → (r : ℕ) → IsStep s r
    → leaves (shape_of s (Lead r)) (shape_of s (Bar r)) (shape_of s (Lead (r + 2))) ≡ true
bar_left s is r step =
    let k = lead_edges s is r r step (inl refl) in
    let m = lead_edges s is (r + 2) r step (inr refl) in
    plain _ _ _ (turns_right r) k.0 (m.0 ∙ ap (λ (b : Bool). not b) (turns_back r)) (m.1 ∙ turns_back r)
  where
    plain : (x u v t : Bool) → x ≡ not t → u ≡ not (not t) → v ≡ not t
        → (if x then v && not u else u && not v) ≡ true
    plain x u v true e f g = rw (e, f, g) refl
    plain x u v false e f g = rw (e, f, g) refl

-- the phase of a bar is its row mod 4
turns_row : (r : ℕ) → turns_right (suc r) ≡ nat_lt 1 (r % 4)
turns_row r = plain (suc (suc r) % 4) (r % 4)
    (elim (cases_lt 1 (r % 4)) [ inl lt ↦ inl (lt, omega arith) | inr le ↦ inr (le, omega arith) ])
  where
    plain : (a b : ℕ) → ((1 < b) × (a < 2)) ⊎ ((b ≤ 1) × (2 ≤ a)) → nat_lt a 2 ≡ nat_lt 1 b
    plain a b (inl h) = grind (arith, nat_tests)
    plain a b (inr h) = grind (arith, nat_tests)

pub bar_phase : (s : Sheet) → IsRouted s → (r : ℕ) → IsStep s (suc r)
    → phase_of (shape_of s (Lead (suc r))) (shape_of s (Bar (suc r))) ≡ r % 4
bar_phase s is r step =
    ap (λ (b : Bool). if (14 + suc (suc r) % 2) == 14 then (if b then 0 else 2) else (if b then 1 else 3))
    ((lead_edges s is (suc r) (suc r) step (inl refl)).0 ∙ ap (λ (b : Bool). not b) (turns_row r))
    ∙ ap (λ (n : ℕ). if (14 + n) == 14 then (if not (nat_lt 1 (r % 4)) then 0 else 2)
    else (if not (nat_lt 1 (r % 4)) then 1 else 3)) (let k : suc (suc r) % 2 ≡ r % 4 % 2 = omega arith in k)
    ∙ plain (r % 4) (omega arith)
  where
    plain : (n : ℕ) → n < 4 → (if (14 + n % 2) == 14 then (if not (nat_lt 1 n) then 0 else 2)
        else (if not (nat_lt 1 n) then 1 else 3)) ≡ n
    plain zero h = refl
    plain (suc zero) h = refl
    plain (suc (suc zero)) h = refl
    plain (suc (suc (suc zero))) h = refl
    plain (suc (suc (suc (suc n)))) h = absurd (omega arith)

-- E2 (f): a bar overlaps the frames of its own row alone, and contains them; a lead overlaps none

low_not : (x n : ℕ) → int_lt (pos x) (neg_ℤ (pos n)) ≡ false
low_not x zero = grind (arith, nat_tests)
low_not x (suc n) = refl

pub bar_frame : (s : Sheet) → IsRouted s → (n q slot : ℕ) (k : _)
    → overlap (place_of s (Bar n)) (place_of s (Frame q slot k)) ≡ true → n ≡ suc q
bar_frame s is zero q slot k e =
    let h = four (int_lt (pos 0) (pos ((slot + slots_of k) * (s.library.columns * s.library.pitch))))
    (int_lt (pos (slot * (s.library.columns * s.library.pitch))) (pos s.lag))
    (int_lt (neg_ℤ (pos (2 * s.library.height))) (pos (lower_edge s q + s.library.height)))
    (int_lt (pos (lower_edge s q)) (neg_ℤ (pos s.library.height))) e in
    absurd (let z : true ≡ false = sym h.3 ∙ low_not (lower_edge s q) s.library.height in cc)
bar_frame s is (suc r) q slot k e =
    let h = four (int_lt (pos 0) (pos ((slot + slots_of k) * (s.library.columns * s.library.pitch))))
    (int_lt (pos (slot * (s.library.columns * s.library.pitch))) (pos s.right))
    (int_lt (pos (lower_edge s r)) (pos (lower_edge s q + s.library.height)))
    (int_lt (pos (lower_edge s q)) (pos (lower_edge s r + s.library.height))) e in
    let a = lt_of (lower_edge s r) (lower_edge s q + s.library.height) h.2 in
    let b = lt_of (lower_edge s q) (lower_edge s r + s.library.height) h.3 in
    elim (cases_order r q) [
      | inl same ↦ ap suc same
      | inr o ↦ elim o [
        | inl lt ↦ absurd (let x = edges_apart s.library s.used r q lt in let y = next_edge s.library s.used r in
            omega arith)
        | inr lt ↦ absurd (let x = edges_apart s.library s.used q r lt in let y = next_edge s.library s.used q in
            omega arith)
      ]
    ]

pub frame_in_bar : (s : Sheet) → (r slot : ℕ) (k : _) → Fits s (Frame r slot k)
    → within (place_of s (Frame r slot k)) (place_of s (Bar (suc r))) ≡ true
frame_in_bar s r slot k fits = plain (slot * (s.library.columns * s.library.pitch))
    ((slot + slots_of k) * (s.library.columns * s.library.pitch)) s.right (lower_edge s r)
    (lower_edge s r + s.library.height) fits.1
  where
    plain : (a b w l h : ℕ) → b ≤ w
        → (int_le (pos 0) (pos a) && int_le (pos b) (pos w) && (int_le (pos l) (pos l) && int_le (pos h) (pos h))) ≡
        true
    plain a b w l h le = grind (arith, nat_tests)

pub lead_frame : (s : Sheet) → (n q slot : ℕ) (k : _) → Fits s (Frame q slot k)
    → overlap (place_of s (Lead n)) (place_of s (Frame q slot k)) ≡ false
lead_frame s zero q slot k fits =
    below (meet_x (place_of s (Lead 0)) (place_of s (Frame q slot k)))
    (int_lt (neg_ℤ (pos (2 * s.library.height))) (pos (lower_edge s q + s.library.height)))
    (int_lt (pos (lower_edge s q)) (neg_ℤ (pos s.library.height))) (low_not (lower_edge s q) s.library.height)
  where
    below : (x y z : Bool) → z ≡ false → (x && (y && z)) ≡ false
    below true true z e = e
    below true false z e = refl
    below false y z e = refl
lead_frame s (suc r) q slot k fits = go (turns_right (suc r))
  where
    right : (w b : ℕ) (x y : Bool) → b ≤ w → (int_lt (pos w) (pos b) && x && y) ≡ false
    right w b x y le = grind (arith, nat_tests)

    left : (a : ℕ) (x y : Bool) → (x && int_lt (pos a) (pos 0) && y) ≡ false
    left a x y = grind (arith, nat_tests)

    go : (b : Bool) → overlap (line_rect s (suc r) (if b then RightOf else LeftOf) (lead_first s.lag (suc r)) (suc r))
        (place_of s (Frame q slot k)) ≡ false
    go true = right s.right ((slot + slots_of k) * (s.library.columns * s.library.pitch))
        (int_lt (pos (slot * (s.library.columns * s.library.pitch))) (pos (s.right + 2 * s.library.pitch)))
        (meet_y (line_rect s (suc r) RightOf (lead_first s.lag (suc r)) (suc r)) (place_of s (Frame q slot k))) fits.1
    go false = left (slot * (s.library.columns * s.library.pitch))
        (int_lt (neg_ℤ (pos (2 * s.library.pitch)))
        (pos ((slot + slots_of k) * (s.library.columns * s.library.pitch))))
        (meet_y (line_rect s (suc r) LeftOf (lead_first s.lag (suc r)) (suc r)) (place_of s (Frame q slot k)))
