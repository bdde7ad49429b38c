-- Rule G2: shapes of one group share a point or are a space apart.
use Rattle.std.proofs.Common.{◌≡◌, ℕ, ◌-◌, ◌≤◌, max, Bool, true, false, not, ◌||◌, ◌&&◌, ◌==◌, refl, ap, ◌∙◌, arith}
use Rattle.std.proofs.Common.{◌⊎◌, inl, inr, pos, negsuc, ℤ, ◌-ℤ◌, nat_lt}
use Rattle.std.proofs.lemmas.Bool.Decides.{nat_tests}
use Rattle.std.proofs.lemmas.Int.{ints}
use Rattle.std.proofs.lemmas.Bool.{or_left, or_right}
use Rattle.layout_make.proofs.Lawful.{IsLawful}
use Rattle.geom.specs.Rectangle.{Rectangle, share_point, positive_part, gap_x, gap_y}
use Rattle.geom.specs.declared.shapes.Shape.{Shape}
use Rattle.layout_make.proofs.Layered.{is_lower, one_group}
use Rattle.layout_rules.specs.GeometryRules.{are_too_close}
use Rattle.layout_make.specs.Sheet.{Sheet, Tag, Area, area, layer_of, rect_of, place_of, shape_of, centre, track_centre}
use Rattle.layout_make.proofs.SheetKeeps.{Fits, Far, IsRouted}
use Rattle.layout_make.proofs.Posts.{Side, posts_far}
use Rattle.layout_make.proofs.Stands.{joint, post_layer, run_layer, HasPost, has_post, HasRun, has_run, runs_far}
use Rattle.layout_make.proofs.Touches.{placed_post, placed_run, same_wire}

pub difference : (z : ℤ) (a b : ℕ) → z ≡ pos a -ℤ pos b → positive_part z ≡ a - b
difference (pos n) a b e = omega (arith, ints)
difference (negsuc n) a b e = omega (arith, ints)

pub gaps : (a b : Area) → (gap_x (rect_of a) (rect_of b) ≡ max (a.left - b.right) (b.left - a.right))
    × (gap_y (rect_of a) (rect_of b) ≡ max (a.low - b.high) (b.low - a.high))
gaps a b = (
  ap (λ (n : ℕ). max n (positive_part (pos b.left -ℤ pos a.right))) (difference _ a.left b.right refl)
      ∙ ap (λ (n : ℕ). max (a.left - b.right) n) (difference _ b.left a.right refl),
  ap (λ (n : ℕ). max n (positive_part (pos b.low -ℤ pos a.high))) (difference _ a.low b.high refl)
      ∙ ap (λ (n : ℕ). max (a.low - b.high) n) (difference _ b.low a.high refl),
)

far_gap : (n : ℕ) (a b : Area) → Far n a b → (n ≤ gap_x (rect_of a) (rect_of b)) ⊎ (n ≤ gap_y (rect_of a) (rect_of b))
far_gap n a b (inl h) = inl (omega (arith, (gaps a b).0))
far_gap n a b (inr (inl h)) = inl (omega (arith, (gaps a b).0))
far_gap n a b (inr (inr (inl h))) = inr (omega (arith, (gaps a b).1))
far_gap n a b (inr (inr (inr h))) = inr (omega (arith, (gaps a b).1))

far_not_close : (n : ℕ) (s t : Shape) (a b : Area) → s.rect ≡ rect_of a → t.rect ≡ rect_of b → Far n a b
    → are_too_close n s t ≡ false
far_not_close n s t a b e f far =
    let g = far_gap n a b far in
    let x : gap_x s.rect t.rect ≡ gap_x (rect_of a) (rect_of b) = ap (λ (r : Rectangle). gap_x r t.rect) e
    ∙ ap (λ (r : Rectangle). gap_x (rect_of a) r) f in
    let y : gap_y s.rect t.rect ≡ gap_y (rect_of a) (rect_of b) = ap (λ (r : Rectangle). gap_y r t.rect) e
    ∙ ap (λ (r : Rectangle). gap_y (rect_of a) r) f in
    plain n (one_group s.layer t.layer) (not (share_point s.rect t.rect)) (gap_x s.rect t.rect) (gap_y s.rect t.rect)
    (gap_x (rect_of a) (rect_of b)) (gap_y (rect_of a) (rect_of b)) x y g
  where
    plain : (n : ℕ) (p q : Bool) (x y u v : ℕ) → x ≡ u → y ≡ v → (n ≤ u) ⊎ (n ≤ v)
        → (p && q && (nat_lt x n && nat_lt y n)) ≡ false
    plain n p q x y u v e f h = grind (arith, nat_tests)

shared_not_close : (n : ℕ) (s t : Shape) → share_point s.rect t.rect ≡ true → are_too_close n s t ≡ false
shared_not_close n s t e = plain (one_group s.layer t.layer) (share_point s.rect t.rect)
    (nat_lt (gap_x s.rect t.rect) n) (nat_lt (gap_y s.rect t.rect) n) e
  where
    plain : (p q a b : Bool) → q ≡ true → (p && not q && (a && b)) ≡ false
    plain p q a b e = grind arith

-- a holds the point x, y
pub record Holds (a : Area) (x y : ℕ) : Type 0 where
  pub left_so : a.left ≤ x
  pub right_so : x ≤ a.right
  pub low_so : a.low ≤ y
  pub high_so : y ≤ a.high

pub held_shared : (a b : Area) (x y : ℕ) → Holds a x y → Holds b x y → share_point (rect_of a) (rect_of b) ≡ true
held_shared a b x y p q = grind (arith, nat_tests)

apart : (x p q r : Bool) → x ≡ false → (x && p && (q && r)) ≡ false
apart x p q r e = grind arith

groups : (la lb a11 b11 a12 b12 : Bool) → ((la && lb) || (a11 && b11) || (a12 && b12)) ≡ true
    → ((la ≡ true) × (lb ≡ true)) ⊎ (((a11 ≡ true) × (b11 ≡ true)) ⊎ ((a12 ≡ true) × (b12 ≡ true)))
groups la lb a11 b11 a12 b12 e = grind arith

-- two pieces of M1 or pins of one post
lower_near : (s : Sheet) → IsLawful s.library → (t u : Tag) → HasPost s t → HasPost s u → is_lower (layer_of t) ≡ true
    → is_lower (layer_of u) ≡ true → Far s.library.space (area s t) (area s u)
    ⊎ (share_point (rect_of (area s t)) (rect_of (area s u)) ≡ true)
lower_near s laws t u p q lt lu =
    elim (posts_far s.library s.used laws p.side q.side p.column q.column p.row q.row (area s t) (area s u) p.stands
    q.stands) [
      | inl far ↦ inl far
      | inr same ↦ inr (
          let j : joint s p.side p.row ≡ joint s q.side q.row = ap (λ (x : Side). joint s x p.row) same.0
          ∙ ap (λ (x : ℕ). joint s q.side x) same.2 in
          let c : centre s.library p.column ≡ centre s.library q.column = ap (λ (x : ℕ). centre s.library x) same.1 in
          let a = p.joint_held lt in let b = q.joint_held lu in
          let pl = p.left_held in let pr = p.right_held in let ql = q.left_held in let qr = q.right_held in
          let hp : Holds (area s t) (centre s.library p.column) (joint s p.side p.row) = record {
            left_so = omega arith;
            right_so = omega arith;
            low_so = a.0;
            high_so = a.1;
          } in
          let hq : Holds (area s u) (centre s.library p.column) (joint s p.side p.row) = record {
            left_so = omega arith;
            right_so = omega arith;
            low_so = omega arith;
            high_so = omega arith;
          } in
          held_shared (area s t) (area s u) _ _ hp hq
          )
    ]

-- two vias
via_near : (s : Sheet) → IsRouted s → (t u : Tag) → HasPost s t → HasPost s u → HasRun s t → HasRun s u
    → Far s.library.space (area s t) (area s u) ⊎ (share_point (rect_of (area s t)) (rect_of (area s u)) ≡ true)
via_near s is t u p q m n =
    elim (posts_far s.library s.used is.laws p.side q.side p.column q.column p.row q.row (area s t) (area s u) p.stands
    q.stands) [
      | inl far ↦ inl far
      | inr same ↦ elim (runs_far s.library s.used is.laws m.row n.row (s.track m.row m.column) (s.track n.row n.column)
          m.least m.most n.least n.most (area s t) (area s u) m.lies n.lies) [
            | inl far ↦ inl far
            | inr run ↦ inr (
                let c : centre s.library p.column ≡ centre s.library q.column = ap (λ (x : ℕ). centre s.library x)
                same.1 in
                let k : track_centre s.library s.used m.row (s.track m.row m.column) ≡ track_centre s.library s.used
                n.row
                (s.track n.row n.column) = ap (λ (x : ℕ). track_centre s.library s.used m.row x) run.1
                ∙ ap (λ (x : ℕ). track_centre s.library s.used x (s.track n.row n.column)) run.0 in
                let pl = p.left_held in let pr = p.right_held in let ql = q.left_held in let qr = q.right_held in
                let ml = m.low_held in let mh = m.high_held in let nl = n.low_held in let nh = n.high_held in
                let hp : Holds (area s t) (centre s.library p.column)
                (track_centre s.library s.used m.row (s.track m.row m.column)) =
                record { left_so = omega arith; right_so = omega arith; low_so = omega arith; high_so = omega arith } in
                let hq : Holds (area s u) (centre s.library p.column)
                (track_centre s.library s.used m.row (s.track m.row m.column)) =
                record { left_so = omega arith; right_so = omega arith; low_so = omega arith; high_so = omega arith } in
                held_shared (area s t) (area s u) _ _ hp hq
                )
          ]
    ]

-- two pieces of M2
across_near : (s : Sheet) → IsRouted s → (t u : Tag) → HasRun s t → HasRun s u → (layer_of t == 12) ≡ true
    → (layer_of u == 12) ≡ true → Far s.library.space (area s t) (area s u)
    ⊎ (share_point (rect_of (area s t)) (rect_of (area s u)) ≡ true)
across_near s is t u m n lt lu =
    elim (runs_far s.library s.used is.laws m.row n.row (s.track m.row m.column) (s.track n.row n.column) m.least
    m.most n.least n.most (area s t) (area s u) m.lies n.lies) [
      | inl far ↦ inl far
      | inr run ↦ inr (
          let w : m.column ≡ n.column = same_wire s is t u m n run.0 run.1 run.2 run.3 in
          let k : track_centre s.library s.used m.row (s.track m.row m.column) ≡ track_centre s.library s.used n.row
          (s.track n.row n.column) = ap (λ (x : ℕ). track_centre s.library s.used m.row x) run.1
          ∙ ap (λ (x : ℕ). track_centre s.library s.used x (s.track n.row n.column)) run.0 in
          let to : s.to m.row m.column ≡ s.to n.row n.column = ap (λ (x : ℕ). s.to x m.column) run.0
          ∙ ap (λ (x : ℕ). s.to n.row x) w in
          let e : m.least ≡ n.least = omega (arith, m.whole lt, n.whole lu) in
          let c : centre s.library m.least ≡ centre s.library n.least = ap (λ (x : ℕ). centre s.library x) e in
          let ml = m.low_held in let mh = m.high_held in let nl = n.low_held in let nh = n.high_held in
          let xl = m.left_held in let xr = m.right_held in let yl = n.left_held in let yr = n.right_held in
          let hp : Holds (area s t) (centre s.library m.least)
          (track_centre s.library s.used m.row (s.track m.row m.column)) =
          record { left_so = omega arith; right_so = omega arith; low_so = omega arith; high_so = omega arith } in
          let hq : Holds (area s u) (centre s.library m.least)
          (track_centre s.library s.used m.row (s.track m.row m.column)) =
          record { left_so = omega arith; right_so = omega arith; low_so = omega arith; high_so = omega arith } in
          held_shared (area s t) (area s u) _ _ hp hq
          )
    ]

near_not_close : (s : Sheet) (t u : Tag) → place_of s t ≡ rect_of (area s t) → place_of s u ≡ rect_of (area s u)
    → Far s.library.space (area s t) (area s u) ⊎ (share_point (rect_of (area s t)) (rect_of (area s u)) ≡ true)
    → are_too_close s.library.space (shape_of s t) (shape_of s u) ≡ false
near_not_close s t u e f (inl far) = far_not_close s.library.space (shape_of s t) (shape_of s u) (area s t) (area s u)
    e f far
near_not_close s t u e f (inr h) = shared_not_close s.library.space (shape_of s t) (shape_of s u)
    (ap (λ (r : Rectangle). share_point r (place_of s u)) e
    ∙ ap (λ (r : Rectangle). share_point (rect_of (area s t)) r) f ∙ h)

pub spaced : (s : Sheet) → IsRouted s → (t u : Tag) → Fits s t → Fits s u
    → are_too_close s.library.space (shape_of s t) (shape_of s u) ≡ false
spaced s is t u ft fu = go (one_group (layer_of t) (layer_of u)) refl
  where
    grouped : one_group (layer_of t) (layer_of u) ≡ true → are_too_close s.library.space (shape_of s t)
        (shape_of s u) ≡ false
    grouped e =
        elim (groups (is_lower (layer_of t)) (is_lower (layer_of u)) (layer_of t == 11) (layer_of u == 11)
        (layer_of t == 12) (layer_of u == 12) e) [
          | inl low ↦
              let pt : post_layer (layer_of t) ≡ true = or_left (is_lower (layer_of t)) (layer_of t == 11) low.0 in
              let pu : post_layer (layer_of u) ≡ true = or_left (is_lower (layer_of u)) (layer_of u == 11) low.1 in
              near_not_close s t u (placed_post s t pt) (placed_post s u pu)
              (lower_near s is.laws t u (has_post s is.laws t ft pt) (has_post s is.laws u fu pu) low.0 low.1)
          | inr h ↦ elim h [
            | inl via ↦
                let pt : post_layer (layer_of t) ≡ true = or_right (is_lower (layer_of t)) (layer_of t == 11) via.0 in
                let pu : post_layer (layer_of u) ≡ true = or_right (is_lower (layer_of u)) (layer_of u == 11) via.1 in
                let rt : run_layer (layer_of t) ≡ true = or_left (layer_of t == 11) (layer_of t == 12) via.0 in
                let ru : run_layer (layer_of u) ≡ true = or_left (layer_of u == 11) (layer_of u == 12) via.1 in
                near_not_close s t u (placed_post s t pt) (placed_post s u pu)
                (via_near s is t u (has_post s is.laws t ft pt) (has_post s is.laws u fu pu)
                (has_run s is.laws t ft rt) (has_run s is.laws u fu ru))
            | inr across ↦
                let rt : run_layer (layer_of t) ≡ true = or_right (layer_of t == 11) (layer_of t == 12) across.0 in
                let ru : run_layer (layer_of u) ≡ true = or_right (layer_of u == 11) (layer_of u == 12) across.1 in
                near_not_close s t u (placed_run s t rt) (placed_run s u ru)
                (across_near s is t u (has_run s is.laws t ft rt) (has_run s is.laws u fu ru) across.0 across.1)
          ]
        ]

    go : (b : Bool) → one_group (layer_of t) (layer_of u) ≡ b → are_too_close s.library.space (shape_of s t)
        (shape_of s u) ≡ false
    go true e = grouped e
    go false e = apart (one_group (layer_of t) (layer_of u)) (not (share_point (place_of s t) (place_of s u)))
        (nat_lt (gap_x (place_of s t) (place_of s u)) s.library.space)
        (nat_lt (gap_y (place_of s t) (place_of s u)) s.library.space) e
