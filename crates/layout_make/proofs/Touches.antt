-- Shapes that touch are of one net.
use Rattle.std.proofs.Common.{◌≡◌, ℕ, suc, ◌%◌, ◌≤◌, min, max, Bool, true, ◌||◌, ◌&&◌, eqb, refl}
use Rattle.std.proofs.Common.{sym, ap, subst, ◌∙◌, arith, ◌⊎◌, inl, inr}
use Rattle.std.proofs.lemmas.Bool.Decides.{nat_tests}
use Rattle.std.proofs.lemmas.Bool.{and_parts}
use Rattle.geom.specs.Rectangle.{Rectangle, share_point}
use Rattle.layout_make.proofs.Layered.{is_lower, conduct}
use Rattle.layout_rules.specs.Touch.{touch}
use Rattle.layout_make.specs.Sheet.{Sheet, Tag, Area, Lead, Bar}
use Rattle.layout_make.specs.Sheet.{area, layer_of, rect_of, place_of, shape_of}
use Rattle.layout_make.specs.Nets.{Into, net_of}
use Rattle.layout_make.proofs.SheetKeeps.{IsWire, Fits, Far, IsRouted}
use Rattle.layout_make.proofs.Posts.{Side, posts_far}
use Rattle.layout_make.proofs.Stands.{post_layer, run_layer, no_post, no_run, post_net, HasPost, has_post, HasRun}
use Rattle.layout_make.proofs.Stands.{has_run}
use Rattle.layout_make.proofs.Stands.{runs_far}

pub far_apart : (n : ℕ) (a b : Area) → 1 ≤ n → Far n a b → share_point (rect_of a) (rect_of b) ≡ true → ⊥
far_apart n a b some (inl h) e = grind (arith, nat_tests)
far_apart n a b some (inr (inl h)) e = grind (arith, nat_tests)
far_apart n a b some (inr (inr (inl h))) e = grind (arith, nat_tests)
far_apart n a b some (inr (inr (inr h))) e = grind (arith, nat_tests)

-- what two shapes that conduct have in common, by what their layers are
by_layers : (la lb a12 b12 a11 b11 : Bool)
    → ((la && lb) || (a12 && b12) || (a11 && (lb || b12)) || (b11 && (la || a12))) ≡ true
    → (((la || a11) ≡ true) × ((lb || b11) ≡ true)) ⊎ (((a11 || a12) ≡ true) × ((b11 || b12) ≡ true))
by_layers la lb a12 b12 a11 b11 e = grind arith

pub conducting : (a b : ℕ) → conduct a b ≡ true → ((post_layer a ≡ true) × (post_layer b ≡ true))
    ⊎ ((run_layer a ≡ true) × (run_layer b ≡ true))
conducting a b e = by_layers (is_lower a) (is_lower b) (eqb a 12) (eqb b 12) (eqb a 11) (eqb b 11) e

-- only leads reach left of the origin
pub placed_post : (s : Sheet) (tag : Tag) → post_layer (layer_of tag) ≡ true → place_of s tag ≡ rect_of (area s tag)
placed_post s (Lead r) e = absurd (no_post (suc r % 2) (omega arith) e)
placed_post s (Bar r) e = absurd (no_post (suc r % 2) (omega arith) e)
placed_post s tag e = refl

pub placed_run : (s : Sheet) (tag : Tag) → run_layer (layer_of tag) ≡ true → place_of s tag ≡ rect_of (area s tag)
placed_run s (Lead r) e = absurd (no_run (suc r % 2) (omega arith) e)
placed_run s (Bar r) e = absurd (no_run (suc r % 2) (omega arith) e)
placed_run s tag e = refl

by_posts : (s : Sheet) → IsRouted s → (t u : Tag) → HasPost s t → HasPost s u
    → Far s.library.space (area s t) (area s u) ⊎ (net_of s t ≡ net_of s u)
by_posts s is t u p q =
    elim (posts_far s.library s.used is.laws p.side q.side p.column q.column p.row q.row (area s t) (area s u) p.stands
    q.stands) [
      | inl far ↦ inl far
      | inr same ↦ inr (p.net_so ∙ ap (λ (x : Side). post_net s x p.column p.row) same.0
          ∙ ap (λ (x : ℕ). post_net s q.side x p.row) same.1 ∙ ap (λ (x : ℕ). post_net s q.side q.column x) same.2
          ∙ sym q.net_so)
    ]

pub same_wire : (s : Sheet) → IsRouted s → (t u : Tag) (p : HasRun s t) (q : HasRun s u) → p.row ≡ q.row
    → s.track p.row p.column ≡ s.track q.row q.column → p.least ≤ q.most → q.least ≤ p.most → p.column ≡ q.column
same_wire s is t u p q row track a b =
    let w : IsWire s p.row q.column = subst (λ (x : ℕ). IsWire s x q.column) (sym row) q.wire in
    let e : s.track p.row p.column ≡ s.track p.row q.column = track ∙ ap (λ (x : ℕ). s.track x q.column) (sym row) in
    let f : s.to p.row q.column ≡ s.to q.row q.column = ap (λ (x : ℕ). s.to x q.column) row in
    let pl = p.least_so in let pm = p.most_so in let ql = q.least_so in let qm = q.most_so in
    let low : min p.column (s.to p.row p.column) ≤ max q.column (s.to p.row q.column) = rw f (omega arith) in
    let high : min q.column (s.to p.row q.column) ≤ max p.column (s.to p.row p.column) = rw f (omega arith) in
    is.one_wire p.row p.column q.column p.wire w e low high

by_runs : (s : Sheet) → IsRouted s → (t u : Tag) → HasRun s t → HasRun s u → Far s.library.space (area s t) (area s u)
    ⊎ (net_of s t ≡ net_of s u)
by_runs s is t u p q =
    elim (runs_far s.library s.used is.laws p.row q.row (s.track p.row p.column) (s.track q.row q.column) p.least
    p.most q.least q.most (area s t) (area s u) p.lies q.lies) [
      | inl far ↦ inl far
      | inr same ↦ inr (
          let c : p.column ≡ q.column = same_wire s is t u p q same.0 same.1 same.2 same.3 in
          p.net_so ∙ ap (λ (x : ℕ). Into (suc x) (s.to x p.column)) same.0
          ∙ ap (λ (x : ℕ). Into (suc q.row) (s.to q.row x)) c ∙ sym q.net_so
          )
    ]

shared : (a b : Rectangle) (c d : Area) → a ≡ rect_of c → b ≡ rect_of d → share_point a b ≡ true
    → share_point (rect_of c) (rect_of d) ≡ true
shared a b c d e f h = ap (λ (x : Rectangle). share_point x (rect_of d)) (sym e)
    ∙ ap (λ (x : Rectangle). share_point a x) (sym f) ∙ h

pub touch_is_one_net : (s : Sheet) → IsRouted s → (t u : Tag) → Fits s t → Fits s u
    → touch (shape_of s t) (shape_of s u) ≡ true → net_of s t ≡ net_of s u
touch_is_one_net s is t u ft fu e =
    let parts = and_parts (conduct (layer_of t) (layer_of u)) (share_point (place_of s t) (place_of s u)) e in
    elim (conducting (layer_of t) (layer_of u) parts.0) [
      | inl p ↦ elim (by_posts s is t u (has_post s is.laws t ft p.0) (has_post s is.laws u fu p.1)) [
        | inl far ↦ absurd (far_apart s.library.space (area s t) (area s u) is.laws.space_some far
            (shared _ _ _ _ (placed_post s t p.0) (placed_post s u p.1) parts.1))
        | inr same ↦ same
      ]
      | inr p ↦ elim (by_runs s is t u (has_run s is.laws t ft p.0) (has_run s is.laws u fu p.1)) [
        | inl far ↦ absurd (far_apart s.library.space (area s t) (area s u) is.laws.space_some far
            (shared _ _ _ _ (placed_run s t p.0) (placed_run s u p.1) parts.1))
        | inr same ↦ same
      ]
    ]
