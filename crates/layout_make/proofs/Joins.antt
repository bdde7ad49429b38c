-- Joined shapes are of one net, and a wire's shapes are joined with its two pins.
use Rattle.std.proofs.Common.{◌≡◌, ℕ, zero, suc, ◌+◌, ◌<◌, min, max, Bool, true, false, ◌&&◌, refl, sym, ap, subst, ◌∙◌}
use Rattle.std.proofs.Common.{arith, List, [], ◌∷◌, map, Some, slice_get}
use Rattle.std.proofs.lemmas.Option.{same_Some}
use Rattle.layout_make.proofs.Lawful.{IsLawful}
use Rattle.geom.specs.Rectangle.{Rectangle, share_point}
use Rattle.geom.specs.declared.shapes.Shape.{Shape}
use Rattle.layout_make.proofs.Layered.{conduct}
use Rattle.layout_rules.specs.Touch.{touch, Touching, IsPath, Joined}
use Rattle.layout_make.specs.Sheet.{Sheet, Tag, InPin, OutPin, Rise, Fall, Across, FromVia, ToVia, area, layer_of}
use Rattle.layout_make.specs.Sheet.{rect_of, place_of, shape_of, centre, lower_edge, track_of}
use Rattle.layout_make.specs.Nets.{Into, net_of, output_net}
use Rattle.layout_make.proofs.SheetKeeps.{IsWire, IsDrawn}
use Rattle.layout_make.specs.Tags.{At}
use Rattle.layout_make.proofs.Columns.{centre_rises, track_above, track_below}
use Rattle.layout_make.proofs.Touches.{touch_is_one_net}
use Rattle.layout_make.proofs.Spaced.{Holds, held_shared}

pub from_map : {A B : Type 0} (f : A → B) (xs : List A) (i : ℕ) (y : B) → slice_get (map f xs) i ≡ Some y
    → (x : A) × (slice_get xs i ≡ Some x) × (f x ≡ y)
from_map f [] i y e = absurd cc
from_map f (x ∷ xs) zero y e = (x, refl, same_Some _ _ e)
from_map f (x ∷ xs) (suc i) y e = from_map f xs i y e

pub to_map : {A B : Type 0} (f : A → B) (xs : List A) (i : ℕ) (x : A) → slice_get xs i ≡ Some x
    → slice_get (map f xs) i ≡ Some (f x)
to_map f [] i x e = absurd cc
to_map f (y ∷ xs) zero x e = ap (λ (z : _). Some (f z)) (same_Some _ _ e)
to_map f (y ∷ xs) (suc i) x e = to_map f xs i x e

abbrev pub shapes_of : Sheet → List Tag → List Shape
shapes_of s ts = map (shape_of s) ts

pub touching_net : (s : Sheet) (ts : List Tag) → IsDrawn s ts → (i j : ℕ) (t u : Tag) → At ts i t → At ts j u
    → Touching (shapes_of s ts) i j → net_of s t ≡ net_of s u
touching_net s ts is i j t u at au h =
    let e : shape_of s t ≡ h.first = same_Some _ _ (sym (to_map (shape_of s) ts i t at) ∙ h.first_is) in
    let f : shape_of s u ≡ h.second = same_Some _ _ (sym (to_map (shape_of s) ts j u au) ∙ h.second_is) in
    touch_is_one_net s is.routed t u (is.fits i t at) (is.fits j u au) (ap (λ (x : Shape). touch x (shape_of s u)) e
    ∙ ap (λ (x : Shape). touch h.first x) f ∙ h.touch_so)

pub same_at : (ts : List Tag) (i : ℕ) (t u : Tag) → At ts i t → At ts i u → t ≡ u
same_at ts i t u at au = same_Some _ _ (sym at ∙ au)

path_net : (s : Sheet) (ts : List Tag) → IsDrawn s ts → (path : List ℕ) (i j : ℕ) (t u : Tag) → At ts i t → At ts j u
    → IsPath (shapes_of s ts) i path j → net_of s t ≡ net_of s u
path_net s ts is [] i j t u at au p = ap (net_of s) (same_at ts j t u (subst (λ (n : ℕ). At ts n t) p at) au)
path_net s ts is (m ∷ path) i j t u at au p =
    let h = p.0 in
    let found = from_map (shape_of s) ts m h.second h.second_is in
    touching_net s ts is i m t found.0 at found.1 h ∙ path_net s ts is path m j found.0 u found.1 au p.1

-- what is joined is of one net
pub joined_net : (s : Sheet) (ts : List Tag) → IsDrawn s ts → (i j : ℕ) (t u : Tag) → At ts i t → At ts j u
    → Joined (shapes_of s ts) i j → net_of s t ≡ net_of s u
joined_net s ts is i j t u at au p = path_net s ts is p.0 i j t u at au p.1

-- the links of a wire

touch_at : (s : Sheet) (t u : Tag) (x y : ℕ) → conduct (layer_of t) (layer_of u) ≡ true
    → place_of s t ≡ rect_of (area s t) → place_of s u ≡ rect_of (area s u) → Holds (area s t) x y
    → Holds (area s u) x y → touch (shape_of s t) (shape_of s u) ≡ true
touch_at s t u x y c e f p q = ands (conduct (layer_of t) (layer_of u)) (share_point (place_of s t) (place_of s u)) c
    (ap (λ (r : Rectangle). share_point r (place_of s u)) e
    ∙ ap (λ (r : Rectangle). share_point (rect_of (area s t)) r) f ∙ held_shared (area s t) (area s u) x y p q)
  where
    ands : (a b : Bool) → a ≡ true → b ≡ true → (a && b) ≡ true
    ands true true e f = refl
    ands true false e f = f
    ands false b e f = e

pub out_rise : (s : Sheet) → IsLawful s.library → (r c o : ℕ)
    → touch (shape_of s (OutPin r c o)) (shape_of s (Rise r c)) ≡ true
out_rise s laws r c o = let h = track_above s.library s.used r (s.track r c) in
    touch_at s (OutPin r c o) (Rise r c) (centre s.library c) (lower_edge s r + s.library.height) refl refl refl
    (record { left_so = omega arith; right_so = omega arith; low_so = omega arith; high_so = omega arith })
    (record { left_so = omega arith; right_so = omega arith; low_so = omega arith; high_so = omega arith })

pub rise_via : (s : Sheet) → IsLawful s.library → (r c : ℕ)
    → touch (shape_of s (Rise r c)) (shape_of s (FromVia r c)) ≡ true
rise_via s laws r c = let h = track_above s.library s.used r (s.track r c) in
    touch_at s (Rise r c) (FromVia r c) (centre s.library c) (track_of s r c) refl refl refl
    (record { left_so = omega arith; right_so = omega arith; low_so = omega arith; high_so = omega arith })
    (record { left_so = omega arith; right_so = omega arith; low_so = omega arith; high_so = omega arith })

pub via_across : (s : Sheet) → IsLawful s.library → (r c : ℕ)
    → touch (shape_of s (FromVia r c)) (shape_of s (Across r c)) ≡ true
via_across s laws r c = let h = centre_rises s.library (min c (s.to r c)) c (omega arith) in
    let k = centre_rises s.library c (max c (s.to r c)) (omega arith) in
    touch_at s (FromVia r c) (Across r c) (centre s.library c) (track_of s r c) refl refl refl
    (record { left_so = omega arith; right_so = omega arith; low_so = omega arith; high_so = omega arith })
    (record { left_so = omega arith; right_so = omega arith; low_so = omega arith; high_so = omega arith })

pub across_via : (s : Sheet) → IsLawful s.library → (r c : ℕ)
    → touch (shape_of s (Across r c)) (shape_of s (ToVia r c)) ≡ true
across_via s laws r c = let h = centre_rises s.library (min c (s.to r c)) (s.to r c) (omega arith) in
    let k = centre_rises s.library (s.to r c) (max c (s.to r c)) (omega arith) in
    touch_at s (Across r c) (ToVia r c) (centre s.library (s.to r c)) (track_of s r c) refl refl refl
    (record { left_so = omega arith; right_so = omega arith; low_so = omega arith; high_so = omega arith })
    (record { left_so = omega arith; right_so = omega arith; low_so = omega arith; high_so = omega arith })

pub via_fall : (s : Sheet) → IsLawful s.library → (r c : ℕ) → s.track r c < s.used r
    → touch (shape_of s (ToVia r c)) (shape_of s (Fall r c)) ≡ true
via_fall s laws r c lt = let h = track_below s.library s.used r (s.track r c) lt in
    touch_at s (ToVia r c) (Fall r c) (centre s.library (s.to r c)) (track_of s r c) refl refl refl
    (record { left_so = omega arith; right_so = omega arith; low_so = omega arith; high_so = omega arith })
    (record { left_so = omega arith; right_so = omega arith; low_so = omega arith; high_so = omega arith })

pub fall_in : (s : Sheet) → IsLawful s.library → (r c i : ℕ) → s.track r c < s.used r
    → touch (shape_of s (Fall r c)) (shape_of s (InPin (suc r) (s.to r c) i)) ≡ true
fall_in s laws r c i lt = let h = track_below s.library s.used r (s.track r c) lt in
    touch_at s (Fall r c) (InPin (suc r) (s.to r c) i) (centre s.library (s.to r c)) (lower_edge s (suc r)) refl refl
    refl (record { left_so = omega arith; right_so = omega arith; low_so = omega arith; high_so = omega arith })
    (record { left_so = omega arith; right_so = omega arith; low_so = omega arith; high_so = omega arith })

-- one step of a path between tags that stand
pub step : (s : Sheet) (ts : List Tag) (i j : ℕ) (t u : Tag) → At ts i t → At ts j u
    → touch (shape_of s t) (shape_of s u) ≡ true → Touching (shapes_of s ts) i j
step s ts i j t u at au e =
    record {
      first = shape_of s t;
      second = shape_of s u;
      first_is = to_map (shape_of s) ts i t at;
      second_is = to_map (shape_of s) ts j u au;
      touch_so = e;
    }

-- the two pins of a wire are joined
pub pins_joined : (s : Sheet) (ts : List Tag) → IsDrawn s ts → (r c o n i j : ℕ) → IsWire s r c
    → At ts i (OutPin r c o) → At ts j (InPin (suc r) (s.to r c) n) → Joined (shapes_of s ts) i j
pins_joined s ts is r c o n i j w at au =
    let laws = is.routed.laws in
    let rise = is.rises r c w in
    let via = is.begins r c w in
    let across = is.crosses r c w in
    let end = is.ends r c w in
    let fall = is.falls r c w in (
      rise.0 ∷ via.0 ∷ across.0 ∷ end.0 ∷ fall.0 ∷ j ∷ [],
      (
        step s ts i rise.0 _ _ at rise.1 (out_rise s laws r c o),
        (
          step s ts rise.0 via.0 _ _ rise.1 via.1 (rise_via s laws r c),
          (
            step s ts via.0 across.0 _ _ via.1 across.1 (via_across s laws r c),
            (
              step s ts across.0 end.0 _ _ across.1 end.1 (across_via s laws r c),
              (
                step s ts end.0 fall.0 _ _ end.1 fall.1 (via_fall s laws r c w.tracked),
                (
                  step s ts fall.0 j _ _ fall.1 au (fall_in s laws r c n w.tracked),
                  refl,
                ),
              ),
            ),
          ),
        ),
      ),
    )

-- E3 (a): the output pins of one net are in one column of one row
pub one_output : (s : Sheet) (ts : List Tag) → IsDrawn s ts → (r c o q d m i j : ℕ) → At ts i (OutPin r c o)
    → At ts j (OutPin q d m) → Joined (shapes_of s ts) i j → output_net s r c ≡ output_net s q d
one_output s ts is r c o q d m i j at au p = joined_net s ts is i j _ _ at au p

-- E3 (b): the input pins of one net are in one column of one row
pub one_input : (s : Sheet) (ts : List Tag) → IsDrawn s ts → (r c o q d m i j : ℕ) → At ts i (InPin r c o)
    → At ts j (InPin q d m) → Joined (shapes_of s ts) i j → (r ≡ q) × (c ≡ d)
one_input s ts is r c o q d m i j at au p = into_same (joined_net s ts is i j _ _ at au p)
  where
    into_same : Into r c ≡ Into q d → (r ≡ q) × (c ≡ d)
    into_same e = (cc, cc)
