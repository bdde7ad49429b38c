-- Rule E5 of a drawing.
use Rattle.std.proofs.Common.{◌≡◌, ℕ, zero, suc, ◌+◌, ◌-◌, ◌*◌, ◌%◌, ◌<◌, ◌≤◌, min, max, Bool, true, false, ◌&&◌, ◌==◌}
use Rattle.std.proofs.Common.{refl, sym, ap, subst, ◌∙◌, arith, ◌⊎◌, inl, inr, List, [], ◌∷◌, length, Some, get_or}
use Rattle.std.proofs.Common.{if◌then◌else◌, slice_get, pos, ◌-ℤ◌}
use Rattle.std.proofs.lemmas.Option.{same_Some, slice_get_within}
use Rattle.std.proofs.lemmas.Bool.{cases_lt}
use Rattle.std.proofs.lemmas.Bool.Decides.{nat_tests}
use Rattle.layout_make.proofs.Lawful.{IsLawful}
use Rattle.geom.specs.declared.shapes.Shape.{Shape}
use Rattle.layout_rules.specs.Touch.{IsPath}
use Rattle.geom.specs.Rectangle.{positive_part}
use Rattle.layout_make.specs.Sheet.{Sheet, Tag, Area, Lead, Bar, Rise, Fall, Across}
use Rattle.layout_make.specs.Sheet.{area, layer_of, rect_of, place_of, shape_of}
use Rattle.layout_make.specs.Nets.{Into, net_of}
use Rattle.layout_make.proofs.SheetKeeps.{IsWire, Fits, IsDrawn, WiresShort}
use Rattle.layout_make.specs.Tags.{At}
use Rattle.layout_rules.specs.Nets.{AreNets}
use Rattle.layout_make.proofs.Layered.{is_metal}
use Rattle.layout_rules.specs.LengthRule.{longer_side}
use Rattle.layout_make.proofs.Lengths.{weight, weights, total, NetsShort}
use Rattle.layout_make.proofs.Columns.{centre_least, centres_between, track_above, track_below, channel_height}
use Rattle.layout_make.proofs.Spaced.{difference}
use Rattle.layout_make.proofs.Joins.{from_map, to_map, shapes_of, joined_net}

-- clearing entries of a list of numbers

clear : List ℕ → ℕ → List ℕ
clear [] i = []
clear (w ∷ ws) zero = 0 ∷ ws
clear (w ∷ ws) (suc i) = w ∷ clear ws i

total_clear : (ws : List ℕ) (i : ℕ) → total ws ≡ total (clear ws i) + get_or ws i 0
unfolding clear
total_clear [] i = refl
total_clear (w ∷ ws) zero = omega arith
total_clear (w ∷ ws) (suc i) = let k = total_clear ws i in omega arith

clear_at : (ws : List ℕ) (i m : ℕ) → (get_or (clear ws i) m 0 ≤ get_or ws m 0) × (i ≡ m → get_or (clear ws i) m 0 ≡ 0)
unfolding clear
clear_at [] i m = (omega arith, λ e. refl)
clear_at (w ∷ ws) zero zero = (omega arith, λ e. refl)
clear_at (w ∷ ws) zero (suc m) = (omega arith, λ e. absurd (omega arith))
clear_at (w ∷ ws) (suc i) zero = (omega arith, λ e. absurd (omega arith))
clear_at (w ∷ ws) (suc i) (suc m) = let k = clear_at ws i m in (k.0, λ e. k.1 (omega arith))

all_zero : (ws : List ℕ) → ((m : ℕ) → get_or ws m 0 ≡ 0) → total ws ≡ 0
all_zero [] z = refl
all_zero (w ∷ ws) z = let a : w ≡ 0 = z 0 in let b = all_zero ws (λ m. z (suc m)) in omega arith

-- only three entries are not 0
pub three : (ws : List ℕ) (i j k : ℕ) → ((m : ℕ) → (get_or ws m 0 ≡ 0) ⊎ ((i ≡ m) ⊎ ((j ≡ m) ⊎ (k ≡ m))))
    → total ws ≤ get_or ws i 0 + get_or ws j 0 + get_or ws k 0
three ws i j k only =
    let a = total_clear ws i in
    let b = total_clear (clear ws i) j in
    let c = total_clear (clear (clear ws i) j) k in
    let d = (clear_at ws i j).0 in
    let e = (clear_at (clear ws i) j k).0 in
    let f = (clear_at ws i k).0 in
    let z = all_zero (clear (clear (clear ws i) j) k) (λ m.
    let x = clear_at ws i m in
    let y = clear_at (clear ws i) j m in
    let w = clear_at (clear (clear ws i) j) k m in
    let xl = x.0 in let yl = y.0 in let wl = w.0 in
    elim (only m) [
      | inl n ↦ omega arith
      | inr h ↦ elim h [
        | inl e ↦ let q = x.1 e in omega arith
        | inr h ↦ elim h [ inl e ↦ let q = y.1 e in omega arith | inr e ↦ w.1 e ]
      ]
    ]) in
    omega arith

-- an entry of the weights
pub record Heavy (n : ℕ) (shapes : List Shape) (nets : List ℕ) (m w : ℕ) : Type 0 where
  pub shape : Shape
  pub at : slice_get shapes m ≡ Some shape
  pub net : get_or nets m 0 ≡ n
  pub metal : is_metal shape.layer ≡ true
  pub weight_so : w ≡ longer_side shape.rect

weight_cases : (n : ℕ) (s : Shape) (m : ℕ) → (weight n s m ≡ 0)
    ⊎ ((m ≡ n) × (is_metal s.layer ≡ true) × (weight n s m ≡ longer_side s.rect))
weight_cases n s m = go (m == n) (is_metal s.layer) refl refl
  where
    same : (a b : ℕ) → (a == b) ≡ true → a ≡ b
    same a b e = grind (arith, nat_tests)

    go : (b c : Bool) → (m == n) ≡ b → is_metal s.layer ≡ c → ((if c && b then longer_side s.rect else 0) ≡ 0)
        ⊎ ((m ≡ n) × (is_metal s.layer ≡ true) × ((if c && b then longer_side s.rect else 0) ≡ longer_side s.rect))
    go true true e f = inr (same m n e, f, refl)
    go true false e f = inl refl
    go false true e f = inl refl
    go false false e f = inl refl

pub heavy : (n : ℕ) (shapes : List Shape) (nets : List ℕ) (m : ℕ) → (get_or (weights n shapes nets) m 0 ≡ 0)
    ⊎ Heavy n shapes nets m (get_or (weights n shapes nets) m 0)
heavy n [] nets m = inl refl
heavy n (s ∷ ss) [] m = inl refl
heavy n (s ∷ ss) (x ∷ nets) zero =
    elim (weight_cases n s x)
    [ inl e ↦ inl e | inr h ↦ inr (record { shape = s; at = refl; net = h.0; metal = h.1; weight_so = h.2 }) ]
heavy n (s ∷ ss) (x ∷ nets) (suc m) =
    elim (heavy n ss nets m) [
      | inl e ↦ inl e
      | inr h ↦ inr
          (record { shape = h.shape; at = h.at; net = h.net; metal = h.metal; weight_so = h.weight_so })
    ]

-- the longer sides of a wire

abbrev long : Sheet → Tag → ℕ
long s t = longer_side (place_of s t)

sides : (a : Area) → longer_side (rect_of a) ≡ max (a.right - a.left) (a.high - a.low)
sides a = ap (λ (n : ℕ). max n (positive_part (pos a.high -ℤ pos a.low))) (difference _ a.right a.left refl)
    ∙ ap (λ (n : ℕ). max (a.right - a.left) n) (difference _ a.high a.low refl)

pub wire_long : (s : Sheet) → IsLawful s.library → (r c : ℕ) → IsWire s r c
    → long s (Rise r c) + long s (Fall r c) + long s
    (Across r c) ≡ (s.used r + 1) * s.library.pitch + 2 * s.library.pin + 2 * s.library.wire +
    (max c (s.to r c) - min c (s.to r c)) * s.library.pitch
wire_long s laws r c w =
    let a = sides (area s (Rise r c)) in
    let b = sides (area s (Fall r c)) in
    let d = sides (area s (Across r c)) in
    let f = centre_least s.library c in
    let g = centre_least s.library (s.to r c) in
    let h = centre_least s.library (min c (s.to r c)) in
    let k = track_above s.library s.used r (s.track r c) in
    let m = track_below s.library s.used r (s.track r c) w.tracked in
    let n = channel_height s.library s.used r in
    let e = centres_between s.library (min c (s.to r c)) (max c (s.to r c)) (omega arith) in
    omega arith

-- a path the other way, and one after another

-- metal is a rise, a fall or across
pub metal_tag : (s : Sheet) (t : Tag) → Fits s t → is_metal (layer_of t) ≡ true → (r c : ℕ) × IsWire s r c
    × ((t ≡ Rise r c) ⊎ ((t ≡ Fall r c) ⊎ (t ≡ Across r c)))
metal_tag s (Rise r c) fits e = (r, c, fits, inl refl)
metal_tag s (Fall r c) fits e = (r, c, fits, inr (inl refl))
metal_tag s (Across r c) fits e = (r, c, fits, inr (inr refl))
metal_tag s (Lead r) fits e = absurd (no (suc r % 2) (omega arith) e)
  where
    no : (n : ℕ) → n < 2 → is_metal (14 + n) ≡ true → ⊥
    no zero h e = cc
    no (suc zero) h e = cc
    no (suc (suc n)) h e = omega arith
metal_tag s (Bar r) fits e = absurd (no (suc r % 2) (omega arith) e)
  where
    no : (n : ℕ) → n < 2 → is_metal (14 + n) ≡ true → ⊥
    no zero h e = cc
    no (suc zero) h e = cc
    no (suc (suc n)) h e = omega arith
metal_tag s t fits e = absurd cc

metal_net : (s : Sheet) (t : Tag) (r c : ℕ) → (t ≡ Rise r c) ⊎ ((t ≡ Fall r c) ⊎ (t ≡ Across r c))
    → net_of s t ≡ Into (suc r) (s.to r c)
metal_net s t r c (inl e) = ap (net_of s) e
metal_net s t r c (inr (inl e)) = ap (net_of s) e
metal_net s t r c (inr (inr e)) = ap (net_of s) e

nets_same : (r q c d : ℕ) → Into (suc r) c ≡ Into (suc q) d → (r ≡ q) × (c ≡ d)
nets_same r q c d e = (let k : suc r ≡ suc q = cc in omega arith, cc)

some_weight : (ws : List ℕ) → (total ws ≡ 0) ⊎ ((m : ℕ) × (1 ≤ get_or ws m 0))
some_weight [] = inl refl
some_weight (w ∷ ws) = elim (cases_lt 0 w) [
  | inl lt ↦ inr (0, lt)
  | inr le ↦ elim (some_weight ws) [ inl e ↦ inl (omega arith) | inr h ↦ inr (suc h.0, h.1) ]
]

path_end : (shapes : List Shape) (path : List ℕ) (i j : ℕ) → i < length shapes → IsPath shapes i path j
    → j < length shapes
path_end shapes [] i j lt p = subst (λ (n : ℕ). n < length shapes) p lt
path_end shapes (m ∷ path) i j lt p = path_end shapes path m j (slice_get_within shapes m p.0.second p.0.second_is) p.1

at_some : {A : Type 0} (xs : List A) (i : ℕ) → i < length xs → (x : A) × (slice_get xs i ≡ Some x)
at_some [] i lt = absurd (omega arith)
at_some (x ∷ xs) zero lt = (x, refl)
at_some (x ∷ xs) (suc i) lt = at_some xs i (omega arith)

-- two shapes with one number of a net are of one net
pub numbered_net : (s : Sheet) (ts : List Tag) → IsDrawn s ts → (nets : List ℕ) → AreNets (shapes_of s ts) nets
    → (i j : ℕ) (t u : Tag) → At ts i t → At ts j u → get_or nets i 0 ≡ get_or nets j 0 → net_of s t ≡ net_of s u
numbered_net s ts is nets are i j t u at au e =
    let li = slice_get_within (shapes_of s ts) i (shape_of s t) (to_map (shape_of s) ts i t at) in
    let lj = slice_get_within (shapes_of s ts) j (shape_of s u) (to_map (shape_of s) ts j u au) in
    let p = are.joined i li in
    let q = are.joined j lj in
    let n = get_or nets i 0 in
    let ln = path_end (shapes_of s ts) p.0 i n li p.1 in
    let x = at_some (shapes_of s ts) n ln in
    let v = from_map (shape_of s) ts n x.0 x.1 in
    let av : At ts (get_or nets j 0) v.0 = subst (λ (m : ℕ). At ts m v.0) e v.1 in
    joined_net s ts is i n t v.0 at v.1 p ∙ sym (joined_net s ts is j (get_or nets j 0) u v.0 au av q)

-- metal of a wire's net is the wire's
same_metal : (s : Sheet) (ts : List Tag) → IsDrawn s ts → (r c q d : ℕ) (t : Tag) → IsWire s r c → IsWire s q d
    → (t ≡ Rise q d) ⊎ ((t ≡ Fall q d) ⊎ (t ≡ Across q d)) → net_of s t ≡ Into (suc r) (s.to r c) → (q ≡ r) × (d ≡ c)
same_metal s ts is r c q d t w v part e =
    let k = nets_same q r (s.to q d) (s.to r c) (sym (metal_net s t q d part) ∙ e) in
    let v' : IsWire s r d = subst (λ (n : ℕ). IsWire s n d) k.0 v in
    let f : s.to r d ≡ s.to r c = ap (λ (n : ℕ). s.to n d) (sym k.0) ∙ k.1 in
    (k.0, is.routed.one_end r d c v' w f)

light : (n : ℕ) (shapes : List Shape) (nets : List ℕ) (m : ℕ) (x : Shape) → slice_get shapes m ≡ Some x
    → get_or (weights n shapes nets) m 0 ≤ longer_side x.rect
light n shapes nets m x at = elim (heavy n shapes nets m) [
  | inl e ↦ omega arith
  | inr h ↦ let k : longer_side h.shape.rect ≡ longer_side x.rect = ap (λ (y : Shape). longer_side y.rect)
      (same_Some _ _ (sym h.at ∙ at)) in let w = h.weight_so in omega arith
]

pub drawn_short : (s : Sheet) (ts : List Tag) → IsDrawn s ts → WiresShort s → NetsShort (shapes_of s ts) s.library.limit
drawn_short s ts is short nets are n = elim (some_weight (weights n (shapes_of s ts) nets)) [
  | inl e ↦ omega arith
  | inr found ↦ elim (heavy n (shapes_of s ts) nets found.0) [
    | inl e ↦ absurd (let k = found.1 in omega arith)
    | inr h ↦
        let tag = from_map (shape_of s) ts found.0 h.shape h.at in
        let metal = metal_tag s tag.0 (is.fits found.0 tag.0 tag.1) (ap (λ (x : Shape). is_metal x.layer) tag.2
        ∙ h.metal) in
        by_wire found.0 tag.0 tag.1 h.net metal.0 metal.1 metal.2 metal.3
  ]
]
  where
    by_wire : (m : ℕ) (t : Tag) → At ts m t → get_or nets m 0 ≡ n → (r c : ℕ) → IsWire s r c
        → (t ≡ Rise r c) ⊎ ((t ≡ Fall r c) ⊎ (t ≡ Across r c))
        → total (weights n (shapes_of s ts) nets) ≤ s.library.limit
    by_wire m t at net r c w part =
        let rise = is.rises r c w in
        let fall = is.falls r c w in
        let across = is.crosses r c w in
        let ws = weights n (shapes_of s ts) nets in
        let whole = metal_net s t r c part in
        let only : (j : ℕ) → (get_or ws j 0 ≡ 0)
        ⊎ ((rise.0 ≡ j) ⊎ ((fall.0 ≡ j) ⊎ (across.0 ≡ j))) = λ j. elim (heavy n (shapes_of s ts) nets j) [
          | inl e ↦ inl e
          | inr h ↦
              let tag = from_map (shape_of s) ts j h.shape h.at in
              let metal = metal_tag s tag.0 (is.fits j tag.0 tag.1) (ap (λ (x : Shape). is_metal x.layer) tag.2
              ∙ h.metal) in
              let same = numbered_net s ts is nets are j m tag.0 t tag.1 at (h.net ∙ sym net) in
              let k = same_metal s ts is r c metal.0 metal.1 tag.0 w metal.2 metal.3 (same ∙ whole) in
              elim metal.3 [
                | inl e ↦ inr
                    (inl
                    (is.once rise.0 j (Rise r c) rise.1
                    (subst (λ (x : Tag). At ts j x)
                    (e ∙ ap (λ (x : ℕ). Rise x metal.1) k.0 ∙ ap (λ (x : ℕ). Rise r x) k.1) tag.1)))
                | inr o ↦ elim o [
                  | inl e ↦ inr
                      (inr
                      (inl
                      (is.once fall.0 j (Fall r c) fall.1
                      (subst (λ (x : Tag). At ts j x)
                      (e ∙ ap (λ (x : ℕ). Fall x metal.1) k.0 ∙ ap (λ (x : ℕ). Fall r x) k.1) tag.1))))
                  | inr e ↦ inr
                      (inr
                      (inr
                      (is.once across.0 j (Across r c) across.1
                      (subst (λ (x : Tag). At ts j x) (e ∙ ap (λ (x : ℕ). Across x metal.1) k.0
                      ∙ ap (λ (x : ℕ). Across r x) k.1) tag.1))))
                ]
              ]
        ] in
        let a = three ws rise.0 fall.0 across.0 only in
        let x = light n (shapes_of s ts) nets rise.0 (shape_of s (Rise r c))
        (to_map (shape_of s) ts rise.0 (Rise r c) rise.1) in
        let y = light n (shapes_of s ts) nets fall.0 (shape_of s (Fall r c))
        (to_map (shape_of s) ts fall.0 (Fall r c) fall.1) in
        let z = light n (shapes_of s ts) nets across.0 (shape_of s (Across r c))
        (to_map (shape_of s) ts across.0 (Across r c) across.1) in
        let sum = wire_long s is.routed.laws r c w in
        let le = short r c w in
        omega arith
