-- How far the excitation has run where it comes to the bars and the cells of a drawing.
use Rattle.std.proofs.Common.{◌≡◌, ℕ, zero, suc, ◌+◌, ◌-◌, ◌*◌, ◌<◌, ◌≤◌, ◌⊎◌, max, Bool, true, false, refl, sym, ap}
use Rattle.std.proofs.Common.{subst}
use Rattle.std.proofs.Common.{◌∙◌, arith, inl, inr, if◌then◌else◌, List, [], ◌∷◌, Option, Some, None, ℤ, pos, negsuc}
use Rattle.std.proofs.Common.{neg_ℤ, slice_get}
use Rattle.std.specs.Prelude.{◌-ℤ◌}
use Rattle.std.proofs.Math.Nat.{mul-le-mul_right}
use Rattle.circuit.specs.CellKinds.{slots_of}
use Rattle.circuit.specs.declared.cell_kind.CellKind.{CellKind}
use Rattle.geom.specs.declared.shapes.Shape.{Shape}
use Rattle.geom.specs.Rectangle.{Rectangle, overlap, width, height, positive_part}
use Rattle.cell_library.specs.Library.{LibraryView}
use Rattle.std.proofs.lemmas.Int.{ints}
use Rattle.layout_rules.specs.declared.layers.TheConstants.{BAR, LINK, START}
use Rattle.layout_rules.specs.LengthRule.{longer_side}
use Rattle.layout_rules.specs.Reports.{ReportsNone, Alone}
use Rattle.layout_rules.specs.ExcitationLines.{IsPart, Before, at_left}
use Rattle.layout_rules.specs.ExcitationRule.{AreLaidOut, IsCutOff}
use Rattle.layout_rules.specs.LinePlaces.{way_through, way_at, way_into, ComesTo, IsPlaced}
use Rattle.layout_rules.proofs.LinePaths.{path_from_chain}
use Rattle.layout_make.specs.Sheet.{Sheet, Frame, Lead, Bar, Tag, LeftOf, RightOf, begins, lags_not, lead_first}
use Rattle.layout_make.specs.Sheet.{lead_flank}
use Rattle.layout_make.specs.Sheet.{flank_rect, line_rect, step_low, step_high, step_right, turns_right, layer_of}
use Rattle.layout_make.specs.Sheet.{place_of, shape_of, lower_edge}
use Rattle.layout_make.specs.Tags.{At}
use Rattle.layout_make.specs.LineWays.{way_to, link_way, delay, channel_height, highest_channel, skew_limit}
use Rattle.layout_make.proofs.Lawful.{IsLawful}
use Rattle.layout_make.proofs.SheetKeeps.{Fits, IsDrawn, IsStep}
use Rattle.layout_make.proofs.Columns as columns
use Rattle.layout_make.proofs.Spaced.{difference}
use Rattle.layout_make.proofs.Joins.{to_map, shapes_of, same_at}
use Rattle.layout_make.proofs.Routes.{IsRoute}
use Rattle.layout_make.proofs.LineRule.{line_rows, lead_not_bar, a_start, all_reached, route_sound, Sound, no_start}
use Rattle.layout_make.proofs.LineRule.{step_below}
use Rattle.layout_make.proofs.LinePhase.{bar_frame}
use Rattle.layout_make.proofs.LineAll.{shape_at, used_tag, uses, bar_once, lead_once, bar_before}

-- what the rules say of the ways along lines that are laid out
pub record AddUp (shapes : List Shape) : Type 0 where
  pub first : (a b : ℕ) → IsPart shapes START a → Before shapes a b → ComesTo shapes a b 0
  pub next : (a b c distance : ℕ) → ComesTo shapes a b distance → Before shapes b c
      → ComesTo shapes b c (distance + way_at shapes b)
  pub once : (a b c distance other : ℕ) → ComesTo shapes a b distance → ComesTo shapes c b other
      → (a ≡ c) × (distance ≡ other)

-- the ways through bars and links

bar_way : (s : Sheet) (n : ℕ) → way_through (shape_of s (Bar n)) ≡ step_right s n
bar_way s n = difference (pos (step_right s n) -ℤ pos 0) (step_right s n) 0 refl ∙ omega arith

distance : (z : ℤ) (a b : ℕ) → z ≡ pos a -ℤ neg_ℤ (pos b) → positive_part z ≡ a + b
distance (pos n) a zero e = omega (arith, ints)
distance (pos n) a (suc b) e = omega (arith, ints)
distance (negsuc n) a zero e = omega (arith, ints)
distance (negsuc n) a (suc b) e = omega (arith, ints)

side_wide : (l : LibraryView) (w : ℕ) (b : Bool) (low high : ℤ)
    → width (flank_rect l w (if b then RightOf else LeftOf) low high) ≡ 2 * l.pitch
side_wide l w true low high = difference (pos (w + 2 * l.pitch) -ℤ pos w) (w + 2 * l.pitch) w refl ∙ omega arith
side_wide l w false low high = distance (pos 0 -ℤ neg_ℤ (pos (2 * l.pitch))) 0 (2 * l.pitch) refl ∙ omega arith

side_high : (l : LibraryView) (w : ℕ) (b : Bool) (low high : ℤ)
    → height (flank_rect l w (if b then RightOf else LeftOf) low high) ≡ positive_part (high -ℤ low)
side_high l w true low high = refl
side_high l w false low high = refl

step_high_way : (s : Sheet) (n : ℕ) → IsLawful s.library
    → max (2 * s.library.pitch) (positive_part (step_high s (suc (suc n)) -ℤ step_low s n)) ≡ link_way s n
step_high_way s zero laws =
    let k = distance (pos (lower_edge s 1 + s.library.height) -ℤ neg_ℤ (pos (2 * s.library.height)))
    (lower_edge s 1 + s.library.height) (2 * s.library.height) refl in
    omega arith
step_high_way s (suc r) laws =
    let k = difference (pos (lower_edge s (suc (suc r)) + s.library.height) -ℤ pos (lower_edge s r))
    (lower_edge s (suc (suc r)) + s.library.height) (lower_edge s r) refl in
    let low = columns.next_edge s.library s.used r in
    let high = columns.next_edge s.library s.used (suc r) in
    omega arith

through_link : (layer : ℕ) (b : Bool) (rect : Rectangle) → b ≡ false
    → way_through (record { layer = layer; datatype = (if b then START else LINK); rect = rect }) ≡ longer_side rect
through_link layer true rect e = absurd cc
through_link layer false rect e = refl

link_long : (s : Sheet) → IsLawful s.library → (n : ℕ) → begins s.lag (suc (suc n)) ≡ false
    → way_through (shape_of s (Lead (suc (suc n)))) ≡ link_way s n
link_long s laws n e =
    let m = suc (suc n) in
    let first : lead_first s.lag m ≡ n = ap (λ (b : Bool). if b then suc (suc n) else n) e in
    let rect = line_rect s m (lead_flank m) n m in
    let wide = side_wide s.library (step_right s m) (turns_right m) (step_low s n) (step_high s m) in
    let high = side_high s.library (step_right s m) (turns_right m) (step_low s n) (step_high s m) in
    through_link (layer_of (Lead m)) (begins s.lag m) (place_of s (Lead m)) e
    ∙ ap (λ (k : ℕ). longer_side (line_rect s m (lead_flank m) k m)) first
    ∙ ap (λ (k : ℕ). max k (height rect)) wide ∙ ap (λ (k : ℕ). max (2 * s.library.pitch) k) high
    ∙ step_high_way s n laws

-- where the line comes to a frame, and how wide the frame is, within the bar
into_wide : (b : Bool) (a z w : ℕ) → a ≤ z → z ≤ w
    → (if b then positive_part (pos a -ℤ pos 0) else positive_part (pos w -ℤ pos z))
    + positive_part (pos z -ℤ pos a) ≤ w
into_wide true a z w low high = let x = difference (pos a -ℤ pos 0) a 0 refl in
    let y = difference (pos z -ℤ pos a) z a refl in omega arith
into_wide false a z w low high = let x = difference (pos w -ℤ pos z) w z refl in
    let y = difference (pos z -ℤ pos a) z a refl in omega arith

within_bar : (s : Sheet) (before : Shape) (q r slot : ℕ) (k : CellKind) → Fits s (Frame r slot k)
    → way_into before (shape_of s (Bar (suc q))) (shape_of s (Frame r slot k)) + width (place_of s (Frame r slot k)) ≤
    s.right
within_bar s before q r slot k fits =
    into_wide (at_left before (shape_of s (Bar (suc q)))) (slot * (s.library.columns * s.library.pitch))
    ((slot + slots_of k) * (s.library.columns * s.library.pitch)) s.right
    (mul-le-mul_right (s.library.columns * s.library.pitch)
    (let h : slot ≤ slot + slots_of k = omega arith in h)) fits.1

module _ (s : Sheet) (ts : List Tag) (is : IsDrawn s ts) (lines : AreLaidOut (shapes_of s ts))
    (cut : ReportsNone (Alone (IsCutOff (shapes_of s ts)))) (adds : AddUp (shapes_of s ts)) where
  -- the lead of a row comes before its bar, and the bar before the next lead

  bar_comes : (a b r : ℕ) → At ts a (Lead r) → At ts b (Bar r) → Before (shapes_of s ts) a b
  bar_comes a b r at bt =
      let x = bar_before s ts is b r bt in
      subst (λ (n : ℕ). Before (shapes_of s ts) n b) (lead_once s ts is x.0 a r r x.2 at refl)
      (path_from_chain (shapes_of s ts) lines cut x.0 b
      (record { rest = x.1; chain = x.3.chain; onward = x.3.onward }))

  link_comes : (b c r : ℕ) → IsStep s (r + 2) → IsStep s r → At ts b (Bar r) → At ts c (Lead (r + 2))
      → Before (shapes_of s ts) b c
  link_comes b c r high low bt ct =
      let l = (all_reached s ts is (r + 2) high).0 in
      by_route l.1
      (subst (λ (n : ℕ). IsRoute (shapes_of s ts) (n ∷ l.1))
      (lead_once s ts is l.0 c (r + 2) (r + 2) l.2 ct refl) l.3)
    where
      sounded : (a : ℕ) (rest : List ℕ) → IsRoute (shapes_of s ts) (c ∷ a ∷ rest) → Sound s ts (c ∷ a ∷ rest)
          → Before (shapes_of s ts) b c
      sounded a rest route (inl (q, here, before)) = absurd (lead_not_bar ts c (r + 2) q ct here)
      sounded a rest route (inr (q, here, before)) =
          let e : Lead (q + 2) ≡ Lead (r + 2) = same_at ts c (Lead (q + 2)) (Lead (r + 2)) here ct in
          let m : q + 2 ≡ r + 2 = cc in
          let k : a ≡ b = bar_once s ts is a b q r before bt (omega arith) in
          subst (λ (n : ℕ). Before (shapes_of s ts) n c) k
          (path_from_chain (shapes_of s ts) lines cut a c
          (record { rest = rest; chain = route.chain; onward = route.onward }))

      by_route : (rest : List ℕ) → IsRoute (shapes_of s ts) (c ∷ rest) → Before (shapes_of s ts) b c
      by_route [] route = absurd (let x = a_start s ts c route.chain in
          let e : Lead x.0 ≡ Lead (r + 2) = same_at ts c (Lead x.0) (Lead (r + 2)) x.1 ct in
          let m : x.0 ≡ r + 2 = cc in
          no_start s r low (subst (λ (n : ℕ). begins s.lag n ≡ true) m x.2))
      by_route (a ∷ rest) route = sounded a rest route (route_sound s ts is (c ∷ a ∷ rest) route)

  way_is : (i : ℕ) (t : Tag) → At ts i t → way_at (shapes_of s ts) i ≡ way_through (shape_of s t)
  way_is i t at =
      ap (λ (o : Option Shape). elim o as (λ (x : Option Shape). ℕ) [ None ↦ 0 | Some x ↦ way_through x ])
      (to_map (shape_of s) ts i t at)

  start_part : (a r : ℕ) → At ts a (Lead r) → begins s.lag r ≡ true → IsPart (shapes_of s ts) START a
  start_part a r at e = record {
    shape = shape_of s (Lead r);
    shape_is = to_map (shape_of s) ts a (Lead r) at;
    line_so = line_rows (suc r);
    datatype_is = ap (λ (b : Bool). if b then START else LINK) e;
  }

  -- how far it has run where it comes to the bar of a row
  pub comes : (r a b : ℕ) → At ts a (Lead r) → At ts b (Bar r) → ComesTo (shapes_of s ts) a b (way_to s r)
  unfolding way_to
  comes zero a b at bt = adds.first a b (start_part a zero at refl) (bar_comes a b zero at bt)
  comes (suc zero) a b at bt = adds.first a b (start_part a (suc zero) at refl) (bar_comes a b (suc zero) at bt)
  comes (suc (suc n)) a b at bt =
      go (λ (below : IsStep s n) (c d : ℕ) (ct : At ts c (Lead n)) (dt : At ts d (Bar n)). comes n c d ct dt)
      (begins s.lag (suc (suc n))) refl
    where
      go : (IsStep s n → (c d : ℕ) → At ts c (Lead n) → At ts d (Bar n) → ComesTo (shapes_of s ts) c d (way_to s n))
          → (b' : Bool) → begins s.lag (suc (suc n)) ≡ b'
          → ComesTo (shapes_of s ts) a b (if b' then 0 else way_to s n + step_right s n + link_way s n)
      go from true e = adds.first a b (start_part a (suc (suc n)) at e) (bar_comes a b (suc (suc n)) at bt)
      go from false e =
          let step : IsStep s (suc (suc n)) = is.fits b (Bar (suc (suc n))) bt in
          let low = step_below s n e step.below in
          let lead = is.leads n low in
          let bar = is.bars n low in
          let below = from low lead.0 bar.0 lead.1 bar.1 in
          let two : suc (suc n) ≡ n + 2 = omega arith in
          let up = link_comes bar.0 a n (subst (IsStep s) two step) low bar.1
          (subst (λ (m : ℕ). At ts a (Lead m)) two at) in
          let on = adds.next lead.0 bar.0 a (way_to s n) below up in
          let here = adds.next bar.0 a b (way_to s n + way_at (shapes_of s ts) bar.0) on
          (bar_comes a b (suc (suc n)) at bt) in
          let through : way_at (shapes_of s ts) bar.0 ≡ step_right s n = way_is bar.0 (Bar n) bar.1 ∙ bar_way s n in
          let over : way_at (shapes_of s ts) a ≡ link_way s n = way_is a (Lead (suc (suc n))) at
          ∙ link_long s is.routed.laws n e in
          subst (ComesTo (shapes_of s ts) a b)
          (ap (λ (m : ℕ). way_to s n + m + way_at (shapes_of s ts) a) through
          ∙ ap (λ (m : ℕ). way_to s n + step_right s n + m) over) here

  -- a cell of a row lies between there and the end of the bar
  pub cell_way : (f r slot near far : ℕ) (k : CellKind) (frame : Shape) → At ts f (Frame r slot k)
      → slice_get (shapes_of s ts) f ≡ Some frame → IsPlaced (shapes_of s ts) frame near far
      → (way_to s (suc r) ≤ near) × (far ≤ way_to s (suc r) + s.right)
  cell_way f r slot near far k frame at is_f p =
      let fits = is.fits f (Frame r slot k) at in
      let fr : shape_of s (Frame r slot k) ≡ frame = shape_at s ts f (Frame r slot k) frame at is_f in
      elim (used_tag s ts p.bar BAR p.is_bar) [
        | inl x ↦ absurd (let e = x.2 in let u = (uses s.lag x.0).0 in omega arith)
        | inr x ↦
            let sb : shape_of s (Bar x.0) ≡ p.is_bar.shape = shape_at s ts p.bar (Bar x.0) p.is_bar.shape x.1
            p.is_bar.shape_is in
            let o : overlap (place_of s (Bar x.0)) (place_of s (Frame r slot k)) ≡ true =
            ap (λ (y : Shape). overlap y.rect (place_of s (Frame r slot k))) sb
            ∙ ap (λ (y : Shape). overlap p.is_bar.shape.rect y.rect) fr ∙ p.over in
            let same : x.0 ≡ suc r = bar_frame s is.routed x.0 r slot k o in
            let step : IsStep s (suc r) = record {
              below = (let lt = fits.0 in omega arith);
              lagged = λ z. absurd (omega arith);
            } in
            let lead = is.leads (suc r) step in
            let here : At ts p.bar (Bar (suc r)) = subst (λ (n : ℕ). At ts p.bar (Bar n)) same x.1 in
            let way = adds.once p.before p.bar lead.0 p.distance (way_to s (suc r)) p.comes
            (comes (suc r) lead.0 p.bar lead.1 here) in
            let in_bar : way_into p.before_shape p.is_bar.shape frame + width frame.rect ≤ s.right =
            subst (λ (y : Shape). way_into p.before_shape p.is_bar.shape y + width y.rect ≤ s.right) fr
            (subst (λ (y : Shape). way_into p.before_shape y (shape_of s (Frame r slot k))
            + width (place_of s (Frame r slot k)) ≤ s.right) (ap (λ (n : ℕ). shape_of s (Bar n)) (sym same) ∙ sb)
            (within_bar s p.before_shape r r slot k fits)) in
            (omega (arith, p.near_is, way.1), omega (arith, p.near_is, p.far_is, way.1, in_bar))
      ]

-- how much further it has run at the next row

next_way : (s : Sheet) (r : ℕ) → way_to s (suc (suc (suc r))) ≡ way_to s (suc r) + s.right + 3 * s.library.height
    + channel_height s r + channel_height s (suc r)
unfolding way_to
next_way s r = let a = columns.channel_height s.library s.used r in
    let b = columns.channel_height s.library s.used (suc r) in omega arith

-- from an even row the difference is the delay and that of two channels, and from an odd one a bar and a link lie
-- between
abbrev Steps : Sheet → ℕ → Type 0
Steps s r =
    (way_to s (suc (suc r)) + channel_height s 0 ≡ way_to s (suc r) + channel_height s r + delay s)
    ⊎ (way_to s (suc (suc r)) + delay s ≡ way_to s (suc r) + s.right + 3 * s.library.height + channel_height s r
    + channel_height s 0)

second : (s : Sheet) → way_to s 2 ≡ delay s
unfolding way_to
second s = go (lags_not s.lag)
  where
    go : (b : Bool) → (if b then 0 else 0 + s.lag + link_way s 0) ≡ (if b then 0 else s.lag + link_way s 0)
    go true = refl
    go false = omega arith

steps : (s : Sheet) (r : ℕ) → Steps s r
unfolding way_to
steps s zero = inl (let k = second s in omega arith)
steps s (suc zero) = inr (let a = next_way s 0 in let k = second s in omega arith)
steps s (suc (suc r)) = go (steps s r)
  where
    go : Steps s r → Steps s (suc (suc r))
    go (inl h) = inl (let a = next_way s r in let b = next_way s (suc r) in omega arith)
    go (inr h) = inr (let a = next_way s r in let b = next_way s (suc r) in omega arith)

highest : (s : Sheet) (n r : ℕ) → r < n → channel_height s r ≤ highest_channel s n
highest s zero r lt = absurd (omega arith)
highest s (suc n) r lt = elim (cases n r lt) [
  | inl e ↦ let k : channel_height s r ≡ channel_height s n = ap (channel_height s) e in omega arith
  | inr less ↦ let k = highest s n r less in omega arith
]
  where
    cases : (n r : ℕ) → r < suc n → (r ≡ n) ⊎ (r < n)
    cases zero zero lt = inl refl
    cases zero (suc r) lt = absurd (omega arith)
    cases (suc n) zero lt = inr (omega arith)
    cases (suc n) (suc r) lt =
        elim (cases n r (omega arith)) [ inl e ↦ inl (ap suc e) | inr h ↦ inr (omega arith) ]

-- no point of the bar of a row is further than the limit beyond the beginning of the bar of the next row, nor the other
-- way round
pub rows_near : (s : Sheet) (r : ℕ) → r < s.rows
    → (way_to s (suc r) + s.right ≤ way_to s (suc (suc r)) + skew_limit s)
    × (way_to s (suc (suc r)) + s.right ≤ way_to s (suc r) + skew_limit s)
rows_near s r lt = go (steps s r) (highest s s.rows r lt) (highest s s.rows 0 (omega arith))
  where
    go : Steps s r → channel_height s r ≤ highest_channel s s.rows → channel_height s 0 ≤ highest_channel s s.rows
        → (way_to s (suc r) + s.right ≤ way_to s (suc (suc r)) + skew_limit s)
        × (way_to s (suc (suc r)) + s.right ≤ way_to s (suc r) + skew_limit s)
    go (inl h) high low = (omega arith, omega arith)
    go (inr h) high low = (omega arith, omega arith)
