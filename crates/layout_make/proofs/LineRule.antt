-- Rule E2 holds of a drawing: starts, contacts, joined lines, the shape before each bar, directions.
use Rattle.std.proofs.Common.{◌≡◌, ◌≢◌, ℕ, zero, suc, ◌+◌, ◌%◌, ◌<◌, Bool, true, false, refl, sym, ap, subst, ◌∙◌}
use Rattle.std.proofs.Common.{arith, ◌⊎◌}
use Rattle.std.proofs.Common.{if◌then◌else◌}
use Rattle.std.proofs.Common.{inl, inr, List, [], ◌∷◌}
use Rattle.std.proofs.lemmas.Bool.{both_ways}
use Rattle.std.proofs.lemmas.Option.{same_Some}
use Rattle.geom.specs.declared.shapes.Shape.{Shape}
use Rattle.geom.specs.Rectangle.{share_point}
use Rattle.layout_make.specs.Sheet.{Sheet, Tag, Lead, Bar}
use Rattle.layout_make.specs.Sheet.{begins, lead_use, layer_of, datatype_of, place_of, shape_of}
use Rattle.layout_make.specs.Tags.{At}
use Rattle.layout_make.proofs.SheetKeeps.{IsDrawn, IsStep}
use Rattle.layout_rules.specs.ExcitationLines.{Contact, IsPart}
use Rattle.layout_rules.specs.declared.layers.TheConstants.{START, LINK}
use Rattle.layout_make.proofs.Routes.{on_line, IsRoute, meets, they_meet}
use Rattle.layout_make.proofs.Joins.{from_map, to_map, shapes_of, same_at}
use Rattle.layout_make.proofs.LineShapes.{Linked, linked, bar_over, goes_on, begins_lagged}

pub line_rows : (r : ℕ) → on_line (14 + r % 2) ≡ true
line_rows r = plain (r % 2) (omega arith)
  where
    plain : (n : ℕ) → n < 2 → on_line (14 + n) ≡ true
    plain zero h = refl
    plain (suc zero) h = refl
    plain (suc (suc n)) h = absurd (omega arith)

pub contact_linked : (s : Sheet) (ts : List Tag) → IsDrawn s ts → (i j : ℕ) (t u : Tag) → At ts i t → At ts j u
    → Contact (shapes_of s ts) i j → Linked t u
contact_linked s ts is i j t u at au h =
    let m = meets h.first h.second h.meet_so in
    let e : shape_of s t ≡ h.first = same_Some _ _ (sym (to_map (shape_of s) ts i t at) ∙ h.first_is) in
    let f : shape_of s u ≡ h.second = same_Some _ _ (sym (to_map (shape_of s) ts j u au) ∙ h.second_is) in
    let li : on_line (layer_of t) ≡ true = ap (λ (x : Shape). on_line x.layer) e ∙ m.of_line in
    let sa : layer_of t ≡ layer_of u = ap (λ (x : Shape). x.layer) e ∙ m.same_layer
    ∙ sym (ap (λ (x : Shape). x.layer) f) in
    let sh : share_point (place_of s t) (place_of s u) ≡ true = ap (λ (x : Shape). share_point x.rect (place_of s u)) e
    ∙ ap (λ (x : Shape). share_point h.first.rect x.rect) f ∙ m.shared in
    elim (linked s is.routed t u (is.fits i t at) (is.fits j u au) li sa sh) [
      | inl same ↦ absurd (h.apart (is.once i j u (subst (λ (x : Tag). At ts i x) same at) au))
      | inr l ↦ l
    ]

parity_linked : (q r : ℕ) → (q ≡ r) ⊎ (q ≡ r + 2) → suc q % 2 ≡ suc r % 2
parity_linked q r (inl e) = omega arith
parity_linked q r (inr e) = omega arith

pub lead_not_bar : (ts : List Tag) (i q r : ℕ) → At ts i (Lead q) → At ts i (Bar r) → ⊥
lead_not_bar ts i q r a b = absurd (let e : Lead q ≡ Bar r = same_at ts i (Lead q) (Bar r) a b in cc)

pub bar_contact : (s : Sheet) (ts : List Tag) → IsDrawn s ts → (i j q r : ℕ) → At ts i (Lead q) → At ts j (Bar r)
    → (q ≡ r) ⊎ (q ≡ r + 2) → Contact (shapes_of s ts) i j × Contact (shapes_of s ts) j i
bar_contact s ts is i j q r at au l =
    let over = bar_over s is.routed q r (is.fits j (Bar r) au) l in (
      record {
        apart = λ e. lead_not_bar ts j q r (subst (λ (n : ℕ). At ts n (Lead q)) e at) au;
        first = shape_of s (Lead q);
        second = shape_of s (Bar r);
        first_is = to_map (shape_of s) ts i (Lead q) at;
        second_is = to_map (shape_of s) ts j (Bar r) au;
        meet_so =
            they_meet (shape_of s (Lead q)) (shape_of s (Bar r)) (record {
              of_line = line_rows (suc q);
              same_layer = ap (λ (n : ℕ). 14 + n) (parity_linked q r l);
              shared = over.0;
            });
      },
      record {
        apart = λ e. lead_not_bar ts i q r at (subst (λ (n : ℕ). At ts n (Bar r)) e au);
        first = shape_of s (Bar r);
        second = shape_of s (Lead q);
        first_is = to_map (shape_of s) ts j (Bar r) au;
        second_is = to_map (shape_of s) ts i (Lead q) at;
        meet_so =
            they_meet (shape_of s (Bar r)) (shape_of s (Lead q)) (record {
              of_line = line_rows (suc r);
              same_layer = ap (λ (n : ℕ). 14 + n) (sym (parity_linked q r l));
              shared = over.1;
            });
      },
    )

-- E2 (b): of each of the two layers the one start is the lead of its first step
start_step : (lag n : ℕ) → lead_use lag n ≡ 2 → begins lag n ≡ true
start_step lag n e = go (begins lag n) e
  where
    go : (b : Bool) → (if b then START else LINK) ≡ 2 → b ≡ true
    go true e = refl
    go false e = absurd (omega arith)

pub a_start : (s : Sheet) (ts : List Tag) (i : ℕ) → IsPart (shapes_of s ts) START i → (q : ℕ)
    × At ts i (Lead q) × (begins s.lag q ≡ true)
a_start s ts i h =
    let found = from_map (shape_of s) ts i h.shape h.shape_is in
    by_tag found.0 found.1 (ap (λ (x : Shape). on_line x.layer) found.2 ∙ h.line_so)
    (ap (λ (x : Shape). x.datatype) found.2 ∙ h.datatype_is)
  where
    by_tag : (t : Tag) → At ts i t → on_line (layer_of t) ≡ true → datatype_of s t ≡ 2 → (q : ℕ) × At ts i (Lead q)
        × (begins s.lag q ≡ true)
    by_tag (Lead q) at l d = (q, at, start_step s.lag q d)
    by_tag (Bar r) at l d = absurd (omega arith)
    by_tag t at l d = absurd cc

-- a line doesn't begin two steps above another step
pub no_start : (s : Sheet) (r : ℕ) → IsStep s r → begins s.lag (r + 2) ≡ true → ⊥
no_start s r step e = both_ways (begins s.lag (suc (suc r))) (goes_on s r step)
    (ap (λ (n : ℕ). begins s.lag n) (let k : suc (suc r) ≡ r + 2 = omega arith in k) ∙ e)

-- what stands first and second on a route
abbrev pub Sound : Sheet → List Tag → List ℕ → Type 0
Sound s ts [] = Unit {0}
Sound s ts (a ∷ []) = (q : ℕ) × At ts a (Lead q) × (begins s.lag q ≡ true)
Sound s ts (b ∷ a ∷ rest) = ((r : ℕ) × At ts b (Bar r) × At ts a (Lead r))
    ⊎ ((r : ℕ) × At ts b (Lead (r + 2)) × At ts a (Bar r))

pub linked_from_lead : (q : ℕ) (u : Tag) → Linked (Lead q) u → (r : ℕ) × (u ≡ Bar r) × ((q ≡ r) ⊎ (q ≡ r + 2))
linked_from_lead q (Bar r) l = (r, refl, l)
linked_from_lead q u l = absurd l

pub linked_from_bar : (r : ℕ) (u : Tag) → Linked (Bar r) u → (q : ℕ) × (u ≡ Lead q) × ((q ≡ r) ⊎ (q ≡ r + 2))
linked_from_bar r (Lead q) l = (q, refl, l)
linked_from_bar r u l = absurd l

tag_at : (s : Sheet) (ts : List Tag) (i j : ℕ) → Contact (shapes_of s ts) i j → (u : Tag) × At ts j u
tag_at s ts i j h = let found = from_map (shape_of s) ts j h.second h.second_is in (found.0, found.1)

-- after a lead comes its bar, and after a bar the next link
after_lead : (s : Sheet) (ts : List Tag) → IsDrawn s ts → (b a q : ℕ) → At ts a (Lead q) → Contact (shapes_of s ts) a b
    → ((r : ℕ) → q ≡ r + 2 → At ts b (Bar r) → ⊥) → (r : ℕ) × At ts b (Bar r) × At ts a (Lead r)
after_lead s ts is b a q at h back =
    let u = tag_at s ts a b h in
    let l = linked_from_lead q u.0 (contact_linked s ts is a b (Lead q) u.0 at u.1 h) in
    let ub = subst (λ (x : Tag). At ts b x) l.1 u.1 in
    elim l.2 [
      | inl e ↦ (l.0, ub, subst (λ (n : ℕ). At ts a (Lead n)) e at)
      | inr e ↦ absurd (back l.0 e ub)
    ]

after_bar : (s : Sheet) (ts : List Tag) → IsDrawn s ts → (b a r : ℕ) → At ts a (Bar r) → Contact (shapes_of s ts) a b
    → (At ts b (Lead r) → ⊥) → (q : ℕ) × At ts b (Lead (q + 2)) × At ts a (Bar q)
after_bar s ts is b a r at h back =
    let u = tag_at s ts a b h in
    let l = linked_from_bar r u.0 (contact_linked s ts is a b (Bar r) u.0 at u.1 h) in
    let ub = subst (λ (x : Tag). At ts b x) l.1 u.1 in
    elim l.2 [
      | inl e ↦ absurd (back (subst (λ (n : ℕ). At ts b (Lead n)) e ub))
      | inr e ↦ (r, subst (λ (n : ℕ). At ts b (Lead n)) e ub, at)
    ]

pub route_sound : (s : Sheet) (ts : List Tag) → IsDrawn s ts → (path : List ℕ) → IsRoute (shapes_of s ts) path
    → Sound s ts path
route_sound s ts is [] h = tt
route_sound s ts is (a ∷ []) h = a_start s ts a h.chain
route_sound s ts is (b ∷ a ∷ []) h = let start = a_start s ts a h.chain.1 in
    inl (after_lead s ts is b a start.0 start.1 h.chain.0 (λ r e at. no_start s r (is.fits b (Bar r) at)
    (subst (λ (n : ℕ). begins s.lag n ≡ true) e start.2)))
route_sound s ts is (b ∷ a ∷ c ∷ rest) h =
    go (route_sound s ts is (a ∷ c ∷ rest) (record { chain = h.chain.1; onward = h.onward.1 }))
  where
    go : Sound s ts (a ∷ c ∷ rest) → Sound s ts (b ∷ a ∷ c ∷ rest)
    go (inl (r, at, before)) =
        inr (after_bar s ts is b a r at h.chain.0 (λ back. h.onward.0 (is.once b c (Lead r) back before)))
    go (inr (r, at, before)) =
        inl (after_lead s ts is b a (r + 2) at h.chain.0
        (λ q e back. h.onward.0
        (is.once b c (Bar r) (subst (λ (n : ℕ). At ts b (Bar n)) (let k : q ≡ r = omega arith in k) back) before)))

-- E2 (e): the shape before a bar is the lead of its row
pub before_bar : (s : Sheet) (ts : List Tag) → IsDrawn s ts → (b a r : ℕ) (rest : List ℕ)
    → IsRoute (shapes_of s ts) (b ∷ a ∷ rest) → At ts b (Bar r) → At ts a (Lead r)
before_bar s ts is b a r rest route at = go (route_sound s ts is (b ∷ a ∷ rest) route)
  where
    go : Sound s ts (b ∷ a ∷ rest) → At ts a (Lead r)
    go (inl (q, here, before)) =
        subst (λ (n : ℕ). At ts a (Lead n)) (let e : Bar q ≡ Bar r = same_at ts b (Bar q) (Bar r) here at in cc) before
    go (inr (q, here, before)) = absurd (lead_not_bar ts b (q + 2) r here at)

-- E2 (d): each bar and each lead is reached
abbrev pub Reached : Sheet → List Tag → Tag → Type 0
Reached s ts t = (i : ℕ) × (rest : List ℕ) × At ts i t × IsRoute (shapes_of s ts) (i ∷ rest)

abbrev NotBack : ℕ → List ℕ → Type 0
NotBack b [] = Unit {0}
NotBack b (c ∷ rest) = b ≢ c

extend : (shapes : List Shape) (b a : ℕ) (rest : List ℕ) → IsRoute shapes (a ∷ rest) → Contact shapes a b
    → NotBack b rest → IsRoute shapes (b ∷ a ∷ rest)
extend shapes b a [] route h n = record { chain = (h, route.chain); onward = tt }
extend shapes b a (c ∷ rest) route h n = record { chain = (h, route.chain); onward = (n, route.onward) }

bars_differ : (ts : List Tag) (b c r q : ℕ) → At ts b (Bar r) → At ts c (Bar q) → r ≡ q + 2 → b ≢ c
bars_differ ts b c r q at au e f = let k : Bar r ≡ Bar q = same_at ts c (Bar r) (Bar q)
    (subst (λ (n : ℕ). At ts n (Bar r)) f at) au in let m : r ≡ q = cc in omega arith

leads_differ : (ts : List Tag) (b c r : ℕ) → At ts b (Lead (r + 2)) → At ts c (Lead r) → b ≢ c
leads_differ ts b c r at au f = let k : Lead (r + 2) ≡ Lead r = same_at ts c (Lead (r + 2)) (Lead r)
    (subst (λ (n : ℕ). At ts n (Lead (r + 2))) f at) au in let m : r + 2 ≡ r = cc in omega arith

bar_reached : (s : Sheet) (ts : List Tag) → IsDrawn s ts → (r : ℕ) → IsStep s r → Reached s ts (Lead r)
    → Reached s ts (Bar r)
bar_reached s ts is r lt (a, rest, at, route) =
    let bar = is.bars r lt in (
      bar.0,
      a ∷ rest,
      bar.1,
      extend (shapes_of s ts) bar.0 a rest route
          (bar_contact s ts is a bar.0 r r at bar.1 (inl refl)).0 (fresh rest (route_sound s ts is (a ∷ rest) route)),
    )
  where
    fresh : (rest : List ℕ) → Sound s ts (a ∷ rest) → NotBack (is.bars r lt).0 rest
    fresh [] h = tt
    fresh (c ∷ rest) (inl (q, here, before)) = absurd (lead_not_bar ts a r q at here)
    fresh (c ∷ rest) (inr (q, here, before)) = let k : Lead (q + 2) ≡ Lead r = same_at ts a (Lead (q + 2)) (Lead r)
        here at in let m : q + 2 ≡ r = cc in bars_differ ts (is.bars r lt).0 c r q (is.bars r lt).1 before (sym m)

lead_reached : (s : Sheet) (ts : List Tag) → IsDrawn s ts → (r : ℕ) → IsStep s (r + 2) → Reached s ts (Bar r)
    → Reached s ts (Lead (r + 2))
lead_reached s ts is r lt (a, rest, at, route) =
    let lead = is.leads (r + 2) lt in (
      lead.0,
      a ∷ rest,
      lead.1,
      extend (shapes_of s ts) lead.0 a rest route
          (bar_contact s ts is lead.0 a (r + 2) r lead.1 at (inr refl)).1
          (fresh rest (route_sound s ts is (a ∷ rest) route)),
    )
  where
    fresh : (rest : List ℕ) → Sound s ts (a ∷ rest) → NotBack (is.leads (r + 2) lt).0 rest
    fresh [] h = tt
    fresh (c ∷ rest) (inl (q, here, before)) = let k : Bar q ≡ Bar r = same_at ts a (Bar q) (Bar r) here at in
        let m : q ≡ r = cc in
        leads_differ ts (is.leads (r + 2) lt).0 c r (is.leads (r + 2) lt).1
        (subst (λ (n : ℕ). At ts c (Lead n)) m before)
    fresh (c ∷ rest) (inr (q, here, before)) = absurd (lead_not_bar ts a (q + 2) r here at)

start_reached : (s : Sheet) (ts : List Tag) → IsDrawn s ts → (r : ℕ) → IsStep s r → begins s.lag r ≡ true
    → Reached s ts (Lead r)
start_reached s ts is r lt e =
    let lead = is.leads r lt in (
      lead.0,
      [],
      lead.1,
      record {
        chain = record {
          shape = shape_of s (Lead r);
          shape_is = to_map (shape_of s) ts lead.0 (Lead r) lead.1;
          line_so = line_rows (suc r);
          datatype_is = ap (λ (b : Bool). if b then START else LINK) e;
        };
        onward = tt;
      },
    )

pub step_below : (s : Sheet) (n : ℕ) → begins s.lag (suc (suc n)) ≡ false → suc (suc n) < suc s.rows → IsStep s n
step_below s n e lt = record {
  below = omega arith;
  lagged = λ z. begins_lagged s.lag (sym (ap (λ (m : ℕ). begins s.lag (suc (suc m))) z) ∙ e);
}

pub all_reached : (s : Sheet) (ts : List Tag) → IsDrawn s ts → (n : ℕ) → IsStep s n → Reached s ts (Lead n)
    × Reached s ts (Bar n)
all_reached s ts is zero step = let l = start_reached s ts is zero step refl in (l, bar_reached s ts is zero step l)
all_reached s ts is (suc zero) step = let l = start_reached s ts is (suc zero) step refl in
    (l, bar_reached s ts is (suc zero) step l)
all_reached s ts is (suc (suc n)) step =
    let l = go (λ (below : IsStep s n). (all_reached s ts is n below).1) (begins s.lag (suc (suc n))) refl in
    (l, bar_reached s ts is (suc (suc n)) step l)
  where
    go : (IsStep s n → Reached s ts (Bar n)) → (b : Bool) → begins s.lag (suc (suc n)) ≡ b
        → Reached s ts (Lead (suc (suc n)))
    go bar true e = start_reached s ts is (suc (suc n)) step e
    go bar false e =
        let two : n + 2 ≡ suc (suc n) = omega arith in
        subst (λ (m : ℕ). Reached s ts (Lead m)) two
        (lead_reached s ts is n (subst (IsStep s) (sym two) step) (bar (step_below s n e step.below)))
