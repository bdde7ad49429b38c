-- The rule of excitation lines of a drawing, in full.
use Rattle.std.proofs.Common.{◌≡◌, ℕ, zero, suc, ◌+◌, ◌*◌, ◌%◌, ◌<◌, ◌≤◌, true, false, ◌&&◌, refl, sym}
use Rattle.std.proofs.Common.{ap, subst, ◌∙◌, arith, ◌⊎◌, inl, inr, List, [], ◌∷◌, map, Some, pos, ℤ, int_lt, nat_lt}
use Rattle.std.proofs.Common.{Bool, if◌then◌else◌}
use Rattle.std.proofs.Common.{slice_get}
use Rattle.std.proofs.Math.Nat.{mul-le-mul_right}
use Rattle.std.proofs.lemmas.Option.{same_Some}
use Rattle.std.proofs.lemmas.Bool.{both_ways, and_parts, eqb-true, cases_lt, cases_order}
use Rattle.std.proofs.lemmas.Bool.Decides.{nat_tests}
use Rattle.layout_make.proofs.Lawful.{IsLawful}
use Rattle.circuit.specs.declared.cell_kind.CellKind.{CellKind}
use Rattle.circuit.specs.CellKinds.{slots_of}
use Rattle.geom.specs.declared.shapes.Shape.{Shape}
use Rattle.geom.specs.Rectangle.{overlap, within}
use Rattle.layout_make.specs.Sheet.{Sheet, Tag, Frame, Lead, Bar}
use Rattle.layout_make.specs.Sheet.{begins, lead_use, layer_of, datatype_of, place_of, shape_of, lower_edge}
use Rattle.layout_make.proofs.SheetKeeps.{Fits, IsDrawn, IsStep, HasCells}
use Rattle.layout_make.specs.Tags.{At}
use Rattle.sorting.specs.Numbers.{numbers}
use Rattle.layout_make.proofs.Routes.{on_line, IsRoute, IsLineAt, meets, AreWound}
use Rattle.layout_rules.specs.Rows.{AreRows}
use Rattle.layout_rules.specs.declared.layers.TheConstants.{EVEN_LINE, ODD_LINE, BAR, LINK, START, FRAME}
use Rattle.layout_rules.specs.Layers.{is_line, is_frame}
use Rattle.layout_rules.specs.Reports.{Passes}
use Rattle.layout_rules.specs.ExcitationLines.{Contact, IsPart, enters, leaves}
use Rattle.layout_rules.specs.ExcitationRule.{is_no_part, LacksOneStart, IsMisjoined, IsCutOff}
use Rattle.layout_rules.specs.ExcitationRule.{HasStartContacts, HasLinkContacts, HasBarContacts}
use Rattle.layout_rules.specs.Code.ChainRule.{IsChainUncrossed, IsChainExcited, IsChainUnexcited}
use Rattle.layout_rules.proofs.RowLaws.{row_of-certified}
use Rattle.layout_rules.proofs.ReportLaws.{Afterwards-none}
use Rattle.layout_make.proofs.Columns.{next_edge, edges_apart}
use Rattle.layout_make.proofs.Joins.{from_map, to_map, shapes_of, same_at}
use Rattle.layout_make.proofs.LineRule.{line_rows, contact_linked, bar_contact, a_start, linked_from_lead}
use Rattle.layout_make.proofs.LineRule.{linked_from_bar, lead_not_bar, before_bar, all_reached, no_start, step_below}
use Rattle.layout_make.proofs.LineShapes.{begins_low, begins_bare}
use Rattle.layout_make.proofs.LinePhase.{bar_entered, bar_left, bar_phase, bar_frame, frame_in_bar, lead_frame}
use Rattle.layout_make.proofs.DrawnRules.{tag_of, frame_at}
use Rattle.layout_make.proofs.PinCounts.{slots_some}

pub line_tag : (t : Tag) → on_line (layer_of t) ≡ true → (r : ℕ) × ((t ≡ Lead r) ⊎ (t ≡ Bar r))
line_tag (Lead r) e = (r, inl refl)
line_tag (Bar r) e = (r, inr refl)
line_tag t e = absurd cc

pub slot_wide : (s : Sheet) → IsLawful s.library → 1 ≤ s.library.columns * s.library.pitch
slot_wide s laws =
    let d = laws.columns_some in let e = laws.spaced in let f = laws.space_some in
    let h : 1 * s.library.pitch ≤ s.library.columns * s.library.pitch = mul-le-mul_right s.library.pitch
    (let k : 1 ≤ s.library.columns = omega arith in k) in
    omega arith

-- a line of the shapes, by tag
pub record LineOf (s : Sheet) (ts : List Tag) (i : ℕ) (a : Shape) : Type 0 where
  pub row : ℕ
  pub tag : Tag
  pub at : At ts i tag
  pub is : (tag ≡ Lead row) ⊎ (tag ≡ Bar row)
  pub shape : shape_of s tag ≡ a

line_of : (s : Sheet) (ts : List Tag) (i : ℕ) (a : Shape) → IsLineAt (shapes_of s ts) i a → LineOf s ts i a
line_of s ts i a h =
    let t = tag_of s ts i a h.0 in
    let u = line_tag t.0 (ap (λ (x : Shape). on_line x.layer) t.2 ∙ h.1) in
    record { row = u.0; tag = t.0; at = t.1; is = u.1; shape = t.2 }

pub bar_is : (s : Sheet) (ts : List Tag) (i r : ℕ) → At ts i (Bar r) → IsPart (shapes_of s ts) BAR i
bar_is s ts i r at =
    record {
      shape = shape_of s (Bar r);
      shape_is = to_map (shape_of s) ts i (Bar r) at;
      line_so = line_rows (suc r);
      datatype_is = refl;
    }

pub uses : (lag n : ℕ) → (1 ≤ lead_use lag n) × (lead_use lag n < 3)
uses lag n = go (begins lag n)
  where
    go : (b : Bool) → (1 ≤ (if b then START else LINK)) × ((if b then START else LINK) < 3)
    go true = (omega arith, omega arith)
    go false = (omega arith, omega arith)

link_step : (lag n : ℕ) → lead_use lag n ≡ 1 → (q : ℕ) × (n ≡ suc (suc q)) × (begins lag (suc (suc q)) ≡ false)
link_step lag zero e = absurd (omega arith)
link_step lag (suc zero) e = absurd (omega arith)
link_step lag (suc (suc n)) e = (n, refl, go (begins lag (suc (suc n))) e)
  where
    go : (b : Bool) → (if b then START else LINK) ≡ 1 → b ≡ false
    go true e = absurd (omega arith)
    go false e = refl

-- a shape of a use, by tag
pub used_tag : (s : Sheet) (ts : List Tag) (i n : ℕ) → IsPart (shapes_of s ts) n i
    → ((r : ℕ) × At ts i (Lead r) × (lead_use s.lag r ≡ n)) ⊎ ((r : ℕ) × At ts i (Bar r) × (n ≡ 0))
used_tag s ts i n h =
    let x = line_of s ts i h.shape (h.shape_is, h.line_so) in
    elim x.is [
      | inl e ↦ inl (
        x.row,
        subst (λ (t : Tag). At ts i t) e x.at,
        sym (ap (datatype_of s) e)
            ∙ ap (λ (y : Shape). y.datatype) x.shape ∙ h.datatype_is,
      )
      | inr e ↦ inr (
        x.row,
        subst (λ (t : Tag). At ts i t) e x.at,
        sym
            (sym (ap (datatype_of s) e) ∙ ap (λ (y : Shape). y.datatype) x.shape ∙ h.datatype_is),
      )
    ]

row_below : (s : Sheet) (ts : List Tag) → IsDrawn s ts → (i : ℕ) (a : Shape) (x : LineOf s ts i a) → IsStep s x.row
row_below s ts is i a x = elim x.is [
  | inl e ↦ is.fits i (Lead x.row) (subst (λ (t : Tag). At ts i t) e x.at)
  | inr e ↦ is.fits i (Bar x.row) (subst (λ (t : Tag). At ts i t) e x.at)
]

layer_row : (s : Sheet) (ts : List Tag) (i : ℕ) (a : Shape) (x : LineOf s ts i a) → a.layer ≡ 14 + suc x.row % 2
layer_row s ts i a x = elim x.is [
  | inl e ↦ sym (ap (λ (y : Shape). y.layer) x.shape) ∙ ap layer_of e
  | inr e ↦ sym (ap (λ (y : Shape). y.layer) x.shape) ∙ ap layer_of e
]

lead_contact : (s : Sheet) (ts : List Tag) → IsDrawn s ts → (i c q : ℕ) → At ts i (Lead q)
    → Contact (shapes_of s ts) i c → (r : ℕ) × At ts c (Bar r) × ((q ≡ r) ⊎ (q ≡ r + 2))
lead_contact s ts is i c q at h =
    let u = from_map (shape_of s) ts c h.second h.second_is in
    let l = linked_from_lead q u.0 (contact_linked s ts is i c (Lead q) u.0 at u.1 h) in
    (l.0, subst (λ (t : Tag). At ts c t) l.1 u.1, l.2)

bar_touches : (s : Sheet) (ts : List Tag) → IsDrawn s ts → (i c r : ℕ) → At ts i (Bar r) → Contact (shapes_of s ts) i c
    → (q : ℕ) × At ts c (Lead q) × ((q ≡ r) ⊎ (q ≡ r + 2))
bar_touches s ts is i c r at h =
    let u = from_map (shape_of s) ts c h.second h.second_is in
    let l = linked_from_bar r u.0 (contact_linked s ts is i c (Bar r) u.0 at u.1 h) in
    (l.0, subst (λ (t : Tag). At ts c t) l.1 u.1, l.2)

pub bar_once : (s : Sheet) (ts : List Tag) → IsDrawn s ts → (i j q r : ℕ) → At ts i (Bar q) → At ts j (Bar r) → q ≡ r
    → i ≡ j
bar_once s ts is i j q r a b e = is.once i j (Bar r) (subst (λ (n : ℕ). At ts i (Bar n)) e a) b

pub lead_once : (s : Sheet) (ts : List Tag) → IsDrawn s ts → (i j q r : ℕ) → At ts i (Lead q) → At ts j (Lead r) → q ≡ r
    → i ≡ j
lead_once s ts is i j q r a b e = is.once i j (Lead r) (subst (λ (n : ℕ). At ts i (Lead n)) e a) b

pub shape_at : (s : Sheet) (ts : List Tag) (i : ℕ) (t : Tag) (a : Shape) → At ts i t
    → slice_get (shapes_of s ts) i ≡ Some a → shape_of s t ≡ a
shape_at s ts i t a at is = same_Some _ _ (sym (to_map (shape_of s) ts i t at) ∙ is)

start_bar : (s : Sheet) (ts : List Tag) → IsDrawn s ts → (i : ℕ) → IsPart (shapes_of s ts) START i
    → HasStartContacts (shapes_of s ts) i
start_bar s ts is i h =
    let x = a_start s ts i h in
    let step = is.fits i (Lead x.0) x.1 in
    let bar = is.bars x.0 step in
    record {
      bar = bar.0;
      contact = (bar_contact s ts is i bar.0 x.0 x.0 x.1 bar.1 (inl refl)).0;
      is_bar = bar_is s ts bar.0 x.0 bar.1;
      only = λ c k. (let y = lead_contact s ts is i c x.0 x.1 k in
          elim y.2 [
            | inl e ↦ bar_once s ts is c bar.0 y.0 x.0 y.1 bar.1 (sym e)
            | inr e ↦ absurd (no_start s y.0 (is.fits c (Bar y.0) y.1)
                (subst (λ (n : ℕ). begins s.lag n ≡ true) e x.2))
          ]);
    }

link_bars : (s : Sheet) (ts : List Tag) → IsDrawn s ts → (i : ℕ) → IsPart (shapes_of s ts) LINK i
    → HasLinkContacts (shapes_of s ts) i
link_bars s ts is i h = elim (used_tag s ts i LINK h) [
  | inr x ↦ absurd (let e = x.2 in omega arith)
  | inl x ↦
      let q = link_step s.lag x.0 x.2 in
      let step = is.fits i (Lead x.0) x.1 in
      let e : x.0 ≡ q.0 + 2 = (let k = q.1 in omega arith) in
      let low = is.bars q.0 (step_below s q.0 q.2 (subst (λ (n : ℕ). n < suc s.rows) q.1 step.below)) in
      let high = is.bars x.0 step in
      record {
        one = low.0;
        other = high.0;
        one_contact = (bar_contact s ts is i low.0 x.0 q.0 x.1 low.1 (inr e)).0;
        other_contact = (bar_contact s ts is i high.0 x.0 x.0 x.1 high.1 (inl refl)).0;
        apart = λ f. (let k : Bar q.0 ≡ Bar x.0 = same_at ts high.0 (Bar q.0) (Bar x.0)
            (subst (λ (n : ℕ). At ts n (Bar q.0)) f low.1) high.1 in let m : q.0 ≡ x.0 = cc in omega arith);
        one_bar = bar_is s ts low.0 q.0 low.1;
        other_bar = bar_is s ts high.0 x.0 high.1;
        only = λ c k. (let y = lead_contact s ts is i c x.0 x.1 k in elim y.2 [
          | inl f ↦ inr (bar_once s ts is c high.0 y.0 x.0 y.1 high.1 (sym f))
          | inr f ↦ inl (bar_once s ts is c low.0 y.0 q.0 y.1 low.1 (omega arith))
        ]);
      }
]

not_a_bar : (s : Sheet) (ts : List Tag) (c q : ℕ) → At ts c (Lead q) → IsPart (shapes_of s ts) BAR c → ⊥
not_a_bar s ts c q at h = elim (used_tag s ts c BAR h) [
  | inl x ↦ absurd (let e = x.2 in let f = (uses s.lag x.0).0 in omega arith)
  | inr x ↦ lead_not_bar ts c q x.0 at x.1
]

bar_leads : (s : Sheet) (ts : List Tag) → IsDrawn s ts → (i : ℕ) → IsPart (shapes_of s ts) BAR i
    → HasBarContacts (shapes_of s ts) i
bar_leads s ts is i h = elim (used_tag s ts i BAR h) [
  | inl x ↦ absurd (let e = x.2 in let f = (uses s.lag x.0).0 in omega arith)
  | inr x ↦
      let lt = is.fits i (Bar x.0) x.1 in
      let lead = is.leads x.0 lt in
      let contact = (bar_contact s ts is lead.0 i x.0 x.0 lead.1 x.1 (inl refl)).1 in
      let no_bar : (c : ℕ) → Contact (shapes_of s ts) i c → IsPart (shapes_of s ts) BAR c → ⊥ = λ c k.
      (let y = bar_touches s ts is i c x.0 x.1 k in not_a_bar s ts c y.0 y.1) in
      elim (cases_lt (x.0 + 2) (suc s.rows)) [
        | inl more ↦
            let next = is.leads (x.0 + 2) (record { below = more; lagged = λ z. absurd (omega arith) }) in
            record {
              one = lead.0;
              other = next.0;
              one_contact = contact;
              only = λ c k. (let y = bar_touches s ts is i c x.0 x.1 k in elim y.2 [
                | inl f ↦ inl (lead_once s ts is c lead.0 y.0 x.0 y.1 lead.1 f)
                | inr f ↦ inr (lead_once s ts is c next.0 y.0 (x.0 + 2) y.1 next.1 f)
              ]);
              no_bar = no_bar;
            }
        | inr last ↦ record {
          one = lead.0;
          other = lead.0;
          one_contact = contact;
          only = λ c k. (let y = bar_touches s ts is i c x.0 x.1 k in elim y.2 [
            | inl f ↦ inl (lead_once s ts is c lead.0 y.0 x.0 y.1 lead.1 f)
            | inr f ↦ absurd (let z = (is.fits c (Lead y.0) y.1).below in omega arith)
          ]);
          no_bar = no_bar;
        }
      ]
]

bar_at : (s : Sheet) (ts : List Tag) (b a : ℕ) (rest : List ℕ) (bar : Shape) → IsDrawn s ts
    → IsRoute (shapes_of s ts) (b ∷ a ∷ rest) → slice_get (shapes_of s ts) b ≡ Some bar → bar.datatype ≡ 0
    → (r : ℕ) × At ts b (Bar r) × At ts a (Lead r)
bar_at s ts b a rest bar is route at e = go rest route
  where
    found : Contact (shapes_of s ts) a b → (r : ℕ) × At ts b (Bar r)
    found h =
        let same : h.second ≡ bar = same_Some _ _ (sym h.second_is ∙ at) in
        let m = meets h.first h.second h.meet_so in
        elim
        (used_tag s ts b BAR
        (record {
          shape = bar;
          shape_is = at;
          line_so = ap (λ (x : Shape). on_line x.layer) (sym same) ∙ ap on_line (sym m.same_layer) ∙ m.of_line;
          datatype_is = e;
        })) [
          | inl x ↦ absurd (let k = x.2 in let f = (uses s.lag x.0).0 in omega arith)
          | inr x ↦ (x.0, x.1)
        ]

    go : (rest : List ℕ) → IsRoute (shapes_of s ts) (b ∷ a ∷ rest) → (r : ℕ) × At ts b (Bar r) × At ts a (Lead r)
    go rest route = let x = found route.chain.0 in (x.0, x.1, before_bar s ts is b a x.0 rest route x.1)

-- the rows of a drawing

abbrev pub edges_of : Sheet → List ℤ
edges_of s = map (λ r. pos (lower_edge s r)) (numbers 0 s.rows)

pub edge_rises : (s : Sheet) → IsLawful s.library → (r q : ℕ) → r < q → lower_edge s r < lower_edge s q
edge_rises s laws r q lt = let x = edges_apart s.library s.used r q lt in let y = next_edge s.library s.used r in
    omega arith

count_at : (k n i r : ℕ) → slice_get (numbers k n) i ≡ Some r → (r ≡ k + i) × (i < n)
count_at k zero i r e = absurd cc
count_at k (suc n) zero r e = let x : k ≡ r = same_Some _ _ e in (omega arith, omega arith)
count_at k (suc n) (suc i) r e = let x = count_at (suc k) n i r e in (omega arith, omega arith)

at_count : (k n i : ℕ) → i < n → slice_get (numbers k n) i ≡ Some (k + i)
at_count k zero i h = absurd (omega arith)
at_count k (suc n) zero h = ap (λ (x : ℕ). Some x) (omega arith)
at_count k (suc n) (suc i) h = at_count (suc k) n i (omega arith) ∙ ap (λ (x : ℕ). Some x) (omega arith)

edge_at : (s : Sheet) (r : ℕ) (y : ℤ) → slice_get (edges_of s) r ≡ Some y → (y ≡ pos (lower_edge s r)) × (r < s.rows)
edge_at s r y e =
    let m = from_map (λ n. pos (lower_edge s n)) (numbers 0 s.rows) r y e in
    let c = count_at 0 s.rows r m.0 m.1 in
    (sym m.2 ∙ ap (λ (n : ℕ). pos (lower_edge s n)) (let k : m.0 ≡ r = omega arith in k), c.1)

pub at_edge : (s : Sheet) (r : ℕ) → r < s.rows → slice_get (edges_of s) r ≡ Some (pos (lower_edge s r))
at_edge s r lt = to_map (λ n. pos (lower_edge s n)) (numbers 0 s.rows) r r
    (at_count 0 s.rows r lt ∙ ap (λ (x : ℕ). Some x) (omega arith))

less_pos : (a b : ℕ) → a < b → int_lt (pos a) (pos b) ≡ true
less_pos a b h = grind (arith, nat_tests)

pub drawn_rows : (s : Sheet) (ts : List Tag) → IsDrawn s ts → HasCells s ts → AreRows (shapes_of s ts) (edges_of s)
drawn_rows s ts is has = record {
  rising = λ i j y z iy jz lt.
      let a = edge_at s i y iy in
      let b = edge_at s j z jz in
      ap (λ (x : ℤ). int_lt x z) a.0 ∙ ap (λ (x : ℤ). int_lt (pos (lower_edge s i)) x) b.0
      ∙ less_pos (lower_edge s i) (lower_edge s j) (edge_rises s is.routed.laws i j lt);
  each = λ f frame at l.
      let a = frame_at s ts f frame at (eqb-true frame.layer 20 l) in
      let fits = is.fits f (Frame a.0 a.1 a.2) a.3 in
      (a.0, at_edge s a.0 fits.0 ∙ ap (λ (x : Shape). Some x.rect.y0) a.4);
  only = λ r y e.
      let a = edge_at s r y e in
      let o = has.frames_some r a.1 in (
        o.stands.0,
        shape_of s (Frame r o.slot o.kind),
        to_map (shape_of s) ts o.stands.0 (Frame r o.slot o.kind)
            o.stands.1,
        refl,
        sym a.0,
      );
}

-- a route leads to each bar by the lead of its row
pub bar_before : (s : Sheet) (ts : List Tag) → IsDrawn s ts → (b r : ℕ) → At ts b (Bar r)
    → (a : ℕ) × (rest : List ℕ) × At ts a (Lead r) × IsRoute (shapes_of s ts) (b ∷ a ∷ rest)
bar_before s ts is b r at =
    let l = (all_reached s ts is r (is.fits b (Bar r) at)).1 in
    go l.1 (subst (λ (n : ℕ). IsRoute (shapes_of s ts) (n ∷ l.1)) (bar_once s ts is l.0 b r r l.2 at refl) l.3)
  where
    go : (rest : List ℕ) → IsRoute (shapes_of s ts) (b ∷ rest)
        → (a : ℕ) × (rest : List ℕ) × At ts a (Lead r) × IsRoute (shapes_of s ts) (b ∷ a ∷ rest)
    go [] route = absurd (let x = a_start s ts b route.chain in lead_not_bar ts b x.0 r x.1 at)
    go (a ∷ rest) route = (a, rest, before_bar s ts is b a r rest route at, route)

frame_bar : (s : Sheet) (ts : List Tag) → IsDrawn s ts → HasCells s ts → (f : ℕ) (frame : Shape)
    → slice_get (shapes_of s ts) f ≡ Some frame → is_frame frame ≡ true → IsChainExcited (shapes_of s ts) frame
unfolding bar_is
frame_bar s ts is has f frame at so =
    let t = frame_at s ts f frame at (eqb-true frame.layer FRAME so) in
    let fits = is.fits f (Frame t.0 t.1 t.2) t.3 in
    let step : IsStep s (suc t.0) =
    record { below = (let k = fits.0 in omega arith); lagged = λ z. absurd (omega arith) } in
    let bar = is.bars (suc t.0) step in
    let lead = bar_before s ts is bar.0 (suc t.0) bar.1 in
    let edge : slice_get (edges_of s) t.0 ≡ Some frame.rect.y0 = at_edge s t.0 fits.0
    ∙ ap (λ (x : Shape). Some x.rect.y0) t.4 in
    let row = row_of-certified (shapes_of s ts) (edges_of s) (drawn_rows s ts is has) t.0 frame.rect.y0 edge in
    record {
      bar = bar.0;
      phase = record {
        is_bar = bar_is s ts bar.0 (suc t.0) bar.1;
        before = lead.0;
        before_shape = shape_of s (Lead (suc t.0));
        before_shape_is = to_map (shape_of s) ts lead.0 (Lead (suc t.0)) lead.2;
        is_before = record { rest = lead.1; chain = lead.3.chain; onward = lead.3.onward };
        phase_is = bar_phase s is.routed t.0 step ∙ ap (λ (n : ℕ). n % 4) (sym row);
      };
      over = sym (ap (λ (x : Shape). overlap (place_of s (Bar (suc t.0))) x.rect) t.4) ∙ over t.0 t.1 t.2 fits;
      contains = sym (ap (λ (x : Shape). within x.rect (place_of s (Bar (suc t.0)))) t.4)
          ∙ frame_in_bar s t.0 t.1 t.2 fits;
      only = λ i a is_a line o.
          let x = line_of s ts i a (is_a, line) in
          let o' : overlap (place_of s x.tag)
          (place_of s (Frame t.0 t.1 t.2)) ≡ true = ap (λ (y : Shape). overlap y.rect (place_of s (Frame t.0 t.1 t.2)))
          x.shape ∙ ap (λ (y : Shape). overlap a.rect y.rect) t.4 ∙ o in
          elim x.is [
            | inl lead ↦ absurd (let p = lead_frame s x.row t.0 t.1 t.2 fits in
                let q : overlap (place_of s (Lead x.row))
                (place_of s (Frame t.0 t.1 t.2)) ≡ true =
                ap (λ (y : Tag). overlap (place_of s y) (place_of s (Frame t.0 t.1 t.2))) (sym lead) ∙ o' in
                let z : true ≡ false = sym q ∙ p in cc)
            | inr b ↦ bar_once s ts is i bar.0 x.row (suc t.0) (subst (λ (y : Tag). At ts i y) b x.at) bar.1
                (bar_frame s is.routed x.row t.0 t.1 t.2
                (ap (λ (y : Tag). overlap (place_of s y) (place_of s (Frame t.0 t.1 t.2))) (sym b) ∙ o'))
          ];
    }
  where
    over : (r slot : ℕ) (k : CellKind) → Fits s (Frame r slot k)
        → overlap (place_of s (Bar (suc r))) (place_of s (Frame r slot k)) ≡ true
    over r slot k fits =
        let laws = is.routed.laws in
        let some = slots_some k in
        plain (slot * (s.library.columns * s.library.pitch))
        ((slot + slots_of k) * (s.library.columns * s.library.pitch)) s.right (lower_edge s r) s.library.height
        (wide slot (slots_of k) some) fits.1 (omega arith)
      where
        plain : (a b w y h : ℕ) → a < b → b ≤ w → 1 ≤ h
            → (int_lt (pos 0) (pos b) && int_lt (pos a)
            (pos w) && (int_lt (pos y) (pos (y + h)) && int_lt (pos y) (pos (y + h)))) ≡ true
        plain a b w y h p q r = grind (arith, nat_tests)

        wide : (a n : ℕ) → 1 ≤ n
            → a * (s.library.columns * s.library.pitch) < (a + n) * (s.library.columns * s.library.pitch)
        wide a n h = let x = is.routed.right_some in let y = slot_wide s is.routed.laws in
            let z : (a + 1) * (s.library.columns * s.library.pitch) ≤ (a + n) * (s.library.columns * s.library.pitch)
            = mul-le-mul_right (s.library.columns * s.library.pitch) (let k : a + 1 ≤ a + n = omega arith in k) in
            omega arith

-- the parts of the rule

module _ (s : Sheet) (ts : List Tag) (is : IsDrawn s ts) (has : HasCells s ts) where
  parts_kept : (i : ℕ) → Passes is_no_part (shapes_of s ts) i → ⊥
  parts_kept i p =
      let a = and_parts (is_line p.shape) (nat_lt START p.shape.datatype) p.passes_so in
      let x = line_of s ts i p.shape (p.shape_is, a.0) in
      let k : 2 < p.shape.datatype = more START p.shape.datatype a.1 in
      elim x.is [
        | inl e ↦ absurd (let d : p.shape.datatype ≡ lead_use s.lag x.row = sym (ap (λ (y : Shape). y.datatype) x.shape)
            ∙ ap (datatype_of s) e in let f = (uses s.lag x.row).1 in omega arith)
        | inr e ↦ absurd (let d : p.shape.datatype ≡ 0 = sym (ap (λ (y : Shape). y.datatype) x.shape)
            ∙ ap (datatype_of s) e in omega arith)
      ]
    where
      more : (a b : ℕ) → nat_lt a b ≡ true → a < b
      more a b e = grind (arith, nat_tests)

  -- the first step of the line that a step is of
  first_step : (n : ℕ) → (q : ℕ) × IsStep s q × (begins s.lag q ≡ true) × (suc q % 2 ≡ suc n % 2)
  first_step n = elim (cases_lt (suc n % 2) 1) [
    | inl even ↦ (
      1,
      record { below = (let k = is.routed.rows_some in omega arith); lagged = λ z. absurd (omega arith) },
      refl,
      omega arith,
    )
    | inr odd ↦ elim (cases_lt 0 s.lag) [
      | inl some ↦ (0, record { below = omega arith; lagged = λ z. some }, refl, omega arith)
      | inr none ↦ (
        2,
        record { below = (let k = is.routed.rows_some in omega arith); lagged = λ z. absurd (omega arith) },
        bare s.lag none,
        omega arith,
      )
    ]
  ]
    where
      bare : (lag : ℕ) → lag ≤ 0 → begins lag 2 ≡ true
      bare zero h = refl
      bare (suc lag) h = absurd (omega arith)

  -- and no other one
  one_first : (q n : ℕ) → IsStep s q → IsStep s n → begins s.lag q ≡ true → begins s.lag n ≡ true
      → suc q % 2 ≡ suc n % 2 → q ≡ n
  one_first q n fq fn bq bn e =
      let a = begins_low s.lag q bq in let b = begins_low s.lag n bn in
      elim (cases_order q n) [
        | inl same ↦ same
        | inr o ↦ elim o [
          | inl lt ↦ absurd (let z : q ≡ 0 = omega arith in let t : n ≡ 2 = omega arith in
              let k = begins_bare s.lag (subst (λ (m : ℕ). begins s.lag m ≡ true) t bn) in
              let h = fq.lagged z in omega arith)
          | inr lt ↦ absurd (let z : n ≡ 0 = omega arith in let t : q ≡ 2 = omega arith in
              let k = begins_bare s.lag (subst (λ (m : ℕ). begins s.lag m ≡ true) t bq) in
              let h = fn.lagged z in omega arith)
        ]
      ]

  starts_kept : (layer : ℕ) → on_line layer ≡ true → (a : ℕ) → LacksOneStart (shapes_of s ts) layer a → ⊥
  starts_kept layer line a h =
      let x = line_of s ts a h.shape (h.shape_is, ap on_line h.of_layer ∙ line) in
      let first = first_step x.row in
      let lead = is.leads first.0 first.1 in
      let same : 14 + suc first.0 % 2 ≡ layer = ap (λ (n : ℕ). 14 + n) first.3
      ∙ sym (layer_row s ts a h.shape x) ∙ h.of_layer in
      h.not_one (record {
        number = lead.0;
        start =
            record {
              start = record {
                shape = shape_of s (Lead first.0);
                shape_is = to_map (shape_of s) ts lead.0 (Lead first.0) lead.1;
                line_so = line_rows (suc first.0);
                datatype_is = ap (λ (b : Bool). if b then START else LINK) first.2;
              };
              of_layer = same;
            };
        only = λ i t.
            let y = a_start s ts i t.start in
            let ly : 14 + suc y.0 % 2 ≡ t.start.shape.layer = ap (λ (z : Shape). z.layer)
            (shape_at s ts i (Lead y.0) t.start.shape y.1 t.start.shape_is) in
            let parity : suc y.0 % 2 ≡ suc first.0 % 2 = (let k = t.of_layer in omega arith) in
            lead_once s ts is i lead.0 y.0 first.0 y.1 lead.1
            (one_first y.0 first.0 (is.fits i (Lead y.0) y.1) first.1 y.2 first.2 parity);
      })

  contacts_kept : (i : ℕ) → IsMisjoined (shapes_of s ts) i → ⊥
  contacts_kept i h =
      h.not_so (record { start = start_bar s ts is i; link = link_bars s ts is i; bar = bar_leads s ts is i })

  reach_kept : (i : ℕ) → IsCutOff (shapes_of s ts) i → ⊥
  reach_kept i h =
      let x = line_of s ts i h.part.shape (h.part.shape_is, h.part.passes_so) in
      let all = all_reached s ts is x.row (row_below s ts is i h.part.shape x) in
      elim x.is [
        | inl e ↦ let l = all.0 in
            by_route l.1 (subst (λ (n : ℕ). IsRoute (shapes_of s ts) (n ∷ l.1))
            (lead_once s ts is l.0 i x.row x.row l.2 (subst (λ (t : Tag). At ts i t) e x.at) refl) l.3)
        | inr e ↦ let l = all.1 in
            by_route l.1 (subst (λ (n : ℕ). IsRoute (shapes_of s ts) (n ∷ l.1))
            (bar_once s ts is l.0 i x.row x.row l.2 (subst (λ (t : Tag). At ts i t) e x.at) refl) l.3)
      ]
    where
      by_route : (rest : List ℕ) → IsRoute (shapes_of s ts) (i ∷ rest) → ⊥
      by_route rest route = h.not_reached (record { rest = rest; chain = route.chain })

  crossed_kept : (b : ℕ) → IsChainUncrossed (shapes_of s ts) b → ⊥
  crossed_kept b h =
      let bar = h.bar.shape in
      let lead = h.before_shape in
      let x = bar_at s ts b h.before h.is_before.rest bar is
      (record { chain = h.is_before.chain; onward = h.is_before.onward }) h.bar.shape_is h.bar.datatype_is in
      let sb = shape_at s ts b (Bar x.0) bar x.1 h.bar.shape_is in
      let sl = shape_at s ts h.before (Lead x.0) lead x.2 h.before_shape_is in
      elim h.wrong [
        | inl w ↦ both_ways (enters lead bar) w
            (sym (ap (λ (z : Shape). enters z bar) sl) ∙ sym (ap (λ (z : Shape). enters (shape_of s (Lead x.0)) z) sb)
            ∙ bar_entered s is.routed x.0 (is.fits b (Bar x.0) x.1))
        | inr w ↦
            let y = bar_touches s ts is b w.after x.0 x.1 w.contact in
            let up : y.0 ≡ x.0 + 2 = not_own y.0 x.0
            (λ m. w.onward (lead_once s ts is w.after h.before y.0 x.0 y.1 x.2 m)) y.2 in
            let sn = shape_at s ts w.after (Lead (x.0 + 2)) w.contact.second
            (subst (λ (n : ℕ). At ts w.after (Lead n)) up y.1) w.contact.second_is in
            both_ways (leaves lead bar w.contact.second) w.wrong
            (sym (ap (λ (z : Shape). leaves z bar w.contact.second) sl)
            ∙ sym (ap (λ (z : Shape). leaves (shape_of s (Lead x.0)) z w.contact.second) sb)
            ∙ sym (ap (λ (z : Shape). leaves (shape_of s (Lead x.0)) (shape_of s (Bar x.0)) z) sn)
            ∙ bar_left s is.routed x.0 (is.fits b (Bar x.0) x.1))
      ]
    where
      not_own : (q r : ℕ) → (q ≡ r → ⊥) → (q ≡ r) ⊎ (q ≡ r + 2) → q ≡ r + 2
      not_own q r f (inl e) = absurd (f e)
      not_own q r f (inr e) = e

  excited_kept : (f : ℕ) → IsChainUnexcited (shapes_of s ts) f → ⊥
  excited_kept f h = h.not_so (frame_bar s ts is has f h.frame.shape h.frame.shape_is h.frame.passes_so)

  alone : {P : ℕ → Type 0} → ((a : ℕ) → P a → ⊥) → (a b : ℕ) → P a × (b ≡ a) → ⊥
  alone none a b h = none a h.0

  pub drawn_lines : AreWound (shapes_of s ts)
  drawn_lines = record {
    none =
        Afterwards-none _ _ (alone parts_kept)
        (Afterwards-none _ _ (alone (starts_kept EVEN_LINE refl))
        (Afterwards-none _ _ (alone (starts_kept ODD_LINE refl))
        (Afterwards-none _ _ (alone contacts_kept)
        (Afterwards-none _ _ (alone reach_kept)
        (Afterwards-none _ _ (alone crossed_kept) (alone excited_kept))))));
    excited = frame_bar s ts is has;
  }
