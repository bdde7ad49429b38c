-- How far the excitation has run adds up from part to part of a line.
use Rattle.std.proofs.Common.{◌≡◌, ℕ, zero, suc, ◌+◌, ◌<◌, ◌==◌, inl, inr, List, [], ◌∷◌, length, take, Option, Some}
use Rattle.std.proofs.Common.{None, refl, sym, ap, subst, ◌∙◌, arith}
use Rattle.std.specs.Prelude.{slice_index, sum_by, if◌then◌else◌}
use Rattle.std.proofs.lemmas.Option.{same_Some}
use Rattle.std.proofs.lemmas.Bool.{cases_order, or_cases, eqb-true}
use Rattle.std.proofs.lemmas.List.Sums.{sum_by_more}
use Rattle.geom.specs.declared.shapes.Shape.{Shape}
use Rattle.geom.specs.Rectangle.{width}
use Rattle.layout_rules.specs.declared.layers.TheConstants.{EVEN_LINE, ODD_LINE, BAR, LINK, START}
use Rattle.layout_rules.specs.LengthRule.{longer_side}
use Rattle.layout_rules.specs.Reports.{ReportsNone, Alone, Passes}
use Rattle.layout_rules.specs.ExcitationLines.{Contact, IsPart, IsLine, HasOneLine, Before, is_on}
use Rattle.layout_rules.specs.ExcitationRule.{IsCutOff, AreLaidOut}
use Rattle.layout_rules.specs.LinePlaces.{way_through, way_at, ComesTo}
use Rattle.layout_rules.proofs.LineLaws.{Contact-back}
use Rattle.layout_rules.proofs.LinePaths.{one_path}
use Rattle.layout_rules.proofs.ChainsAgree.{start_one, contact_line}

-- nothing is counted of a start
start_way : (shapes : List Shape) (i : ℕ) → IsPart shapes START i → way_at shapes i ≡ 0
start_way shapes i part =
    ap (λ (o : Option Shape). elim o as (λ (x : Option Shape). ℕ) [ None ↦ 0 | Some s ↦ way_through s ]) part.shape_is
    ∙ ap (λ (n : ℕ). (if n == BAR then width part.shape.rect else
    (if n == LINK then longer_side part.shape.rect else 0))) part.datatype_is

first_way : (f : ℕ → ℕ) (path : List ℕ) → 0 < length path → sum_by f (take 1 path) ≡ f (slice_index path 0)
first_way f [] lt = absurd (omega arith)
first_way f (x ∷ xs) lt = (let alone : 0 + f x ≡ f x = omega arith in alone)

-- two ways to one shape along one path are one way
at_place : (shapes : List Shape) (layer : ℕ) (path : List ℕ) → IsLine shapes layer path → (p q a c b d e : ℕ)
    → suc p < length path → suc q < length path → slice_index path p ≡ a → slice_index path q ≡ c → slice_index path (suc p) ≡ b
    → slice_index path (suc q) ≡ b → d ≡ sum_by (way_at shapes) (take (suc p) path)
    → e ≡ sum_by (way_at shapes) (take (suc q) path) → (a ≡ c) × (d ≡ e)
at_place shapes layer path line p q a c b d e in_p in_q a_is c_is p_is q_is d_is e_is = (
  sym a_is ∙ ap (λ (n : ℕ). slice_index path n) same ∙ c_is,
  d_is ∙ ap (λ (n : ℕ). sum_by (way_at shapes) (take (suc n) path)) same ∙ sym e_is,
)
  where
    same : p ≡ q
    same = elim (cases_order p q) [
      | inl one ↦ one
      | inr ne ↦ elim ne [
        | inl lt ↦ absurd (line.once (suc p) (suc q) (omega arith) in_q (p_is ∙ sym q_is))
        | inr gt ↦ absurd (line.once (suc q) (suc p) (omega arith) in_p (q_is ∙ sym p_is))
      ]
    ]

module _ (shapes : List Shape) (lines : AreLaidOut shapes) where
  -- a start stands first in its line, since it has one contact
  stands_first : (layer : ℕ) (path : List ℕ) (line : IsLine shapes layer path) (p a : ℕ) → suc p < length path
      → slice_index path p ≡ a → IsPart shapes START a → p ≡ 0
  stands_first layer path line zero a lt is part = refl
  stands_first layer path line (suc q) a lt is part =
      absurd (line.once q (suc (suc q)) (omega arith) lt (start_one shapes lines a (slice_index path q)
      (slice_index path (suc (suc q))) part before after))
    where
      before : Contact shapes a (slice_index path q)
      before = subst (λ (x : ℕ). Contact shapes x (slice_index path q)) is (Contact-back (line.next q (omega arith)))

      after : Contact shapes a (slice_index path (suc (suc q)))
      after = subst (λ (x : ℕ). Contact shapes x (slice_index path (suc (suc q)))) is (line.next (suc q) lt)

  pub comes_first : (a b : ℕ) → IsPart shapes START a → Before shapes a b → ComesTo shapes a b 0
  comes_first a b part before = record {
    layer = before.layer;
    path = before.path;
    line = before.line;
    place = before.place;
    within = before.within;
    first_is = before.first_is;
    second_is = before.second_is;
    distance_is = sym (ap (λ (n : ℕ). sum_by (way_at shapes) (take (suc n) before.path)) head
        ∙ first_way (way_at shapes) before.path (omega (arith, before.within))
        ∙ ap (λ (n : ℕ). way_at shapes (slice_index before.path n)) (sym head)
        ∙ ap (way_at shapes) before.first_is ∙ start_way shapes a part);
  }
    where
      head : before.place ≡ 0
      head = stands_first before.layer before.path before.line before.place a before.within before.first_is part

  module _ (cut : ReportsNone (Alone (IsCutOff shapes))) where
    the_line : (layer : ℕ) (path : List ℕ) → IsLine shapes layer path → (p : ℕ) → suc p < length path
        → HasOneLine shapes layer
    the_line layer path line p lt =
        elim (or_cases (c.first.layer == EVEN_LINE) (c.first.layer == ODD_LINE)
        (contact_line shapes lines (slice_index path p) (slice_index path (suc p)) c)) [
          | inl e ↦ one_path shapes lines cut layer (inl (of_layer ∙ eqb-true c.first.layer EVEN_LINE e))
          | inr e ↦ one_path shapes lines cut layer (inr (of_layer ∙ eqb-true c.first.layer ODD_LINE e))
        ]
      where
        c : Contact shapes (slice_index path p) (slice_index path (suc p))
        c = line.next p lt

        on : Passes (is_on layer) shapes (slice_index path p)
        on = line.within p (omega arith)

        of_layer : layer ≡ c.first.layer
        of_layer = sym (eqb-true on.shape.layer layer on.passes_so)
            ∙ ap (λ (s : Shape). s.layer) (same_Some on.shape c.first (sym on.shape_is ∙ c.first_is))

    one_layer : (k l i : ℕ) → Passes (is_on k) shapes i → Passes (is_on l) shapes i → k ≡ l
    one_layer k l i on also = sym (eqb-true on.shape.layer k on.passes_so)
        ∙ ap (λ (s : Shape). s.layer) (same_Some on.shape also.shape (sym on.shape_is ∙ also.shape_is))
        ∙ eqb-true also.shape.layer l also.passes_so

    -- there is one way to a part
    pub one_way : (a c b d e : ℕ) → ComesTo shapes a b d → ComesTo shapes c b e → (a ≡ c) × (d ≡ e)
    one_way a c b d e first second =
        at_place shapes first.layer first.path first.line first.place second.place a c b d e first.within
        (subst (λ (p : List ℕ). suc second.place < length p) paths second.within)
        first.first_is
        (subst (λ (p : List ℕ). slice_index p second.place ≡ c) paths second.first_is)
        first.second_is
        (subst (λ (p : List ℕ). slice_index p (suc second.place) ≡ b) paths second.second_is)
        first.distance_is
        (subst (λ (p : List ℕ). e ≡ sum_by (way_at shapes) (take (suc second.place) p)) paths second.distance_is)
      where
        layers : second.layer ≡ first.layer
        layers = one_layer second.layer first.layer b
            (subst (Passes (is_on second.layer) shapes) second.second_is
            (second.line.within (suc second.place) second.within))
            (subst (Passes (is_on first.layer) shapes) first.second_is
            (first.line.within (suc first.place) first.within))

        line : HasOneLine shapes first.layer
        line = the_line first.layer first.path first.line first.place first.within

        paths : second.path ≡ first.path
        paths = line.only second.path (subst (λ (l : ℕ). IsLine shapes l second.path) layers second.line)
            ∙ sym (line.only first.path first.line)

    module _ (a b c distance : ℕ) (comes : ComesTo shapes a b distance) (next : Before shapes b c) where
      layers : next.layer ≡ comes.layer
      layers = one_layer next.layer comes.layer b
          (subst (Passes (is_on next.layer) shapes) next.first_is
          (next.line.within next.place (omega (arith, next.within))))
          (subst (Passes (is_on comes.layer) shapes) comes.second_is (comes.line.within (suc comes.place) comes.within))

      line : HasOneLine shapes comes.layer
      line = the_line comes.layer comes.path comes.line comes.place comes.within

      paths : next.path ≡ comes.path
      paths = line.only next.path (subst (λ (l : ℕ). IsLine shapes l next.path) layers next.line)
          ∙ sym (line.only comes.path comes.line)

      here : slice_index comes.path next.place ≡ b
      here = ap (λ (p : List ℕ). slice_index p next.place) (sym paths) ∙ next.first_is

      within : suc next.place < length comes.path
      within = subst (λ (p : List ℕ). suc next.place < length p) paths next.within

      places : next.place ≡ suc comes.place
      places = elim (cases_order next.place (suc comes.place)) [
        | inl one ↦ one
        | inr ne ↦ elim ne [
          | inl lt ↦ absurd (comes.line.once next.place (suc comes.place) lt comes.within (here ∙ sym comes.second_is))
          | inr gt ↦
              absurd (comes.line.once (suc comes.place) next.place gt (omega (arith, within))
              (comes.second_is ∙ sym here))
        ]
      ]

      added : distance + way_at shapes b ≡ sum_by (way_at shapes) (take (suc next.place) next.path)
      added =
          let more = sum_by_more (way_at shapes) next.path next.place 0 (omega (arith, next.within)) in
          let same : suc next.place ≡ next.place + 1 = omega arith in
          let so_far : sum_by (way_at shapes) (take next.place next.path) ≡ distance =
          ap (λ (p : List ℕ). sum_by (way_at shapes) (take next.place p)) paths
          ∙ ap (λ (n : ℕ). sum_by (way_at shapes) (take n comes.path)) places ∙ sym comes.distance_is in
          let last : way_at shapes (slice_index next.path next.place) ≡ way_at shapes b =
          ap (way_at shapes) next.first_is in
          sym (ap (λ (n : ℕ). sum_by (way_at shapes) (take n next.path)) same ∙ more
          ∙ ap (λ (n : ℕ). n + way_at shapes (slice_index next.path next.place)) so_far
          ∙ ap (λ (n : ℕ). distance + n) last)

      pub comes_next : ComesTo shapes b c (distance + way_at shapes b)
      comes_next = record {
        layer = next.layer;
        path = next.path;
        line = next.line;
        place = next.place;
        within = next.within;
        first_is = next.first_is;
        second_is = next.second_is;
        distance_is = added;
      }
