-- Reports among some shapes of a layout tell those among all.
use Rattle.std.proofs.Common.{◌≡◌, ℕ, zero, suc, ◌<◌, ◌≤◌, ◌-◌, Bool, true, false, ◌&&◌, ◌||◌, not, List, length, max}
use Rattle.std.proofs.Common.{Option, Some, None, refl, sym, ap, subst, ◌∙◌, arith, inl, inr}
use Rattle.std.specs.Prelude.{◌⊎◌, ◌==◌, slice_get, slice_index, nat_lt, int_le}
use Rattle.std.specs.List.{list_any}
use Rattle.std.proofs.lemmas.Bool.{cases_eq, cases_lt, cases_order, both_ways, and_parts, and_from}
use Rattle.std.proofs.lemmas.Int.{ints}
use Rattle.std.proofs.lemmas.Option.{slice_get_within, same_Some}
use Rattle.geom.specs.declared.shapes.Shape.{Shape}
use Rattle.geom.specs.Rectangle.{Rectangle, IsProper, gap_x, gap_y, share_x, share_y, share_point, within}
use Rattle.geom.specs.Rectangle.{overlap, grown}
use Rattle.layout_rules.specs.declared.layers.TheConstants.{M1, M2}
use Rattle.layout_rules.specs.Layers.{is_frame, is_lower, is_upper, is_via}
use Rattle.layout_rules.specs.Limits.{Limits}
use Rattle.layout_rules.proofs.NetLaws.{share_point_comm}
use Rattle.layout_rules.specs.Pins.{lies_in}
use Rattle.layout_rules.proofs.PlaceLaws.{PassesAt, list_any-at, list_any-place}
use Rattle.layout_rules.specs.Reports.{Passes, PassTogether}
use Rattle.layout_rules.specs.GeometryRules.{are_of_one_group, are_too_close, SpacingBroken, is_covered, is_bare}
use Rattle.layout_rules.specs.GeometryRules.{EnclosureBroken, trespasses, CoverBroken, collide}
use Rattle.geom.specs.Rectangle.{common}
use Rattle.layout_rules.specs.GeometryRules.{FramesBroken}
use Rattle.shape_extract.specs.declared.search.Report.{Report}
use Rattle.shape_extract.specs.Searches.{Finds, AreThose}
use Rattle.shape_extract.specs.Distinct.{AreAt, HasStandIn, IsDistinct}
use Rattle.rule_check.specs.Code.Named.{HasPlaces, named}
use Rattle.rule_check.specs.Code.Sheets.{HaveSides}

-- ---- reports of two lists

-- something reported in the small list comes no later than these numbers
pub record HasBefore (numbers : List ℕ) (some : ℕ → ℕ → Type 0) (a b : ℕ) : Type 0 where
  pub first : ℕ
  pub second : ℕ
  pub reported : some first second
  pub not_after : (slice_index numbers first < a) ⊎ ((slice_index numbers first ≡ a) × (slice_index numbers second ≤ b))

-- what is reported among some shapes, by their numbers, is reported among all, and nothing comes earlier
pub record Represents (numbers : List ℕ) (all some : ℕ → ℕ → Type 0) : Type 0 where
  pub places : (j k : ℕ) → some j k → (j < length numbers) × (k < length numbers)
  pub sound : (j k : ℕ) → some j k → all (slice_index numbers j) (slice_index numbers k)
  pub before : (a b : ℕ) → all a b → HasBefore numbers some a b

abbrev Rises : List ℕ → Type 0
Rises numbers = (j k : ℕ) → j < k → k < length numbers → slice_index numbers j < slice_index numbers k

rises_to : (numbers : List ℕ) → Rises numbers → (j k : ℕ) → j ≤ k → k < length numbers
    → slice_index numbers j ≤ slice_index numbers k
rises_to numbers rising j k le lt = elim (cases_eq j k) [
  | inl e ↦ (let q : slice_index numbers j ≡ slice_index numbers k = ap (slice_index numbers) e in omega arith)
  | inr ne ↦ (let q : slice_index numbers j < slice_index numbers k = rising j k (omega arith) lt in omega arith)
]

pub places_of : (numbers : List ℕ) (all some : ℕ → ℕ → Type 0) (found : Option Report) → Represents numbers all some
    → Finds some found → HasPlaces (length numbers) found
places_of numbers all some None rep finds = tt
places_of numbers all some (Some r) rep finds = rep.places r.first r.second finds.reported

pub finds_named : (numbers : List ℕ) (all some : ℕ → ℕ → Type 0) (found : Option Report) → Rises numbers
    → Represents numbers all some → Finds some found → Finds all (named numbers found)
finds_named numbers all some None rising rep none = λ a b h. (let k : HasBefore numbers some a b = rep.before a b h in
    none k.first k.second k.reported)
finds_named numbers all some (Some r) rising rep finds = record {
  reported = rep.sound r.first r.second finds.reported;
  least = λ c d h.
      let k : HasBefore numbers some c d = rep.before c d h in
      let at = rep.places k.first k.second k.reported in
      elim (finds.least k.first k.second k.reported) [
        | inl less ↦
            let lt : slice_index numbers r.first < slice_index numbers k.first = rising r.first k.first less at.0 in
            elim k.not_after [
              | inl earlier ↦ inl (omega arith)
              | inr same ↦
                  inl (let e : slice_index numbers k.first ≡ c = same.0 in omega arith)
            ]
        | inr here ↦
            let e : slice_index numbers r.first ≡ slice_index numbers k.first = ap (slice_index numbers) here.0 in
            let le : slice_index numbers r.second ≤ slice_index numbers k.second =
            rises_to numbers rising r.second k.second here.1 at.1 in
            elim k.not_after [
              | inl earlier ↦ inl (omega arith)
              | inr same ↦
                  inr (e ∙ same.0, let q : slice_index numbers k.second ≤ d = same.1 in omega arith)
            ]
      ];
}

-- ---- shapes of two lists

pub lifted : (all : List Shape) (numbers : List ℕ) (some : List Shape) → AreAt all numbers some → (k : ℕ) (s : Shape)
    → slice_get some k ≡ Some s → (k < length numbers) × (slice_get all (slice_index numbers k) ≡ Some s)
lifted all numbers some at k s is =
    let lt : k < length numbers = (let l : k < length some = slice_get_within some k s is in omega (arith, at.long)) in
    (lt, sym (at.each k lt) ∙ is)

together_places : (test : Shape → Shape → Bool) (all : List Shape) (numbers : List ℕ) (some : List Shape)
    → AreAt all numbers some → (j k : ℕ) → PassTogether test some j k → (j < length numbers) × (k < length numbers)
together_places test all numbers some at j k pass = (
  (lifted all numbers some at j pass.first pass.first_is).0,
  (lifted all numbers some at k pass.second pass.second_is).0,
)

together_lifted : (test : Shape → Shape → Bool) (all : List Shape) (numbers : List ℕ) (some : List Shape)
    → AreAt all numbers some → (j k : ℕ) → PassTogether test some j k
    → PassTogether test all (slice_index numbers j) (slice_index numbers k)
together_lifted test all numbers some at j k pass = record {
  first = pass.first;
  second = pass.second;
  first_is = (lifted all numbers some at j pass.first pass.first_is).1;
  second_is = (lifted all numbers some at k pass.second pass.second_is).1;
  passes_so = pass.passes_so;
}

-- ---- frames alone

pub frames_represent : (all : List Shape) (numbers : List ℕ) (some : List Shape)
    → AreThose (Passes is_frame all) numbers → AreAt all numbers some
    → Represents numbers (FramesBroken all) (FramesBroken some)
frames_represent all numbers some those at = record {
  places = λ j k h. together_places collide all numbers some at j k h.1;
  sound = λ j k h. (let p = together_places collide all numbers some at j k h.1 in
      (those.rising j k h.0 p.1, together_lifted collide all numbers some at j k h.1));
  before = λ a b h.
      let pass : PassTogether collide all a b = h.1 in
      let frames = and_parts (is_frame pass.first) (is_frame pass.second)
      (and_parts (is_frame pass.first && is_frame pass.second) _ pass.passes_so).0 in
      let j = those.complete a (record { shape = pass.first; shape_is = pass.first_is; passes_so = frames.0 }) in
      let k = those.complete b (record { shape = pass.second; shape_is = pass.second_is; passes_so = frames.1 }) in
      let ja : slice_index numbers j.0 ≡ a = j.1.1 in
      let kb : slice_index numbers k.0 ≡ b = k.1.1 in
      let less : a < b = h.0 in
      let before_so : j.0 < k.0 = elim (cases_lt j.0 k.0) [
        | inl lt ↦ lt
        | inr ge ↦ absurd (let le : slice_index numbers k.0 ≤ slice_index numbers j.0 =
            rises_to numbers those.rising k.0 j.0 ge j.1.0 in omega arith)
      ] in
      record {
        first = j.0;
        second = k.0;
        reported = (
          before_so,
          record {
            first = pass.first;
            second = pass.second;
            first_is = at.each j.0 j.1.0 ∙ (ap (slice_get all) ja ∙ pass.first_is);
            second_is = at.each k.0 k.1.0 ∙ (ap (slice_get all) kb ∙ pass.second_is);
            passes_so = pass.passes_so;
          },
        );
        not_after = inr (ja, omega arith);
      };
}

-- ---- shapes that stand for all

record StandsAt (all : List Shape) (numbers : List ℕ) (some : List Shape) (n : ℕ) (s : Shape) : Type 0 where
  pub place : ℕ
  pub place_so : place < length numbers
  pub not_above : slice_index numbers place ≤ n
  pub shape_is : slice_get some place ≡ Some s

module _ (all : List Shape) (numbers : List ℕ) (some : List Shape) (d : IsDistinct all numbers some) where
  stands : (n : ℕ) (s : Shape) → slice_get all n ≡ Some s → StandsAt all numbers some n s
  stands n s is =
      let one : HasStandIn all numbers n = d.all n (slice_get_within all n s is) in
      record {
        place = one.place;
        place_so = one.within;
        not_above = one.not_above;
        shape_is = d.those.each one.place one.within ∙ (one.alike ∙ is);
      }

  -- some shape passes among all exactly where one does among those that stand for them
  any_same : (test : Shape → Bool) → list_any test some ≡ list_any test all
  any_same test = same_bool (list_any test some) (list_any test all)
      (λ h. (let at : PassesAt test some = list_any-place test some h in
      list_any-at test all (slice_index numbers at.place) at.item
      (lifted all numbers some d.those at.place at.item at.item_is).1 at.passes_so))
      (λ h. (let at : PassesAt test all = list_any-place test all h in
      let one : StandsAt all numbers some at.place at.item = stands at.place at.item at.item_is in
      list_any-at test some one.place at.item one.shape_is at.passes_so))
    where
      same_bool : (x y : Bool) → (x ≡ true → y ≡ true) → (y ≡ true → x ≡ true) → x ≡ y
      same_bool true y p q = sym (p refl)
      same_bool false true p q = q refl
      same_bool false false p q = refl

  -- ---- enclosure

  bare_same : (limits : Limits) (v : Shape) → is_bare limits some v ≡ is_bare limits all v
  bare_same limits v =
      ap (λ (x : Bool). is_via v && not (x && is_covered some M2 (grown limits.enclose v.rect)))
      (any_same (λ (s : Shape). s.layer == M1 && within (grown limits.enclose v.rect) s.rect))
      ∙ ap (λ (x : Bool). is_via v && not (is_covered all M1 (grown limits.enclose v.rect) && x))
      (any_same (λ (s : Shape). s.layer == M2 && within (grown limits.enclose v.rect) s.rect))

  pub enclosure_represents : (limits : Limits)
      → Represents numbers (EnclosureBroken limits all) (EnclosureBroken limits some)
  enclosure_represents limits = record {
    places = λ j k h. (let lt : j < length numbers = (lifted all numbers some d.those j h.0.shape h.0.shape_is).0 in
        let e : k ≡ j = h.1 in (lt, omega arith));
    sound = λ j k h. (
      record {
        shape = h.0.shape;
        shape_is = (lifted all numbers some d.those j h.0.shape h.0.shape_is).1;
        passes_so = sym (bare_same limits h.0.shape) ∙ h.0.passes_so;
      },
      ap (slice_index numbers) h.1,
    );
    before = λ a b h.
        let one : StandsAt all numbers some a h.0.shape = stands a h.0.shape h.0.shape_is in
        let e : b ≡ a = h.1 in
        record {
          first = one.place;
          second = one.place;
          reported = (
            record {
              shape = h.0.shape;
              shape_is = one.shape_is;
              passes_so = bare_same limits h.0.shape ∙ h.0.passes_so;
            },
            refl,
          );
          not_after = earlier (slice_index numbers one.place) a b one.not_above e;
        };
  }
    where
      earlier : (n a b : ℕ) → n ≤ a → b ≡ a → (n < a) ⊎ ((n ≡ a) × (n ≤ b))
      earlier n a b le e = elim (cases_lt n a) [ inl lt ↦ inl lt | inr ge ↦ inr (omega arith, omega arith) ]

  -- ---- metal over cells

  trespass_same : (s frame : Shape) → trespasses some s frame ≡ trespasses all s frame
  trespass_same s frame = ap (λ (x : Bool). is_frame frame && overlap s.rect frame.rect
      && (is_via s || is_upper s || (s.layer == M1 && not x)))
      (any_same (λ (pin : Shape). lies_in pin frame && within (common s.rect frame.rect) pin.rect))

  pub cover_represents : Represents numbers (CoverBroken all) (CoverBroken some)
  cover_represents = record {
    places = λ j k h. together_places (trespasses some) all numbers some d.those j k h;
    sound = λ j k h. (
        let up : PassTogether (trespasses some) all (slice_index numbers j) (slice_index numbers k) =
        together_lifted (trespasses some) all numbers some d.those j k h in
        record {
          first = up.first;
          second = up.second;
          first_is = up.first_is;
          second_is = up.second_is;
          passes_so = sym (trespass_same up.first up.second) ∙ up.passes_so;
        }
        );
    before = λ a b h.
        let j : StandsAt all numbers some a h.first = stands a h.first h.first_is in
        let k : StandsAt all numbers some b h.second = stands b h.second h.second_is in
        record {
          first = j.place;
          second = k.place;
          reported = record {
            first = h.first;
            second = h.second;
            first_is = j.shape_is;
            second_is = k.shape_is;
            passes_so = trespass_same h.first h.second ∙ h.passes_so;
          };
          not_after = elim (cases_lt (slice_index numbers j.place) a) [
            | inl lt ↦ inl lt
            | inr ge ↦ inr (let le : slice_index numbers j.place ≤ a = j.not_above in omega arith, k.not_above)
          ];
        };
  }

  -- ---- spacing

  pub spacing_represents : (limits : Limits)
      → ((s : Shape) (n : ℕ) → slice_get some n ≡ Some s → share_point s.rect s.rect ≡ true)
      → Represents numbers (SpacingBroken limits all) (SpacingBroken limits some)
  spacing_represents limits own = record {
    places = λ j k h. together_places (are_too_close limits.space) all numbers some d.those j k h.1;
    sound = λ j k h. (let p = together_places (are_too_close limits.space) all numbers some d.those j k h.1 in
        (d.rising j k h.0 p.1, together_lifted (are_too_close limits.space) all numbers some d.those j k h.1));
    before = λ a b h.
        let pass : PassTogether (are_too_close limits.space) all a b = h.1 in
        let less : a < b = h.0 in
        let j : StandsAt all numbers some a pass.first = stands a pass.first pass.first_is in
        let k : StandsAt all numbers some b pass.second = stands b pass.second pass.second_is in
        elim (cases_order j.place k.place) [
          | inl same ↦ absurd (
              let one : pass.first ≡ pass.second = same_Some pass.first pass.second (sym j.shape_is
              ∙ (ap (slice_get some) same ∙ k.shape_is)) in
              own_apart limits.space pass.first pass.second one (own pass.first j.place j.shape_is) pass.passes_so
              )
          | inr ne ↦ elim ne [
            | inl lt ↦ record {
              first = j.place;
              second = k.place;
              reported = (
                lt,
                record {
                  first = pass.first;
                  second = pass.second;
                  first_is = j.shape_is;
                  second_is = k.shape_is;
                  passes_so = pass.passes_so;
                },
              );
              not_after = elim (cases_lt (slice_index numbers j.place) a) [
                | inl earlier ↦ inl earlier
                | inr ge ↦ inr (let le : slice_index numbers j.place ≤ a = j.not_above in omega arith, k.not_above)
              ];
            }
            | inr gt ↦ record {
              first = k.place;
              second = j.place;
              reported = (
                gt,
                record {
                  first = pass.second;
                  second = pass.first;
                  first_is = k.shape_is;
                  second_is = j.shape_is;
                  passes_so = sym (too_close_comm limits.space pass.first pass.second) ∙ pass.passes_so;
                },
              );
              not_after = inl (let lt : slice_index numbers k.place < slice_index numbers j.place =
                  d.rising k.place j.place gt j.place_so in let le : slice_index numbers j.place ≤ a = j.not_above in
                  omega arith);
            }
          ]
        ];
  }
    where
      and_comm : (x y : Bool) → (x && y) ≡ (y && x)
      and_comm true true = refl
      and_comm true false = refl
      and_comm false true = refl
      and_comm false false = refl

      max_comm : (x y : ℕ) → max x y ≡ max y x
      max_comm x y = omega arith

      group_comm : (a b : Shape) → are_of_one_group a b ≡ are_of_one_group b a
      group_comm a b = rw (
        and_comm (is_lower a) (is_lower b),
        and_comm (is_via a) (is_via b),
        and_comm (is_upper a)
            (is_upper b),
      ) refl

      gaps_comm : (space : ℕ) (a b : Rectangle) → (nat_lt (gap_x a b) space && nat_lt (gap_y a b) space)
          ≡ (nat_lt (gap_x b a) space && nat_lt (gap_y b a) space)
      gaps_comm space a b = ap (λ (n : ℕ). nat_lt n space && nat_lt (gap_y a b) space) (max_comm _ _)
          ∙ ap (λ (n : ℕ). nat_lt (gap_x b a) space && nat_lt n space) (max_comm _ _)

      too_close_comm : (space : ℕ) (a b : Shape) → are_too_close space a b ≡ are_too_close space b a
      too_close_comm space a b =
          ap (λ (x : Bool). x && not (share_point a.rect b.rect)
          && (nat_lt (gap_x a.rect b.rect) space && nat_lt (gap_y a.rect b.rect) space)) (group_comm a b)
          ∙ (ap (λ (x : Bool). are_of_one_group b a && not x
          && (nat_lt (gap_x a.rect b.rect) space && nat_lt (gap_y a.rect b.rect) space))
          (share_point_comm a.rect b.rect)
          ∙ ap (λ (x : Bool). are_of_one_group b a && not (share_point b.rect a.rect) && x)
          (gaps_comm space a.rect b.rect))

      not_true : (x : Bool) → x ≡ true → not x ≡ true → ⊥
      not_true x p q = both_ways (not x) (ap not p) q

      own_apart : (space : ℕ) (a b : Shape) → a ≡ b → share_point a.rect a.rect ≡ true → are_too_close space a b ≡ true
          → ⊥
      own_apart space a b same share close =
          let parts = and_parts (are_of_one_group a b && not (share_point a.rect b.rect))
          (nat_lt (gap_x a.rect b.rect) space && nat_lt (gap_y a.rect b.rect) space) close in
          let apart = and_parts (are_of_one_group a b) (not (share_point a.rect b.rect)) parts.0 in
          not_true (share_point a.rect b.rect) (subst (λ (t : Shape). share_point a.rect t.rect ≡ true) same share)
          apart.1

-- a proper rectangle shares a point with itself
proper_shares : (r : Rectangle) → IsProper r → share_point r r ≡ true
proper_shares r proper =
    let x : int_le r.x0 r.x1 ≡ true = grind (arith, ints, proper.wide) in
    let y : int_le r.y0 r.y1 ≡ true = grind (arith, ints, proper.high) in
    and_from (share_x r r) (share_y r r) (and_from (int_le r.x0 r.x1) (int_le r.x0 r.x1) x x)
    (and_from (int_le r.y0 r.y1) (int_le r.y0 r.y1) y y)

pub proper_own : (some : List Shape) → HaveSides some → (s : Shape) (n : ℕ) → slice_get some n ≡ Some s
    → share_point s.rect s.rect ≡ true
proper_own some proper s n is = proper_shares s.rect (proper n s is)

-- rising numbers are no more than the numbers that they are below
few_rising : (numbers : List ℕ) (n : ℕ) → Rises numbers → ((k : ℕ) → k < length numbers → slice_index numbers k < n)
    → length numbers ≤ n
few_rising numbers n rising below = elim (cases_lt 0 (length numbers)) [
  | inl some ↦
      let last : length numbers - 1 ≤ slice_index numbers (length numbers - 1) =
      past (length numbers - 1) (omega arith) in
      omega (arith, below (length numbers - 1) (omega arith))
  | inr none ↦ omega arith
]
  where
    past : (k : ℕ) → k < length numbers → k ≤ slice_index numbers k
    past zero lt = omega arith
    past (suc k) lt = omega (arith, past k (omega arith), rising k (suc k) (omega arith) lt)

pub no_more : (all : List Shape) (numbers : List ℕ) (some : List Shape) → IsDistinct all numbers some
    → length some ≤ length all
no_more all numbers some d = omega (arith, d.those.long, few_rising numbers (length all) d.rising d.within)

pub frames_few : (all : List Shape) (numbers : List ℕ) (some : List Shape) → AreThose (Passes is_frame all) numbers
    → AreAt all numbers some → length some ≤ length all
frames_few all numbers some those at = omega (arith, at.long, few_rising numbers (length all) those.rising within_all)
  where
    within_all : (k : ℕ) → k < length numbers → slice_index numbers k < length all
    within_all k lt =
        let pass = those.each k lt in
        slice_get_within all (slice_index numbers k) pass.shape pass.shape_is
