-- A query of a plane: what it finds, and that shapes that pass a test of that plane are among them.
use Rattle.std.proofs.Common.{◌≡◌, ℕ, zero, suc, ◌+◌, ◌<◌, ◌≤◌, ◌&&◌, ◌||◌, Bool, true, false, List, [], ◌++◌, length}
use Rattle.std.proofs.Common.{Some, refl, sym, ap, subst, ◌∙◌, arith, inl, inr}
use Rattle.std.specs.Prelude.{◌-◌, ◌==◌, slice_get, slice_index, slice_set, All, Contains}
use Rattle.std.specs.List.{filter}
use Rattle.std.proofs.Math.ListN.{get_or-append, length-append, length-set}
use Rattle.std.proofs.lemmas.Bool.{cases_eq, cases_lt, and_from, and_parts, eqb-true, or_cases}
use Rattle.std.proofs.lemmas.Grind.{get_or_default_zero}
use Rattle.std.proofs.lemmas.List.{get_or-append-add, get_or-set_same, get_or-set_other}
use Rattle.std.proofs.lemmas.Option.{same_Some, slice_get_within}
use Rattle.geom.specs.Rectangle.{Rectangle, IsProper, AreProper}
use Rattle.geom.specs.Near.{IsClose, IsNear, AreNear}
use Rattle.geom.specs.declared.shapes.Shape.{Shape}
use Rattle.geom.specs.Rectangle.{holds_point, overlap, share_point, within}
use Rattle.geom.specs.declared.shapes.Label.{Label}
use Rattle.layout_rules.specs.declared.layers.TheConstants.{EVEN_LINE, ODD_LINE, INPUT_PIN, OUTPUT_PIN, LABELS}
use Rattle.layout_rules.specs.ExcitationLines.{meet}
use Rattle.layout_rules.specs.Labels.{letter_i, marked_layer, marks}
use Rattle.layout_rules.specs.Layers.{is_frame, is_line, is_lower, is_pin, is_upper, is_via}
use Rattle.layout_rules.specs.Pins.{lies_in}
use Rattle.layout_rules.specs.Touch.{conducts, touch, Touching}
use Rattle.shape_extract.specs.declared.planes.Plane.{Plane}
use Rattle.shape_extract.specs.declared.planes.Plane.TheVariants.{Lower, Vias, Upper, Frames, Lines, Pins}
use Rattle.shape_extract.specs.Code.Cells.{holds_pin}
use Rattle.shape_extract.specs.Code.Lines.{lies_over}
use Rattle.shape_extract.proofs.Sharing.{sharing_close}
use Rattle.shape_extract.specs.Code.Walk.{AreTouching, touches_in}
use Rattle.shape_extract.specs.declared.planes.FiledPlane.{FiledPlane}
use Rattle.shape_extract.specs.Searches.{AreThose, passes_in, passes_at}
use Rattle.shape_extract.specs.Passing.{PassesIn}
use Rattle.shape_extract.specs.Planes.{in_plane, IsPlane, AreNamed, IsNearIn, AreNearIn}
use Rattle.shape_extract.proofs.Partners.{those_near, passes_here, holding_share}

-- ---- numbers in the stead of places

-- the first n places have their numbers
pub record AreNamedTo (n : ℕ) (numbers places found : List ℕ) : Type 0 where
  pub long : length found ≡ length places
  pub named : (k : ℕ) → k < n → k < length places → slice_index places k < length numbers
      → slice_index found k ≡ slice_index numbers (slice_index places k)
  pub rest : (k : ℕ) → n ≤ k → k < length places → slice_index found k ≡ slice_index places k

pub named_more : (n : ℕ) (numbers places found : List ℕ) (x : ℕ) → AreNamedTo n numbers places found
    → n < length places → x ≡ slice_index numbers (slice_index places n)
    → AreNamedTo (n + 1) numbers places (slice_set found n x)
named_more n numbers places found x are lt is = record {
  long = length-set found n x ∙ are.long;
  named = λ k less lk lp. elim (cases_eq k n) [
    | inl e ↦ ap (slice_index (slice_set found n x)) e ∙ (get_or-set_same found n x 0 (omega (arith, are.long)) ∙
        (is ∙ ap (λ (m : ℕ). slice_index numbers (slice_index places m)) (sym e)))
    | inr ne ↦ get_or-set_other found n k x 0 ne ∙ are.named k (omega arith) lk lp
  ];
  rest = λ k from lk. get_or-set_other found n k x 0 (λ e. absurd (omega arith)) ∙ are.rest k (omega arith) lk;
}

-- what is no place stays
pub named_same : (n : ℕ) (numbers places found : List ℕ) → AreNamedTo n numbers places found
    → length numbers ≤ slice_index places n → AreNamedTo (n + 1) numbers places found
named_same n numbers places found are past = record {
  long = are.long;
  named = λ k less lk lp. elim (cases_eq k n) [
    | inl e ↦ absurd (let same : slice_index places k ≡ slice_index places n = ap (slice_index places) e in omega arith)
    | inr ne ↦ are.named k (omega arith) lk lp
  ];
  rest = λ k from lk. are.rest k (omega arith) lk;
}

-- ---- what a query of a plane finds

module _ (plane : Plane) (shapes : List Shape) (filed : FiledPlane) (is : IsPlane plane shapes filed)
    (rect : Rectangle) (margin : ℕ) (near found : List ℕ) (are : AreNear filed.index rect margin near)
    (named : AreNamed filed.numbers.items near found) (proper : AreProper filed.index) where
  place_within : (k : ℕ) → k < length near → slice_index near k < length filed.numbers.items
  place_within k lt = (let at = are.each k 0 lt in omega (
    arith,
    slice_get_within filed.index (slice_index near k) at.other at.other_is,
    is.index.long,
  ))

  -- a shape of the plane has a place in it
  own_place : (n : ℕ) (s : Shape) → slice_get shapes n ≡ Some s → in_plane plane s ≡ true
      → (p : ℕ) × ((p < length filed.numbers.items) × (slice_index filed.numbers.items p ≡ n))
  own_place n s at in_it = is.those.complete n (record { item = s; item_is = at; passes_so = in_it })

  rect_there : (n p : ℕ) (s : Shape) → slice_get shapes n ≡ Some s → p < length filed.numbers.items
      → slice_index filed.numbers.items p ≡ n → slice_get filed.index p ≡ Some s.rect
  rect_there n p s at lt e = is.index.each p s lt (ap (slice_get shapes) e ∙ at)

  found_within : (k : ℕ) → k < length found → slice_index found k < length shapes
  found_within k lt =
      let lk : k < length near = omega (arith, named.long) in
      let e : slice_index found k ≡ slice_index filed.numbers.items (slice_index near k) =
      named.each k lk (place_within k lk) in
      let p : PassesIn (in_plane plane) shapes (slice_index filed.numbers.items (slice_index near k)) =
      is.those.each (slice_index near k) (place_within k lk) in
      omega (arith, slice_get_within shapes (slice_index filed.numbers.items (slice_index near k)) p.item p.item_is)

  found_near : (k : ℕ) → k < length found → IsNearIn plane shapes rect margin (slice_index found k)
  found_near k lt =
      let lk : k < length near = omega (arith, named.long) in
      let place = slice_index near k in
      let number = slice_index filed.numbers.items place in
      let p : PassesIn (in_plane plane) shapes number = is.those.each place (place_within k lk) in
      let there : slice_get filed.index place ≡ Some p.item.rect =
      rect_there number place p.item p.item_is (place_within k lk) refl in
      let at : IsNear filed.index rect margin place = are.each k 0 lk in
      let same : at.other ≡ p.item.rect = same_Some at.other p.item.rect (sym at.other_is ∙ there) in
      let near_so : IsNearIn plane shapes rect margin number = record {
        shape = p.item;
        shape_is = p.item_is;
        in_it = p.passes_so;
        close = rw same at at.close;
      } in
      subst (IsNearIn plane shapes rect margin) (sym (named.each k lk (place_within k lk))) near_so

  pub near_in_plane : AreNearIn plane shapes rect margin found
  near_in_plane = record {
    within = found_within;
    each = found_near;
    rising = λ k lt.
        let lk : k + 1 < length near = omega (arith, named.long) in
        let less : slice_index near k < slice_index near (k + 1) = are.rising k lk in
        let a : slice_index found k ≡ slice_index filed.numbers.items (slice_index near k) = named.each k (omega arith)
        (place_within k (omega arith)) in
        let b : slice_index found (k + 1) ≡ slice_index filed.numbers.items (slice_index near (k + 1)) = named.each
        (k + 1) lk (place_within (k + 1) lk) in
        omega (arith, is.those.rising (slice_index near k) (slice_index near (k + 1)) less (place_within (k + 1) lk));
    proper = λ n s at in_it.
        let p = own_place n s at in_it in
        proper p.0 s.rect (rect_there n p.0 s at p.1.0 p.1.1);
    complete = λ n s at in_it close.
        let p = own_place n s at in_it in
        let there = rect_there n p.0 s at p.1.0 p.1.1 in
        let c : Contains near p.0 = are.complete p.0 (record { other = s.rect; other_is = there; close = close }) in
        let same : slice_index near c.0 ≡ p.0 = sym (get_or_default_zero near c.0 p.0 c.1) ∙ c.2 in
        let lf : c.0 < length found = omega (arith, named.long, c.1) in (
          c.0,
          lf,
          get_or_default_zero found c.0 n lf ∙ (named.each c.0 c.1 (place_within c.0 c.1)
              ∙ (ap (slice_index filed.numbers.items) same ∙ p.1.1)),
        );
  }

pub all_within : (plane : Plane) (shapes : List Shape) (rect : Rectangle) (margin : ℕ) (found : List ℕ)
    → AreNearIn plane shapes rect margin found → All (λ n. n < length shapes) found
all_within plane shapes rect margin found are k d lt =
    omega (arith, get_or_default_zero found k d lt, are.within k lt)

-- the shapes that pass a test of a plane are those that pass it among the near ones
pub passing_in_plane : (test : Shape → Bool) (plane : Plane) (shapes : List Shape) (here : Rectangle) (margin : ℕ)
    (near found : List ℕ) → ((s : Shape) → test s ≡ true → in_plane plane s ≡ true)
    → ((s : Shape) → IsProper s.rect → test s ≡ true → IsClose here s.rect margin)
    → AreNearIn plane shapes here margin near → found ≡ filter (passes_at test shapes) near
    → AreThose (PassesIn test shapes) found
passing_in_plane test plane shapes here margin near found of_plane close are filtered =
    those_near (PassesIn test shapes) (passes_at test shapes) near found filtered are.rising
    (passes_here test shapes)
    (λ n h. (let in_it : in_plane plane h.item ≡ true = of_plane h.item h.passes_so in
    are.complete n h.item h.item_is in_it (close h.item (are.proper n h.item h.item_is in_it) h.passes_so)))
    (λ n h. ap (passes_in test) h.item_is ∙ h.passes_so)

-- ---- which plane a test asks for

pub pin_pinned : (frame pin : Shape) → holds_pin frame pin ≡ true → in_plane Pins pin ≡ true
pin_pinned frame pin h =
    let p = and_parts (is_pin pin && is_frame frame) (within pin.rect frame.rect) h in
    (and_parts (is_pin pin) (is_frame frame) p.0).0

pub frame_framed : (pin frame : Shape) → lies_in pin frame ≡ true → in_plane Frames frame ≡ true
frame_framed pin frame h =
    let p = and_parts (is_pin pin && is_frame frame) (within pin.rect frame.rect) h in
    (and_parts (is_pin pin) (is_frame frame) p.0).1

pub over_line : (frame part : Shape) → lies_over frame part ≡ true → in_plane Lines part ≡ true
over_line frame part h = (and_parts (is_line part) (overlap part.rect frame.rect) h).0

line_of : (a b : ℕ) → a ≡ b → (a == EVEN_LINE || a == ODD_LINE) ≡ true → (b == EVEN_LINE || b == ODD_LINE) ≡ true
line_of a b e h = rw e at h

pub met_line : (a b : Shape) → meet a b ≡ true → in_plane Lines b ≡ true
met_line a b h =
    let p = and_parts (is_line a && a.layer == b.layer) (share_point a.rect b.rect) h in
    let q = and_parts (is_line a) (a.layer == b.layer) p.0 in
    line_of a.layer b.layer (eqb-true a.layer b.layer q.1) q.0

input_pinned : (layer : ℕ) → layer ≡ INPUT_PIN → (layer == INPUT_PIN || layer == OUTPUT_PIN) ≡ true
input_pinned layer e = rw e refl

output_pinned : (layer : ℕ) → layer ≡ OUTPUT_PIN → (layer == INPUT_PIN || layer == OUTPUT_PIN) ≡ true
output_pinned layer e = rw e refl

pub marked_pinned : (label : Label) (pin : Shape) → marks label pin ≡ true → in_plane Pins pin ≡ true
marked_pinned label pin h =
    let p = and_parts (label.layer == LABELS && pin.layer == marked_layer label)
    (holds_point pin.rect label.x label.y) h in
    let q = and_parts (label.layer == LABELS) (pin.layer == marked_layer label) p.0 in
    by_letter (slice_index label.text 0 == letter_i) refl (eqb-true pin.layer (marked_layer label) q.1)
  where
    by_letter : (b : Bool) → (slice_index label.text 0 == letter_i) ≡ b → pin.layer ≡ marked_layer label
        → in_plane Pins pin ≡ true
    by_letter true is e = input_pinned pin.layer (rw is at e)
    by_letter false is e = output_pinned pin.layer (rw is at e)

pub marked_in_plane : (shapes : List Shape) (label : Label) (here : Rectangle) (near found : List ℕ)
    → holds_point here label.x label.y ≡ true → AreNearIn Pins shapes here 0 near
    → found ≡ filter (passes_at (marks label) shapes) near → AreThose (PassesIn (marks label) shapes) found
marked_in_plane shapes label here near found at are filtered =
    passing_in_plane (marks label) Pins shapes here 0 near found (marked_pinned label)
    (λ s proper h. sharing_close here s.rect (holding_share here s.rect label.x label.y at
    (and_parts (label.layer == LABELS && s.layer == marked_layer label) (holds_point s.rect label.x label.y) h).1))
    are filtered

-- ---- which planes hold what touches a shape

-- what conducts to a shape lies in one of the planes that are wanted of it
conducting : (l v u lb vb ub : Bool)
    → ((((l && lb) || (u && ub)) || (v && (lb || ub))) || (vb && (l || u))) ≡ true
    → ((((l || v) && lb) || ((l || u) && vb)) || ((u || v) && ub)) ≡ true
conducting l v u lb vb ub h = grind arith

-- the numbers of the three lists are those of the shapes that touch
module _ (shapes : List Shape) (from : ℕ) (first : Shape) (is : slice_get shapes from ≡ Some first)
    (lower vias upper : List ℕ)
    (in_lower : AreThose (PassesIn (touches_in (is_lower first || is_via first) Lower first) shapes) lower)
    (in_vias : AreThose (PassesIn (touches_in (is_lower first || is_upper first) Vias first) shapes) vias)
    (in_upper : AreThose (PassesIn (touches_in (is_upper first || is_via first) Upper first) shapes) upper) where
  IsListed : ℕ → Type 0
  IsListed n = (p : ℕ) × ((p < length ((lower ++ vias) ++ upper)) × (slice_index ((lower ++ vias) ++ upper) p ≡ n))

  touching_by : (wanted : Bool) (plane : Plane) (n : ℕ) → PassesIn (touches_in wanted plane first) shapes n
      → Touching shapes from n
  touching_by wanted plane n p =
      let q = and_parts wanted (in_plane plane p.item && touch first p.item) p.passes_so in
      record {
        first = first;
        second = p.item;
        first_is = is;
        second_is = p.item_is;
        touch_so = (and_parts (in_plane plane p.item) (touch first p.item) q.1).1;
      }

  at_lower : (p : ℕ) → p < length lower → slice_index ((lower ++ vias) ++ upper) p ≡ slice_index lower p
  at_lower p lt = get_or-append (lower ++ vias) upper 0 p (omega (arith, length-append lower vias))
      ∙ get_or-append lower vias 0 p lt

  at_vias : (p : ℕ) → p < length vias → slice_index ((lower ++ vias) ++ upper) (length lower + p) ≡ slice_index vias p
  at_vias p lt = get_or-append (lower ++ vias) upper 0 (length lower + p) (omega (arith, length-append lower vias))
      ∙ get_or-append-add lower vias p 0

  at_upper : (p : ℕ) → p < length upper
      → slice_index ((lower ++ vias) ++ upper) (length (lower ++ vias) + p) ≡ slice_index upper p
  at_upper p lt = get_or-append-add (lower ++ vias) upper p 0

  long : length ((lower ++ vias) ++ upper) ≡ (length lower + length vias) + length upper
  long = omega (arith, length-append lower vias, length-append (lower ++ vias) upper)

  each_from : (p : ℕ) → p < length ((lower ++ vias) ++ upper)
      → Touching shapes from (slice_index ((lower ++ vias) ++ upper) p)
  each_from p lt = elim (cases_lt p (length lower)) [
    | inl low ↦ subst (Touching shapes from) (sym (at_lower p low))
        (touching_by (is_lower first || is_via first) Lower (slice_index lower p) (in_lower.each p low))
    | inr above ↦ elim (cases_lt p (length lower + length vias)) [
      | inl mid ↦
          let q : ℕ = p - length lower in
          let lq : q < length vias = omega arith in
          let e : length lower + q ≡ p = omega arith in
          subst (Touching shapes from) (sym (at_vias q lq) ∙ ap (slice_index ((lower ++ vias) ++ upper)) e)
          (touching_by (is_lower first || is_upper first) Vias (slice_index vias q) (in_vias.each q lq))
      | inr high ↦
          let q : ℕ = p - length (lower ++ vias) in
          let lq : q < length upper = omega (arith, long, length-append lower vias) in
          let e : length (lower ++ vias) + q ≡ p = omega (arith, length-append lower vias) in
          subst (Touching shapes from) (sym (at_upper q lq) ∙ ap (slice_index ((lower ++ vias) ++ upper)) e)
          (touching_by (is_upper first || is_via first) Upper (slice_index upper q) (in_upper.each q lq))
    ]
  ]

  wanted_in : (wanted : Bool) (plane : Plane) (n : ℕ) (s : Shape) → slice_get shapes n ≡ Some s
      → (wanted && in_plane plane s) ≡ true → touch first s ≡ true → PassesIn (touches_in wanted plane first) shapes n
  wanted_in wanted plane n s at h t =
      let p = and_parts wanted (in_plane plane s) h in
      record {
        item = s;
        item_is = at;
        passes_so = and_from wanted (in_plane plane s && touch first s) p.0
            (and_from (in_plane plane s) (touch first s) p.1 t);
      }

  listed : (n : ℕ) (s : Shape) → slice_get shapes n ≡ Some s → touch first s ≡ true → IsListed n
  unfolding IsListed
  listed n s at t =
      let lo : Bool = (is_lower first || is_via first) && is_lower s in
      let vi : Bool = (is_lower first || is_upper first) && is_via s in
      let up : Bool = (is_upper first || is_via first) && is_upper s in
      elim (or_cases (lo || vi) up (conducting (is_lower first) (is_via first) (is_upper first) (is_lower s) (is_via s)
      (is_upper s) (and_parts (conducts first s) (share_point first.rect s.rect) t).0)) [
        | inl one ↦ elim (or_cases lo vi one) [
          | inl h ↦
              let k = in_lower.complete n (wanted_in (is_lower first || is_via first) Lower n s at h t) in
              (k.0, (omega (arith, long, k.1.0), at_lower k.0 k.1.0 ∙ k.1.1))
          | inr h ↦
              let k = in_vias.complete n (wanted_in (is_lower first || is_upper first) Vias n s at h t) in
              (length lower + k.0, (omega (arith, long, k.1.0), at_vias k.0 k.1.0 ∙ k.1.1))
        ]
        | inr h ↦
            let k = in_upper.complete n (wanted_in (is_upper first || is_via first) Upper n s at h t) in (
              length (lower ++ vias) + k.0,
              (omega (arith, long, length-append lower vias, k.1.0), at_upper k.0 k.1.0 ∙ k.1.1),
            )
      ]

  pub touching_from : AreTouching shapes from ((lower ++ vias) ++ upper)
  unfolding IsListed
  touching_from = record {
    each = each_from;
    complete = λ j t.
        let same : t.first ≡ first = same_Some t.first first (sym t.first_is ∙ is) in
        listed j t.second t.second_is (sym (ap (λ (s : Shape). touch s t.second) same) ∙ t.touch_so);
  }

-- where none are wanted, none are listed
pub none_wanted : (plane : Plane) (from : Shape) (shapes : List Shape) (found : List ℕ) → found ≡ []
    → AreThose (PassesIn (touches_in false plane from) shapes) found
none_wanted plane from shapes found none = subst (AreThose (PassesIn (touches_in false plane from) shapes)) (sym none)
    (record {
      each = λ p lt. absurd (omega arith);
      complete = λ n p. absurd (let h : false ≡ true = p.passes_so in cc);
      rising = λ p q less lt. absurd (omega arith);
    })

-- ---- how many shapes lie in a plane

-- a number at a place is no less than the place, where the numbers rise
place_below : (numbers : List ℕ)
    → ((p q : ℕ) → p < q → q < length numbers → slice_index numbers p < slice_index numbers q)
    → (k : ℕ) → k < length numbers → k ≤ slice_index numbers k
place_below numbers rising zero lt = omega arith
place_below numbers rising (suc k) lt =
    omega (arith, place_below numbers rising k (omega arith), rising k (suc k) (omega arith) lt)

pub few_in_plane : (test : Shape → Bool) (shapes : List Shape) (numbers : List ℕ)
    → AreThose (PassesIn test shapes) numbers → length numbers ≤ length shapes
few_in_plane test shapes numbers those = by_length (length numbers) refl
  where
    by_length : (n : ℕ) → length numbers ≡ n → length numbers ≤ length shapes
    by_length zero e = omega arith
    by_length (suc n) e =
        let p : PassesIn test shapes (slice_index numbers n) = those.each n (omega arith) in
        omega (
          arith,
          place_below numbers those.rising n (omega arith),
          slice_get_within shapes (slice_index numbers n) p.item p.item_is,
        )

pub below_all : (test : Shape → Bool) (shapes : List Shape) (numbers : List ℕ)
    → AreThose (PassesIn test shapes) numbers → All (λ n. n < length shapes) numbers
below_all test shapes numbers those k d lt =
    let p : PassesIn test shapes (slice_index numbers k) = those.each k lt in
    omega (
      arith,
      get_or_default_zero numbers k d lt,
      slice_get_within shapes (slice_index numbers k) p.item p.item_is,
    )
