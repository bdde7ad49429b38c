-- The outline holds all frames, and lies within each rectangle that does.
use Rattle.std.proofs.Common.{◌≡◌, ◌&&◌, true, arith, List, [], ◌∷◌, Some, None, ℤ, subst}
use Rattle.std.specs.Prelude.{All, filter, fold, int_le}
use Rattle.std.specs.Int.{int_min, int_max}
use Rattle.std.proofs.lemmas.Bool.{and_parts, and_from}
use Rattle.std.proofs.lemmas.Int.{ints}
use Rattle.std.proofs.lemmas.List.Elements.{All-nil, All-cons, All-head, All-tail}
use Rattle.std.proofs.lemmas.Option.{same_Some}
use Rattle.text_report.proofs.Heights.{at_self}
use Rattle.geom.specs.declared.shapes.Shape.{Shape}
use Rattle.geom.specs.Rectangle.{Rectangle, within}
use Rattle.layout_rules.specs.Layers.{is_frame}
use Rattle.text_report.specs.Outline.{joined, holding, outline, IsLeastHolding}

min_first : (x y : ℤ) → int_le (int_min x y) x ≡ true
min_first x y = grind (arith, ints)

min_second : (x y : ℤ) → int_le (int_min x y) y ≡ true
min_second x y = grind (arith, ints)

max_first : (x y : ℤ) → int_le x (int_max x y) ≡ true
max_first x y = grind (arith, ints)

max_second : (x y : ℤ) → int_le y (int_max x y) ≡ true
max_second x y = grind (arith, ints)

min_least : (x y z : ℤ) → int_le z x ≡ true → int_le z y ≡ true → int_le z (int_min x y) ≡ true
min_least x y z h k = grind (arith, ints)

max_least : (x y z : ℤ) → int_le x z ≡ true → int_le y z ≡ true → int_le (int_max x y) z ≡ true
max_least x y z h k = grind (arith, ints)

le_through : (x y z : ℤ) → int_le x y ≡ true → int_le y z ≡ true → int_le x z ≡ true
le_through x y z h k = grind (arith, ints)

-- the four sides of one rectangle within another
record Sides (a b : Rectangle) : Type 0 where
  left : int_le b.x0 a.x0 ≡ true
  right : int_le a.x1 b.x1 ≡ true
  low : int_le b.y0 a.y0 ≡ true
  high : int_le a.y1 b.y1 ≡ true

sides_of : (a b : Rectangle) → within a b ≡ true → Sides a b
sides_of a b h =
    let both : (int_le b.x0 a.x0 && int_le a.x1 b.x1 ≡ true) × (int_le b.y0 a.y0 && int_le a.y1 b.y1 ≡ true) =
    and_parts (int_le b.x0 a.x0 && int_le a.x1 b.x1) (int_le b.y0 a.y0 && int_le a.y1 b.y1) h in
    let x : (int_le b.x0 a.x0 ≡ true) × (int_le a.x1 b.x1 ≡ true) =
    and_parts (int_le b.x0 a.x0) (int_le a.x1 b.x1) both.0 in
    let y : (int_le b.y0 a.y0 ≡ true) × (int_le a.y1 b.y1 ≡ true) =
    and_parts (int_le b.y0 a.y0) (int_le a.y1 b.y1) both.1 in
    record { left = x.0; right = x.1; low = y.0; high = y.1 }

within_from : (a b : Rectangle) → Sides a b → within a b ≡ true
within_from a b s =
    and_from (int_le b.x0 a.x0 && int_le a.x1 b.x1) (int_le b.y0 a.y0 && int_le a.y1 b.y1)
    (and_from (int_le b.x0 a.x0) (int_le a.x1 b.x1) s.left s.right)
    (and_from (int_le b.y0 a.y0) (int_le a.y1 b.y1) s.low s.high)

within_self : (a : Rectangle) → within a a ≡ true
within_self a =
    within_from a a (record { left = at_self a.x0; right = at_self a.x1; low = at_self a.y0; high = at_self a.y1 })

within_through : (a b c : Rectangle) → within a b ≡ true → within b c ≡ true → within a c ≡ true
within_through a b c h k =
    let p : Sides a b = sides_of a b h in
    let q : Sides b c = sides_of b c k in
    within_from a c (record {
      left = le_through c.x0 b.x0 a.x0 q.left p.left;
      right = le_through a.x1 b.x1 c.x1 p.right q.right;
      low = le_through c.y0 b.y0 a.y0 q.low p.low;
      high = le_through a.y1 b.y1 c.y1 p.high q.high;
    })

first_within : (a b : Rectangle) → within a (joined a b) ≡ true
first_within a b =
    within_from a (joined a b) (record {
      left = min_first a.x0 b.x0;
      right = max_first a.x1 b.x1;
      low = min_first a.y0 b.y0;
      high = max_first a.y1 b.y1;
    })

second_within : (a b : Rectangle) → within b (joined a b) ≡ true
second_within a b =
    within_from b (joined a b) (record {
      left = min_second a.x0 b.x0;
      right = max_second a.x1 b.x1;
      low = min_second a.y0 b.y0;
      high = max_second a.y1 b.y1;
    })

joined_least : (a b s : Rectangle) → within a s ≡ true → within b s ≡ true → within (joined a b) s ≡ true
joined_least a b s h k =
    let p : Sides a s = sides_of a s h in
    let q : Sides b s = sides_of b s k in
    within_from (joined a b) s (record {
      left = min_least a.x0 b.x0 s.x0 p.left q.left;
      right = max_least a.x1 b.x1 s.x1 p.right q.right;
      low = min_least a.y0 b.y0 s.y0 p.low q.low;
      high = max_least a.y1 b.y1 s.y1 p.high q.high;
    })

-- the least that holds a rectangle and frames
record LeastFrom (a : Rectangle) (frames : List Shape) (r : Rectangle) : Type 0 where
  first : within a r ≡ true
  holds : All (λ frame. within frame.rect r ≡ true) frames
  least : (s : Rectangle) → within a s ≡ true → All (λ frame. within frame.rect s ≡ true) frames
      → within r s ≡ true

least_from : (frames : List Shape) (a r : Rectangle) → fold holding (Some a) frames ≡ Some r → LeastFrom a frames r
least_from [] a r e = record {
  first = subst (λ (s : Rectangle). within a s ≡ true) (same_Some a r e) (within_self a);
  holds = All-nil (λ (frame : Shape). within frame.rect r ≡ true);
  least = λ s h all. subst (λ (t : Rectangle). within t s ≡ true) (same_Some a r e) h;
}
least_from (f ∷ frames) a r e =
    let later : LeastFrom (joined a f.rect) frames r = least_from frames (joined a f.rect) r e in
    record {
      first = within_through a (joined a f.rect) r (first_within a f.rect) later.first;
      holds = All-cons (λ (frame : Shape). within frame.rect r ≡ true) f frames
          (within_through f.rect (joined a f.rect) r (second_within a f.rect) later.first) later.holds;
      least = λ s h all. later.least s
          (joined_least a f.rect s h (All-head (λ (frame : Shape). within frame.rect s ≡ true) f frames all))
          (All-tail (λ (frame : Shape). within frame.rect s ≡ true) f frames all);
    }

least_of : (frames : List Shape) (r : Rectangle) → fold holding None frames ≡ Some r → IsLeastHolding frames r
least_of [] r e = absurd cc
least_of (f ∷ frames) r e =
    let from : LeastFrom f.rect frames r = least_from frames f.rect r e in
    record {
      holds = All-cons (λ (frame : Shape). within frame.rect r ≡ true) f frames from.first from.holds;
      least = λ s all. from.least s (All-head (λ (frame : Shape). within frame.rect s ≡ true) f frames all)
          (All-tail (λ (frame : Shape). within frame.rect s ≡ true) f frames all);
    }

pub outline_least : (shapes : List Shape) (r : Rectangle) → outline shapes ≡ Some r
    → IsLeastHolding (filter is_frame shapes) r
outline_least shapes r e = least_of (filter is_frame shapes) r e
