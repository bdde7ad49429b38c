-- Laws of touch, paths and nets.
use Rattle.std.proofs.Common.{◌≡◌, ℕ, ◌<◌, ◌≤◌, Bool, true, false, ◌&&◌, ◌||◌, List, [], ◌∷◌, length, refl, sym, ap}
use Rattle.std.proofs.Common.{subst, ◌∙◌, arith, slice_index, int_le}
use Rattle.std.proofs.lemmas.Option.{slice_get_within}
use Rattle.std.proofs.lemmas.Grind.{same_number_lists}
use Rattle.std.proofs.Math.Bool.{and_comm}
use Rattle.geom.specs.declared.shapes.Shape.{Shape}
use Rattle.geom.specs.Rectangle.{Rectangle, share_x, share_y, share_point}
use Rattle.layout_rules.specs.Layers.{is_lower, is_upper, is_via}
use Rattle.layout_rules.specs.Touch.{conducts, touch, Touching, IsPath, Joined}
use Rattle.layout_rules.specs.Nets.{AreNets, Certifies}

or_swap : (x y z : Bool) → ((x || y) || z) ≡ ((x || z) || y)
or_swap true true true = refl
or_swap true true false = refl
or_swap true false true = refl
or_swap true false false = refl
or_swap false true true = refl
or_swap false true false = refl
or_swap false false true = refl
or_swap false false false = refl

-- conduction in both directions, on the planes and vias of the two
both_conduct : (la lb ua ub va vb : Bool)
    → ((((la && lb) || (ua && ub)) || (va && (lb || ub))) || (vb && (la || ua))) ≡
    ((((lb && la) || (ub && ua)) || (vb && (la || ua))) || (va && (lb || ub)))
both_conduct la lb ua ub va vb = rw (and_comm la lb, and_comm ua ub)
    (or_swap ((lb && la) || (ub && ua)) (va && (lb || ub)) (vb && (la || ua)))

pub conducts_comm : (a b : Shape) → conducts a b ≡ conducts b a
conducts_comm a b = both_conduct (is_lower a) (is_lower b) (is_upper a) (is_upper b) (is_via a) (is_via b)

pub share_point_comm : (a b : Rectangle) → share_point a b ≡ share_point b a
share_point_comm a b = ap (λ (x : Bool). x && share_y a b) (and_comm (int_le a.x0 b.x1) (int_le b.x0 a.x1))
    ∙ ap (λ (y : Bool). share_x b a && y) (and_comm (int_le a.y0 b.y1) (int_le b.y0 a.y1))

pub touch_comm : (a b : Shape) → touch a b ≡ touch b a
touch_comm a b = ap (λ (x : Bool). x && share_point a.rect b.rect) (conducts_comm a b)
    ∙ ap (λ (y : Bool). conducts b a && y) (share_point_comm a.rect b.rect)

pub Touching-back : {shapes : List Shape} {i j : ℕ} → Touching shapes i j → Touching shapes j i
Touching-back t = record {
  first = t.second;
  second = t.first;
  first_is = t.second_is;
  second_is = t.first_is;
  touch_so = touch_comm t.second t.first ∙ t.touch_so;
}

-- a shape that touches another has a number of the list
pub Touching-within : {shapes : List Shape} {i j : ℕ} → Touching shapes i j → (i < length shapes) × (j < length shapes)
Touching-within {shapes} {i} {j} t =
    (slice_get_within shapes i t.first t.first_is, slice_get_within shapes j t.second t.second_is)

pub Joined-self : (shapes : List Shape) (i : ℕ) → Joined shapes i i
Joined-self shapes i = ([], refl)

pub Joined-touching : (shapes : List Shape) (i j : ℕ) → Touching shapes i j → Joined shapes i j
Joined-touching shapes i j t = (j ∷ [], (t, refl))

IsPath-then : (shapes : List Shape) (path : List ℕ) (i j k : ℕ) → IsPath shapes i path j
    → Joined shapes j k → Joined shapes i k
IsPath-then shapes [] i j k e joined = subst (λ (m : ℕ). Joined shapes m k) (sym e) joined
IsPath-then shapes (m ∷ path) i j k p joined =
    let rest : Joined shapes m k = IsPath-then shapes path m j k p.1 joined in
    (m ∷ rest.0, (p.0, rest.1))

pub Joined-trans : (shapes : List Shape) (i j k : ℕ) → Joined shapes i j → Joined shapes j k → Joined shapes i k
Joined-trans shapes i j k first second = IsPath-then shapes first.0 i j k first.1 second

IsPath-back : (shapes : List Shape) (path : List ℕ) (i j : ℕ) → IsPath shapes i path j → Joined shapes j i
IsPath-back shapes [] i j e = ([], sym e)
IsPath-back shapes (m ∷ path) i j p = Joined-trans shapes j m i (IsPath-back shapes path m j p.1)
    (Joined-touching shapes m i (Touching-back p.0))

pub Joined-back : (shapes : List Shape) (i j : ℕ) → Joined shapes i j → Joined shapes j i
Joined-back shapes i j joined = IsPath-back shapes joined.0 i j joined.1

IsPath-within : (shapes : List Shape) (path : List ℕ) (i j : ℕ) → i < length shapes
    → IsPath shapes i path j → j < length shapes
IsPath-within shapes [] i j h e = subst (λ (m : ℕ). m < length shapes) e h
IsPath-within shapes (m ∷ path) i j h p = IsPath-within shapes path m j (Touching-within p.0).1 p.1

-- what is joined to a shape of the list is one
pub Joined-within : (shapes : List Shape) (i j : ℕ) → i < length shapes → Joined shapes i j → j < length shapes
Joined-within shapes i j h joined = IsPath-within shapes joined.0 i j h joined.1

IsPath-agree : (shapes : List Shape) (nets : List ℕ) → Certifies shapes nets → (path : List ℕ) (i j : ℕ)
    → IsPath shapes i path j → slice_index nets i ≡ slice_index nets j
IsPath-agree shapes nets c [] i j e = ap (λ (n : ℕ). slice_index nets n) e
IsPath-agree shapes nets c (m ∷ path) i j p = c.agree i m p.0 ∙ IsPath-agree shapes nets c path m j p.1

-- the certificate makes nets
pub AreNets-certified : (shapes : List Shape) (nets : List ℕ) → Certifies shapes nets → AreNets shapes nets
AreNets-certified shapes nets c = record {
  long = c.long;
  joined = c.joined;
  least = λ i j h joined. let e : slice_index nets i ≡ slice_index nets j =
      IsPath-agree shapes nets c joined.0 i j joined.1 in let below : slice_index nets j ≤ j = c.not_above j
      (Joined-within shapes i j h joined) in omega arith;
}

-- shapes that are joined have one number
pub one_number : (shapes : List Shape) (nets : List ℕ) → AreNets shapes nets → (i j : ℕ) → i < length shapes
    → Joined shapes i j → slice_index nets i ≡ slice_index nets j
one_number shapes nets are i j h joined =
    let k : j < length shapes = Joined-within shapes i j h joined in
    let p : slice_index nets i ≤ slice_index nets j = are.least i (slice_index nets j) h
    (Joined-trans shapes i j (slice_index nets j) joined (are.joined j k)) in
    let q : slice_index nets j ≤ slice_index nets i = are.least j (slice_index nets i) k
    (Joined-trans shapes j i (slice_index nets i) (Joined-back shapes i j joined) (are.joined i h)) in
    omega arith

-- and shapes with one number are joined
pub one_net : (shapes : List Shape) (nets : List ℕ) → AreNets shapes nets → (i j : ℕ) → i < length shapes
    → j < length shapes → slice_index nets i ≡ slice_index nets j → Joined shapes i j
one_net shapes nets are i j h k e =
    let back : Joined shapes (slice_index nets j) j = Joined-back shapes j (slice_index nets j) (are.joined j k) in
    Joined-trans shapes i (slice_index nets i) j (are.joined i h) (subst (λ (m : ℕ). Joined shapes m j) (sym e) back)

-- each shape has one number as its net, whoever finds it
pub same_nets : (shapes : List Shape) (nets others : List ℕ) → AreNets shapes nets → AreNets shapes others → (i : ℕ)
    → i < length shapes → slice_index nets i ≡ slice_index others i
same_nets shapes nets others are these i h =
    let p : slice_index nets i ≤ slice_index others i = are.least i (slice_index others i) h (these.joined i h) in
    let q : slice_index others i ≤ slice_index nets i = these.least i (slice_index nets i) h (are.joined i h) in
    omega arith

pub AreNets-once : (shapes : List Shape) (nets others : List ℕ) → AreNets shapes nets
    → AreNets shapes others → nets ≡ others
AreNets-once shapes nets others are these =
    same_number_lists nets others (are.long ∙ sym these.long)
    (λ k h. same_nets shapes nets others are these k (subst (λ (n : ℕ). k < n) are.long h))
