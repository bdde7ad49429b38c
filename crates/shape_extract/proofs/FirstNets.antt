-- The nets of the first chip.
use Rattle.std.proofs.Common.{◌≡◌, ℕ, zero, suc, ◌<◌, ◌≤◌, Bool, true, false, cond, eqb, ◌&&◌, List, [], ◌∷◌, length}
use Rattle.std.proofs.Common.{Some, refl, sym, ap, ◌∙◌, arith}
use Rattle.std.specs.Prelude.{slice_get, slice_index}
use Rattle.std.proofs.lemmas.Bool.{eqb-true, and_parts}
use Rattle.std.proofs.lemmas.Option.{same_Some}
use Rattle.geom.specs.declared.shapes.Shape.{Shape}
use Rattle.geom.specs.FirstChip.{first_flat}
use Rattle.layout_rules.specs.Touch.{touch, Joined}
use Rattle.layout_rules.specs.Nets.{AreNets}
use Rattle.layout_rules.proofs.NetLaws.{Joined-self, Joined-touching, Joined-trans, AreNets-certified}
use Rattle.circuit_extracted.specs.FirstCircuit.{first_nets}
use Rattle.shape_extract.proofs.Each.{EachFrom, each_at, item_at}

-- a shape with its net, and each of the others: they have one net where they touch
abbrev agrees : Shape → ℕ → List Shape → List ℕ → Bool
agrees s n [] ms = true
agrees s n (t ∷ ts) [] = false
agrees s n (t ∷ ts) (m ∷ ms) = cond (touch s t) (eqb n m) true && agrees s n ts ms

abbrev all_agree : List Shape → List ℕ → List Shape → List ℕ → Bool
all_agree [] ns shapes nets = true
all_agree (s ∷ ss) [] shapes nets = false
all_agree (s ∷ ss) (n ∷ ns) shapes nets = agrees s n shapes nets && all_agree ss ns shapes nets

agrees_at : (s : Shape) (n : ℕ) (ts : List Shape) (ms : List ℕ) (j : ℕ) (t : Shape) → agrees s n ts ms ≡ true
    → slice_get ts j ≡ Some t → touch s t ≡ true → n ≡ slice_index ms j
agrees_at s n [] ms j t e is touching = absurd cc
agrees_at s n (u ∷ ts) [] j t e is touching = absurd cc
agrees_at s n (u ∷ ts) (m ∷ ms) zero t e is touching =
    let both = and_parts (cond (touch s u) (eqb n m) true) (agrees s n ts ms) e in
    let same : touch s u ≡ true = ap (touch s) (same_Some u t is) ∙ touching in
    eqb-true n m (sym (ap (λ (b : Bool). cond b (eqb n m) true) same) ∙ both.0)
agrees_at s n (u ∷ ts) (m ∷ ms) (suc j) t e is touching = agrees_at s n ts ms j t
    (and_parts (cond (touch s u) (eqb n m) true) (agrees s n ts ms) e).1 is touching

all_at : (ss : List Shape) (ns : List ℕ) (shapes : List Shape) (nets : List ℕ) (i : ℕ) (s : Shape)
    → all_agree ss ns shapes nets ≡ true → slice_get ss i ≡ Some s → agrees s (slice_index ns i) shapes nets ≡ true
all_at [] ns shapes nets i s e is = absurd cc
all_at (t ∷ ss) [] shapes nets i s e is = absurd cc
all_at (t ∷ ss) (n ∷ ns) shapes nets zero s e is = ap (λ (x : Shape). agrees x n shapes nets) (sym (same_Some t s is))
    ∙ (and_parts (agrees t n shapes nets) (all_agree ss ns shapes nets) e).0
all_at (t ∷ ss) (n ∷ ns) shapes nets (suc i) s e is = all_at ss ns shapes nets i s
    (and_parts (agrees t n shapes nets) (all_agree ss ns shapes nets) e).1 is

-- computed: touching shapes of the first chip have one net
agree : all_agree first_flat.shapes first_nets first_flat.shapes first_nets ≡ true
unfolding first_flat
agree = refl

-- from a shape to one that touches it, and on
step : (i j k : ℕ) (a b : Shape) → slice_get first_flat.shapes i ≡ Some a → slice_get first_flat.shapes j ≡ Some b
    → touch a b ≡ true → Joined first_flat.shapes j k → Joined first_flat.shapes i k
step i j k a b p q t joined = Joined-trans first_flat.shapes i j k
    (Joined-touching first_flat.shapes i j
    (record { first = a; second = b; first_is = p; second_is = q; touch_so = t })) joined

-- the wire: metal at the lower pin, via, upper metal, via, metal at the upper pin
from_lower_metal : Joined first_flat.shapes 5 2
unfolding first_flat
from_lower_metal = step 5 2 2 _ _ refl refl refl (Joined-self first_flat.shapes 2)

from_first_via : Joined first_flat.shapes 8 2
unfolding first_flat
from_first_via = step 8 5 2 _ _ refl refl refl from_lower_metal

from_upper_metal : Joined first_flat.shapes 7 2
unfolding first_flat
from_upper_metal = step 7 8 2 _ _ refl refl refl from_first_via

from_second_via : Joined first_flat.shapes 9 2
unfolding first_flat
from_second_via = step 9 7 2 _ _ refl refl refl from_upper_metal

from_metal : Joined first_flat.shapes 6 2
unfolding first_flat
from_metal = step 6 9 2 _ _ refl refl refl from_second_via

from_pin : Joined first_flat.shapes 11 2
unfolding first_flat
from_pin = step 11 6 2 _ _ refl refl refl from_metal

abbrev IsJoinedThere : ℕ → Shape → Type 0
IsJoinedThere i s = Joined first_flat.shapes i (slice_index first_nets i) × (slice_index first_nets i ≤ i)

self : (i : ℕ) → Joined first_flat.shapes i i
self i = Joined-self first_flat.shapes i

each_joined : EachFrom IsJoinedThere 0 first_flat.shapes
unfolding first_flat
each_joined = (
  (self 0, omega arith),
  (
    (self 1, omega arith),
    (
      (self 2, omega arith),
      (
        (self 3, omega arith),
        (
          (self 4, omega arith),
          (
            (from_lower_metal, omega arith),
            (
              (from_metal, omega arith),
              (
                (from_upper_metal, omega arith),
                (
                  (from_first_via, omega arith),
                  (
                    (from_second_via, omega arith),
                    (
                      (self 10, omega arith),
                      (
                        (from_pin, omega arith),
                        ((self 12, omega arith), ((self 13, omega arith), ((self 14, omega arith), tt))),
                      ),
                    ),
                  ),
                ),
              ),
            ),
          ),
        ),
      ),
    ),
  ),
)

joined_there : (i : ℕ) → i < length first_flat.shapes → Joined first_flat.shapes i (slice_index first_nets i)
    × (slice_index first_nets i ≤ i)
joined_there i lt = let s =
    item_at first_flat.shapes i lt in each_at IsJoinedThere first_flat.shapes each_joined i s.0 s.1

nets_long : length first_nets ≡ length first_flat.shapes
unfolding first_flat
nets_long = refl

pub first_nets_are : AreNets first_flat.shapes first_nets
first_nets_are = AreNets-certified first_flat.shapes first_nets (record {
  long = nets_long;
  joined = λ i lt. (joined_there i lt).0;
  not_above = λ i lt. (joined_there i lt).1;
  agree = λ i j t. agrees_at t.first (slice_index first_nets i) first_flat.shapes first_nets j t.second
      (all_at first_flat.shapes first_nets first_flat.shapes first_nets i t.first agree t.first_is) t.second_is
      t.touch_so;
})
