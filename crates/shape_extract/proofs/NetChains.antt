-- Chains of the shapes of a net, and the walk along one.
use Rattle.std.proofs.Common.{◌≡◌, ◌≢◌, ℕ, ◌+◌, ◌<◌, ◌≤◌, List, [], ◌∷◌, ◌++◌, length, Some, sym, ◌∙◌, arith, inl, inr}
use Rattle.std.specs.Prelude.{slice_get, slice_index}
use Rattle.std.proofs.lemmas.Bool.{cases_lt}
use Rattle.std.proofs.lemmas.Option.{slice_get_within}
use Rattle.geom.specs.declared.shapes.Shape.{Shape}
use Rattle.layout_rules.specs.Nets.{AreNets}
use Rattle.layout_rules.proofs.NetLaws.{Joined-within, one_number}
use Rattle.shape_extract.specs.Searches.{AreThose}
use Rattle.shape_extract.specs.Code.NetPins.{IsPinIn}
use Rattle.shape_extract.specs.Chains.{IsNextFrom}
use Rattle.shape_extract.proofs.Searching.{AreThoseBelow, those_more, those_same, those_all}
use Rattle.shape_extract.proofs.NetPins.{pin_in_yes, pin_in_net, pin_in_layer}

-- ---- linking, from the last number on

pub record LinkedFrom (n : ℕ) (nets heads next : List ℕ) : Type 0 where
  pub heads_long : length heads ≡ length nets
  pub next_long : length next ≡ length nets
  pub head : (r : ℕ) → r < length nets → IsNextFrom nets n r (slice_index heads r)
  pub each : (x : ℕ) → n ≤ x → x < length nets → IsNextFrom nets (x + 1) (slice_index nets x) (slice_index next x)

-- each net goes by the number of a shape
pub net_within : (shapes : List Shape) (nets : List ℕ) → AreNets shapes nets → (x : ℕ) → x < length nets
    → slice_index nets x < length nets
net_within shapes nets are x lt =
    let x_lt : x < length shapes = omega (arith, are.long) in
    let net_lt : slice_index nets x < length shapes = Joined-within shapes x
    (slice_index nets x) x_lt (are.joined x x_lt) in
    omega (arith, are.long)

-- ---- the walk along a chain

-- the walk has come to b, and has found what it looks for below
pub record WalkedTo (shapes : List Shape) (nets : List ℕ) (layer a b : ℕ) (found : List ℕ) : Type 0 where
  pub of_net : b < length shapes → slice_index nets b ≡ slice_index nets a
  pub within : b ≤ length shapes
  pub those : AreThoseBelow b (IsPinIn shapes layer a) found

module _ (shapes : List Shape) (nets : List ℕ) (are_nets : AreNets shapes nets) (layer a : ℕ)
    (a_lt : a < length shapes) where
  pub walk_begun : WalkedTo shapes nets layer a (slice_index nets a) []
  walk_begun = record {
    of_net = λ lt. sym (one_number shapes nets are_nets a (slice_index nets a) a_lt (are_nets.joined a a_lt));
    within = (let lt : slice_index nets a < length shapes = Joined-within shapes a (slice_index nets a) a_lt
        (are_nets.joined a a_lt) in omega arith);
    those = record {
      each = λ p lp. absurd (omega arith);
      complete = λ m lm pin. absurd
          (let least : slice_index nets a ≤ m = are_nets.least a m a_lt pin.joined in omega arith);
      below = λ p lp. absurd (omega arith);
      rising = λ p q lt lq. absurd (omega arith);
    };
  }

  module _ (b : ℕ) (found : List ℕ) (walked : WalkedTo shapes nets layer a b found) (b_lt : b < length shapes)
      (here : Shape) (got : slice_get shapes b ≡ Some here) (y : ℕ)
      (next : IsNextFrom nets (b + 1) (slice_index nets b) y) where
    -- nothing of the net is between
    gone_on : (more : List ℕ) → AreThoseBelow (b + 1) (IsPinIn shapes layer a) more
        → WalkedTo shapes nets layer a y more
    gone_on more those = record {
      of_net = λ lt. next.of_net (omega (arith, are_nets.long)) ∙ walked.of_net b_lt;
      within = omega (arith, next.within, are_nets.long);
      those = record {
        each = those.each;
        complete = λ m lm pin. elim (cases_lt m (b + 1)) [
          | inl less ↦ those.complete m less pin
          | inr more_than ↦ absurd (next.none_between m more_than lm
              (sym (pin_in_net shapes nets layer a m are_nets a_lt pin) ∙ sym (walked.of_net b_lt)))
        ];
        below = λ p lp. omega (arith, those.below p lp, next.above);
        rising = those.rising;
      };
    }

    pub walked_more : here.layer ≡ layer → WalkedTo shapes nets layer a y (found ++ b ∷ [])
    walked_more of = gone_on (found ++ b ∷ [])
        (those_more (IsPinIn shapes layer a) b found walked.those
        (pin_in_yes shapes nets layer a b here are_nets a_lt b_lt got of (sym (walked.of_net b_lt))))

    pub walked_past : here.layer ≢ layer → WalkedTo shapes nets layer a y found
    walked_past ne = gone_on found
        (those_same (IsPinIn shapes layer a) b found walked.those
        (λ pin. ne (pin_in_layer shapes layer a b here got pin)))

  pub walked_all : (b : ℕ) (found : List ℕ) → length shapes ≤ b → WalkedTo shapes nets layer a b found
      → AreThose (IsPinIn shapes layer a) found
  walked_all b found all walked = those_all (IsPinIn shapes layer a) (length shapes) b found walked.those all
      (λ m pin. slice_get_within shapes m pin.pin pin.pin_is)
