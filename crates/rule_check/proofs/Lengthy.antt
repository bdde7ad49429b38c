-- Nets that are too long.
use Rattle.std.proofs.Common.{◌≡◌, ℕ, ◌+◌, ◌-◌, ◌^◌, ◌<◌, ◌≤◌, true, List, length, Some, refl, sym, ap, subst, ◌∙◌}
use Rattle.std.proofs.Common.{arith, inl, inr}
use Rattle.std.specs.Prelude.{slice_get, slice_index}
use Rattle.std.proofs.lemmas.Bool.{cases_eq, cases_lt}
use Rattle.std.proofs.lemmas.Option.{same_Some, slice_get_within}
use Rattle.geom.specs.declared.shapes.Shape.{Shape}
use Rattle.layout_rules.specs.Layers.{is_metal}
use Rattle.layout_rules.specs.Limits.{Limits}
use Rattle.layout_rules.specs.LengthRule.{net_length, IsTooLong, LengthsBroken}
use Rattle.layout_rules.specs.Nets.{AreNets}
use Rattle.layout_rules.proofs.NetLaws.{Joined-self, AreNets-once}
use Rattle.layout_rules.specs.Reports.{IsFirstReport, ReportsNone}
use Rattle.shape_extract.specs.Lengths.{AreLengths}

-- ---- the first shape of a net that is too long

module _ (limits : Limits) (shapes : List Shape) (nets lengths : List ℕ) (are : AreNets shapes nets)
    (sums : AreLengths shapes nets lengths) (long : length lengths ≡ length shapes)
    (most : limits.limit < 2 ^ 64 - 1) where
  net_within : (k : ℕ) → k < length shapes → slice_index nets k < length lengths
  net_within k lt = (let le : slice_index nets k ≤ k = are.least k k lt (Joined-self shapes k) in omega arith)

  -- what any nets say of a shape, these say
  too_long_here : (c : ℕ) → IsTooLong limits shapes c → limits.limit < slice_index lengths (slice_index nets c)
  too_long_here c bad =
      let lt : c < length shapes = slice_get_within shapes c bad.metal.shape bad.metal.shape_is in
      let same : bad.nets ≡ nets = AreNets-once shapes bad.nets nets bad.are_nets are in
      let sum : limits.limit < net_length shapes nets (slice_index nets c) =
      subst (λ (ns : List ℕ). limits.limit < net_length shapes ns (slice_index ns c)) same bad.too_long in
      omega (arith, sums (slice_index nets c) (net_within c lt))

  pub first_long_is : (n : ℕ) (s : Shape)
      → ((k : ℕ) (t : Shape) → k < n → slice_get shapes k ≡ Some t → is_metal t ≡ true
      → slice_index lengths (slice_index nets k) ≤ limits.limit) → slice_get shapes n ≡ Some s → is_metal s ≡ true
      → limits.limit < slice_index lengths (slice_index nets n) → IsFirstReport (LengthsBroken limits shapes) n n
  first_long_is n s before got metal over =
      let lt : n < length shapes = slice_get_within shapes n s got in
      record {
        reported = (
          record {
            metal = record { shape = s; shape_is = got; passes_so = metal };
            nets = nets;
            are_nets = are;
            least = λ c pass e. elim (cases_lt c n) [
              | inl less ↦ absurd (let le : slice_index lengths (slice_index nets c) ≤ limits.limit =
                  before c pass.shape less pass.shape_is pass.passes_so in
                  let q : slice_index lengths (slice_index nets c) ≡ slice_index lengths (slice_index nets n) =
                  ap (slice_index lengths) e in omega arith)
              | inr ge ↦ ge
            ];
            too_long = omega (arith, sums (slice_index nets n) (net_within n lt));
          },
          refl,
        );
        least = λ c d bad. elim (cases_lt c n) [
          | inl less ↦ absurd (let le : slice_index lengths (slice_index nets c) ≤ limits.limit =
              before c bad.0.metal.shape less bad.0.metal.shape_is bad.0.metal.passes_so in
              let gt : limits.limit < slice_index lengths (slice_index nets c) = too_long_here c bad.0 in omega arith)
          | inr ge ↦ elim (cases_eq c n) [
            | inl same ↦ inr (sym same, (let e : d ≡ c = bad.1 in omega arith))
            | inr ne ↦ inl (omega arith)
          ]
        ];
      }

  pub none_long : (n : ℕ) → length shapes ≤ n
      → ((k : ℕ) (t : Shape) → k < n → slice_get shapes k ≡ Some t → is_metal t ≡ true
      → slice_index lengths (slice_index nets k) ≤ limits.limit) → ReportsNone (LengthsBroken limits shapes)
  none_long n all before c d bad =
      let lt : c < length shapes = slice_get_within shapes c bad.0.metal.shape bad.0.metal.shape_is in
      let le : slice_index lengths (slice_index nets c) ≤ limits.limit = before c bad.0.metal.shape
      (omega arith) bad.0.metal.shape_is bad.0.metal.passes_so in
      let gt : limits.limit < slice_index lengths (slice_index nets c) = too_long_here c bad.0 in
      omega arith

pub short_more : (shapes : List Shape) (nets lengths : List ℕ) (limit n : ℕ) (s : Shape)
    → ((k : ℕ) (t : Shape) → k < n → slice_get shapes k ≡ Some t → is_metal t ≡ true
    → slice_index lengths (slice_index nets k) ≤ limit) → slice_get shapes n ≡ Some s
    → (is_metal s ≡ true → slice_index lengths (slice_index nets n) ≤ limit) → (k : ℕ) (t : Shape) → k < n + 1
    → slice_get shapes k ≡ Some t → is_metal t ≡ true → slice_index lengths (slice_index nets k) ≤ limit
short_more shapes nets lengths limit n s before got here k t lt is metal = elim (cases_eq k n) [
  | inl same ↦
      let one : t ≡ s = same_Some t s (sym is ∙ (ap (slice_get shapes) same ∙ got)) in
      let le : slice_index lengths (slice_index nets n) ≤ limit = here (sym (ap is_metal one) ∙ metal) in
      let q : slice_index lengths (slice_index nets k) ≡ slice_index lengths (slice_index nets n) =
      ap (λ (j : ℕ). slice_index lengths (slice_index nets j)) same in
      omega arith
  | inr ne ↦ before k t (omega arith) is metal
]
