-- Lengths of nets, where the rule of lengths is kept.
use Rattle.std.proofs.Common.{◌≡◌, ℕ, zero, suc, ◌<◌, ◌≤◌, ◌^◌, Bool, true, false, ◌&&◌, ◌||◌, List, [], ◌∷◌}
use Rattle.std.proofs.Common.{length, Some, refl, sym, ap, subst, ◌∙◌, arith, inl, inr, eq-eqb}
use Rattle.std.specs.Prelude.{slice_get, slice_index, sum_by, zip, ◌==◌, if◌then◌else◌}
use Rattle.std.specs.List.{list_any}
use Rattle.std.proofs.lemmas.Bool.{cases_lt, both_ways, or_cases, and_parts, and_from, eqb-true}
use Rattle.std.proofs.lemmas.List.Sums.{sum_by-cons}
use Rattle.std.proofs.lemmas.Option.{same_Some}
use Rattle.layout_rules.proofs.Places.{zip_at as zip_put}
use Rattle.geom.specs.declared.shapes.Shape.{Shape}
use Rattle.layout_rules.specs.Layers.{is_metal}
use Rattle.layout_rules.specs.Limits.{Limits}
use Rattle.layout_rules.specs.LengthRule.{longer_side, length_in, net_length, LengthsBroken}
use Rattle.layout_rules.specs.Nets.{AreNets}
use Rattle.layout_rules.specs.Reports.{ReportsNone}
use Rattle.shape_extract.specs.Lengths.{AreLengths}
use Rattle.text_report.specs.Code.Tables.{AreNetLengths}
use Rattle.text_report.proofs.Zipped.{zip_at}

-- none is held where all are short
pub lengths_whole : (shapes : List Shape) (nets lengths : List ℕ) → length lengths ≡ length shapes
    → AreLengths shapes nets lengths → ((net : ℕ) → net_length shapes nets net < 2 ^ 64)
    → AreNetLengths shapes nets lengths
lengths_whole shapes nets lengths long held short = record {
  long = long;
  at = λ net lt. omega (arith, held net lt, short net);
}

-- ---- where the rule of lengths is kept, no net is longer than the limit

-- the first pair that passes a test
record FirstPair (test : Shape × ℕ → Bool) (pairs : List (Shape × ℕ)) : Type 0 where
  place : ℕ
  pair : Shape × ℕ
  pair_is : slice_get pairs place ≡ Some pair
  passes_so : test pair ≡ true
  least : (c : ℕ) (other : Shape × ℕ) → slice_get pairs c ≡ Some other → test other ≡ true → place ≤ c

not_before : (test : Shape × ℕ → Bool) (p : Shape × ℕ) (ps : List (Shape × ℕ)) (place : ℕ) → test p ≡ false
    → ((c : ℕ) (other : Shape × ℕ) → slice_get ps c ≡ Some other → test other ≡ true → place ≤ c)
    → (c : ℕ) (other : Shape × ℕ) → slice_get (p ∷ ps) c ≡ Some other → test other ≡ true → suc place ≤ c
not_before test p ps place not_here least zero other at passes =
    absurd (both_ways (test p) not_here (ap test (same_Some p other at) ∙ passes))
not_before test p ps place not_here least (suc c) other at passes =
    let le : place ≤ c = least c other at passes in omega arith

first_pair : (test : Shape × ℕ → Bool) (pairs : List (Shape × ℕ)) → list_any test pairs ≡ true
    → FirstPair test pairs
first_pair test [] e = absurd (both_ways (list_any test []) refl e)
first_pair test (p ∷ ps) e = by_test (test p) refl (λ later. first_pair test ps later)
  where
    by_test : (b : Bool) → test p ≡ b → (list_any test ps ≡ true → FirstPair test ps) → FirstPair test (p ∷ ps)
    by_test true here rest = record {
      place = 0;
      pair = p;
      pair_is = refl;
      passes_so = here;
      least = λ c other at passes. omega arith;
    }
    by_test false not_here rest =
        let later : list_any test ps ≡ true = elim (or_cases (test p) (list_any test ps) e) [
          | inl here ↦ absurd (both_ways (test p) not_here here)
          | inr later ↦ later
        ] in
        let found : FirstPair test ps = rest later in
        record {
          place = suc found.place;
          pair = found.pair;
          pair_is = found.pair_is;
          passes_so = found.passes_so;
          least = not_before test p ps found.place not_here found.least;
        }

-- a metal shape of the net
abbrev is_metal_of : ℕ → Shape × ℕ → Bool
is_metal_of net pair = is_metal pair.0 && pair.1 == net

-- without metal a net has no length
no_metal : (net : ℕ) (pairs : List (Shape × ℕ)) → list_any (is_metal_of net) pairs ≡ false
    → sum_by (length_in net) pairs ≡ 0
no_metal net [] e = refl
no_metal net (p ∷ ps) e =
    let parts : (is_metal_of net p ≡ false) × (list_any (is_metal_of net) ps ≡ false) =
    or_parts (is_metal_of net p) (list_any (is_metal_of net) ps) e in
    let here : length_in net p ≡ 0 =
    ap (λ (b : Bool). (if b then longer_side p.0.rect else 0)) parts.0 in
    let rest : sum_by (length_in net) ps ≡ 0 = no_metal net ps parts.1 in
    omega (arith, sum_by-cons (length_in net) p ps)
  where
    or_parts : (a b : Bool) → (a || b) ≡ false → (a ≡ false) × (b ≡ false)
    or_parts true b h = absurd cc
    or_parts false b h = (refl, h)

-- so a net that is too long has a first metal shape, which the rule reports
pub net_short : (limits : Limits) (shapes : List Shape) (nets : List ℕ) → AreNets shapes nets
    → ReportsNone (LengthsBroken limits shapes) → (net : ℕ) → net_length shapes nets net ≤ limits.limit
net_short limits shapes nets are kept net = elim (cases_lt limits.limit (net_length shapes nets net)) [
  | inr le ↦ le
  | inl over ↦ absurd (by_test over (list_any (is_metal_of net) (zip shapes nets)) refl)
]
  where
    by_test : limits.limit < net_length shapes nets net → (b : Bool)
        → list_any (is_metal_of net) (zip shapes nets) ≡ b → ⊥
    by_test over false e =
        let none : net_length shapes nets net ≡ 0 = no_metal net (zip shapes nets) e in omega arith
    by_test over true e =
        let found : FirstPair (is_metal_of net) (zip shapes nets) =
        first_pair (is_metal_of net) (zip shapes nets) e in
        let at : (slice_get shapes found.place ≡ Some found.pair.0) × (slice_index nets found.place ≡ found.pair.1) =
        zip_at shapes nets found.place found.pair found.pair_is in
        let parts : (is_metal found.pair.0 ≡ true) × ((found.pair.1 == net) ≡ true) =
        and_parts (is_metal found.pair.0) (found.pair.1 == net) found.passes_so in
        let own : slice_index nets found.place ≡ net = at.1 ∙ eqb-true found.pair.1 net parts.1 in
        kept found.place found.place (
          record {
            metal = record { shape = found.pair.0; shape_is = at.0; passes_so = parts.0 };
            nets = nets;
            are_nets = are;
            least = λ c pass same. found.least c (pass.shape, slice_index nets c)
                (zip_put shapes nets c pass.shape are.long pass.shape_is)
                (and_from (is_metal pass.shape) (slice_index nets c == net) pass.passes_so
                (eq-eqb (slice_index nets c) net (same ∙ own)));
            too_long = subst (λ (m : ℕ). limits.limit < net_length shapes nets m) (sym own) over;
          },
          refl,
        )
