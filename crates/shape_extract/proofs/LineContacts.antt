-- Contacts as they are listed: all that meet a shape, without the shape itself.
use Rattle.std.proofs.Common.{◌≡◌, ◌≢◌, ℕ, zero, suc, ◌<◌, Bool, true, false, cond, List, [], ◌∷◌, length, refl, sym}
use Rattle.std.proofs.Common.{ap, subst, ◌∙◌, arith}
use Rattle.std.specs.Prelude.{slice_index, slice_index_or, not, ◌==◌}
use Rattle.std.specs.List.{filter, All, AllPairs}
use Rattle.std.proofs.lemmas.List.Elements.{All-filter, filter_passes}
use Rattle.std.proofs.lemmas.List.Kept.{AllPairs-filter}
use Rattle.std.proofs.lemmas.Bool.Decides.{nat_tests}
use Rattle.geom.specs.declared.shapes.Shape.{Shape}
use Rattle.layout_rules.specs.Reports.{PassTogether}
use Rattle.layout_rules.specs.ExcitationLines.{meet, Contact}
use Rattle.shape_extract.specs.Searches.{AreThose}

-- what passes a test is kept by it
kept_place : (test : ℕ → Bool) (xs : List ℕ) (k : ℕ) → k < length xs → test (slice_index xs k) ≡ true → (p : ℕ)
    × ((p < length (filter test xs)) × (slice_index (filter test xs) p ≡ slice_index xs k))
kept_place test [] k lt e = absurd (omega arith)
kept_place test (x ∷ xs) zero lt e =
    rw (ap (λ (b : Bool). cond b (x ∷ filter test xs) (filter test xs)) e) (0, (omega arith, refl))
kept_place test (x ∷ xs) (suc k) lt e = by_test (test x) refl (kept_place test xs k (omega arith) e)
  where
    by_test : (b : Bool) → test x ≡ b → (p : ℕ)
        × ((p < length (filter test xs)) × (slice_index (filter test xs) p ≡ slice_index xs k)) → (p : ℕ)
        × ((p < length (filter test (x ∷ xs))) × (slice_index (filter test (x ∷ xs)) p ≡ slice_index xs k))
    by_test true h rest = rw (ap (λ (b : Bool). cond b (x ∷ filter test xs) (filter test xs)) h)
        (suc rest.0, (omega (arith, rest.1.0), rest.1.1))
    by_test false h rest = rw (ap (λ (b : Bool). cond b (x ∷ filter test xs) (filter test xs)) h) rest

other_test : (n a : ℕ) → not (n == a) ≡ true → n ≢ a
other_test n a h = grind (arith, nat_tests)

test_other : (n a : ℕ) → n ≢ a → not (n == a) ≡ true
test_other n a h = grind (arith, nat_tests)

-- the numbers of which it holds, without one
pub those_without : (holds : ℕ → Type 0) (numbers : List ℕ) (a : ℕ) → AreThose holds numbers
    → AreThose (λ n. holds n × (n ≢ a)) (filter (λ n. not (n == a)) numbers)
those_without holds numbers a are =
    let test : ℕ → Bool = λ n. not (n == a) in
    let rest : List ℕ = filter (λ n. not (n == a)) numbers in
    let all : All holds (filter (λ n. not (n == a)) numbers) = All-filter (λ n. not (n == a)) holds numbers
    (λ k d lt. subst holds (same_read numbers k d lt) (are.each k lt)) in
    let others : All (λ n. not (n == a) ≡ true) (filter (λ n. not (n == a)) numbers) = filter_passes
    (λ n. not (n == a)) numbers in
    let up : AllPairs (λ x y. x < y) (filter (λ n. not (n == a)) numbers) = AllPairs-filter (λ x y. x < y)
    (λ n. not (n == a)) numbers
    (λ i j d lt lj. omega (
      arith,
      are.rising i j lt lj,
      same_read numbers i d
          (omega arith),
      same_read numbers j d lj,
    )) in
    record {
      each = λ p lt. (all p 0 lt, other_test _ _ (others p 0 lt));
      complete = λ n h. (
          let k = are.complete n h.0 in
          let p = kept_place (λ n. not (n == a)) numbers k.0 k.1.0
          (test_other _ _ (rw k.1.1 h.1)) in
          (p.0, (p.1.0, p.1.1 ∙ k.1.1))
          );
      rising = λ p q lt lq. up p q 0 lt lq;
    }
  where
    same_read : (xs : List ℕ) (k d : ℕ) → k < length xs → slice_index xs k ≡ slice_index_or xs k d
    same_read [] k d lt = absurd (omega arith)
    same_read (x ∷ xs) zero d lt = refl
    same_read (x ∷ xs) (suc k) d lt = same_read xs k d (omega arith)

pub contacts_from : (shapes : List Shape) (a : ℕ) (numbers : List ℕ) → AreThose (PassTogether meet shapes a) numbers
    → AreThose (Contact shapes a) (filter (λ n. not (n == a)) numbers)
contacts_from shapes a numbers are =
    let those = those_without (PassTogether meet shapes a) numbers a are in
    record {
      each = λ p lt. (let both = those.each p lt in record {
        apart = λ e. both.1 (sym e);
        first = both.0.first;
        second = both.0.second;
        first_is = both.0.first_is;
        second_is = both.0.second_is;
        meet_so = both.0.passes_so;
      });
      complete = λ n contact. those.complete n (
        record {
          first = contact.first;
          second = contact.second;
          first_is = contact.first_is;
          second_is = contact.second_is;
          passes_so = contact.meet_so;
        },
        λ e. contact.apart (sym e),
      );
      rising = those.rising;
    }
