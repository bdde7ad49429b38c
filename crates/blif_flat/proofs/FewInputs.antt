-- A circuit has few inputs: each is taken by an input of a cell, which takes no other.
use Rattle.std.proofs.Common.{◌≡◌, ℕ, zero, suc, ◌+◌, ◌*◌, ◌<◌, ◌≤◌, ◌^◌, false, List, [], ◌∷◌, length, refl, sym, ap}
use Rattle.std.proofs.Common.{◌∙◌, arith}
use Rattle.std.specs.Prelude.{slice_get, nat_eq}
use Rattle.std.specs.List.{AllByRecursion}
use Rattle.std.proofs.lemmas.Bool.{ne_eqb}
use Rattle.std.proofs.lemmas.Option.{slice_get_within, same_Some}
use Rattle.blif_read.specs.Walk.{on}
use Rattle.blif_read.specs.Code.Marking.{Apart}
use Rattle.blif_read.proofs.Closing.{path_fits}
use Rattle.circuit_extracted.specs.declared.cells.Feed.TheVariants.{Label}
use Rattle.circuit_extracted.specs.declared.cells.ExCell.{ExCell}
use Rattle.circuit_extracted.specs.Circuits.{CircuitView, IsFed, KeepsFacts, feed_at}
use Rattle.blif_flat.proofs.Definitions.{off_both}

same_label : (n m : ℕ) → Label n ≡ Label m → n ≡ m
same_label n m e = cc

fed_once : (circuit : CircuitView) (a b i j n m : ℕ) → IsFed circuit a i (Label n) → IsFed circuit b j (Label m)
    → a ≡ b → i ≡ j → n ≡ m
fed_once circuit a b i j n m p q e f =
    let cells : p.cell ≡ q.cell = same_Some p.cell q.cell (sym p.cell_is ∙ ap (slice_get circuit.cells) e
    ∙ q.cell_is) in
    same_label n m (sym p.feed_is ∙ (λ k. feed_at (cells k) (f k)) ∙ q.feed_is)

small_place : (cell : ExCell) (i n : ℕ) → feed_at cell i ≡ Label n → i < 3
small_place cell zero n e = omega arith
small_place cell (suc zero) n e = omega arith
small_place cell (suc (suc zero)) n e = omega arith
small_place cell (suc (suc (suc i))) n e = absurd (cc)

last_below : (n t : ℕ) → suc n ≤ t → n < t
last_below n t h = omega (arith, h)

one_less : (n t : ℕ) → suc n ≤ t → n ≤ t
one_less n t h = omega (arith, h)

module _ (circuit : CircuitView) (ok : KeepsFacts circuit) where
  -- the place of the input of a cell that takes an input of the circuit
  place_of : (n : ℕ) → n < circuit.inputs → ℕ
  place_of n h = 3 * (ok.each_input n h).number + (ok.each_input n h).input

  place_below : (n : ℕ) (h : n < circuit.inputs) → place_of n h < 3 * length circuit.cells
  unfolding place_of
  place_below n h =
      let taken = ok.each_input n h in
      let small = small_place taken.fed.cell taken.input n taken.fed.feed_is in
      let within = slice_get_within circuit.cells taken.number taken.fed.cell taken.fed.cell_is in
      omega (arith, small, within)

  one_place : (n m : ℕ) (h : n < circuit.inputs) (k : m < circuit.inputs) → place_of n h ≡ place_of m k → n ≡ m
  unfolding place_of
  one_place n m h k e =
      let p = ok.each_input n h in
      let q = ok.each_input m k in
      let i = small_place p.fed.cell p.input n p.fed.feed_is in
      let j = small_place q.fed.cell q.input m q.fed.feed_is in
      let cells : p.number ≡ q.number = omega (arith, e, i, j) in
      let inputs : p.input ≡ q.input = omega (arith, e, cells) in
      fed_once circuit p.number q.number p.input q.input n m p.fed q.fed cells inputs

  abbrev all_inputs : ℕ
  all_inputs = circuit.inputs

  places : (n : ℕ) → n ≤ circuit.inputs → List ℕ
  places zero h = []
  places (suc n) h = place_of n (last_below n all_inputs h) ∷ places n (one_less n all_inputs h)

  elsewhere : (m n : ℕ) (h : m ≤ circuit.inputs) (k : n < circuit.inputs) → m ≤ n
      → on (places m h) (place_of n k) ≡ false
  unfolding places
  elsewhere zero n h k le = refl
  elsewhere (suc m) n h k le =
      let below = last_below m all_inputs h in
      let apart = ne_eqb (place_of n k) (place_of m below)
      (λ e. let same = one_place n m k below e in absurd (omega (arith, same, le))) in
      off_both (nat_eq (place_of n k) (place_of m below))
      (on (places m (one_less m all_inputs h)) (place_of n k)) apart
      (elsewhere m n (one_less m all_inputs h) k (omega (arith, le)))

  all_apart : (n : ℕ) (h : n ≤ circuit.inputs) → Apart (places n h)
  unfolding places
  all_apart zero h = tt
  all_apart (suc n) h = (
    elsewhere n n (one_less n all_inputs h) (last_below n all_inputs h)
        (omega arith),
    all_apart n (one_less n all_inputs h),
  )

  all_below : (n : ℕ) (h : n ≤ circuit.inputs) → AllByRecursion (λ p. p < 3 * length circuit.cells) (places n h)
  unfolding places
  all_below zero h = tt
  all_below (suc n) h = (place_below n (last_below n all_inputs h), all_below n (one_less n all_inputs h))

  place_count : (n : ℕ) (h : n ≤ circuit.inputs) → length (places n h) ≡ n
  unfolding places
  place_count zero h = refl
  place_count (suc n) h = let rest = place_count n (one_less n all_inputs h) in omega (arith, rest)

  pub few_inputs : circuit.inputs < 2 ^ 64
  few_inputs =
      let all : circuit.inputs ≤ circuit.inputs = omega arith in
      let fit = path_fits (3 * length circuit.cells) (places circuit.inputs all) (all_apart circuit.inputs all)
      (all_below circuit.inputs all) in
      let count = place_count circuit.inputs all in
      let few = ok.few_cells in
      omega (arith, fit, count, few)
