-- The steps of a channel: is a wire far, a round, a row of buffers.
use Rattle.std.proofs.Common.{◌≡◌, ℕ, zero, suc, ◌+◌, ◌-◌, ◌/◌, ◌%◌, ◌<◌, ◌≤◌, ◌^◌, Bool, true, false, cond, nat_lt}
use Rattle.std.proofs.Common.{◌||◌, List, [], ◌∷◌, ◌++◌, length, map, take, drop, get_or, slice_set, refl, sym, ap, ◌∙◌}
use Rattle.std.proofs.Common.{subst, inl, inr, arith, append_assoc, slice_get}
use Rattle.std.specs.List.{filter}
use Rattle.std.proofs.lemmas.List.{length-drop, length-set}
use Rattle.std.proofs.lemmas.Bool.{cases_eq, eq-eqb, ne_eqb}
use Rattle.std.proofs.Math.Seq.{take-append_seam}
use Rattle.rowed.specs.declared.source.Source.{Source}
use Rattle.rowed.specs.declared.row_cell.RowCell.{RowCell}
use Rattle.rowed.specs.Channels.{move}
use Rattle.sorting.specs.Numbers.{place_of, IsOrder}
use Rattle.repeater_rows.specs.Rounds.{is_far, round, windows, window_size}
use Rattle.repeater_rows.proofs.RoundsLaws.{round_order, round_same, length_same}
use Rattle.repeater_rows.specs.Local.{UnwiredRise}
use Rattle.repeater_rows.proofs.LocalLaws.{round_rise}
use Rattle.repeater_rows.proofs.PlaceLaws.{times, carried_has, stands_in}
use Rattle.repeater_rows.specs.Repeaters.{no_source, carrier_slots, carried, source_above, cell_from, cells_from}
use Rattle.repeater_rows.specs.Code.Reading.{far_among, source_in}
use Rattle.repeater_rows.specs.Code.Looking.{ordered_from}
use Rattle.repeater_rows.specs.Code.Opening.{AreDestinations, raised, at_slot}
use Rattle.repeater_rows.proofs.WindowOrder.{windows_enough}
use Rattle.repeater_rows.proofs.Lists.{drop_0}

-- these are the destinations from a slot on
abbrev pub From : List ℕ → ℕ → List ℕ → Type 0
From to b ds = (i : ℕ) → i < length ds → get_or to (b + i) 0 ≡ get_or ds i 0

next_from : (to : List ℕ) (b : ℕ) (d : ℕ) (ds : List ℕ) → From to b (d ∷ ds) → From to (suc b) ds
next_from to b d ds from i lt = ap (λ (k : ℕ). get_or to k 0) (let e : suc b + i ≡ b + suc i = omega arith in e)
    ∙ from (suc i) (omega arith)

first_from : (to : List ℕ) (b : ℕ) (d : ℕ) (ds : List ℕ) → From to b (d ∷ ds) → get_or to b 0 ≡ d
first_from to b d ds from = ap (λ (k : ℕ). get_or to k 0) (let e : b ≡ b + 0 = omega arith in e) ∙ from 0 (omega arith)

all_from : (to : List ℕ) → From to 0 to
all_from to i lt = ap (λ (k : ℕ). get_or to k 0) (omega arith)

far_from : (reach : ℕ) (wired : ℕ → Bool) (to : List ℕ) (b : ℕ) (ds : List ℕ) → From to b ds
    → far_among reach to (carrier_slots wired b ds) ≡ is_far reach wired b ds
far_from reach wired to b [] from = refl
far_from reach wired to b (d ∷ ds) from = go (wired d) refl
    (far_from reach wired to (suc b) ds (next_from to b d ds from))
  where
    go : (t : Bool) → wired d ≡ t → far_among reach to (carrier_slots wired (suc b) ds) ≡ is_far reach wired (suc b) ds
        → far_among reach to (carrier_slots wired b (d ∷ ds)) ≡ is_far reach wired b (d ∷ ds)
    go true q rest = rw q (ap
        (λ (k : ℕ). nat_lt (reach - 1) (move b k) || far_among reach to (carrier_slots wired (suc b) ds))
        (first_from to b d ds from)
        ∙ ap (λ (t : Bool). nat_lt (reach - 1) (move b d) || t) rest)
    go false q rest = rw q rest

pub far_is : (reach slots : ℕ) (wired : ℕ → Bool) (to carriers : List ℕ) → AreDestinations wired slots to carriers
    → far_among reach to carriers ≡ is_far reach wired 0 to
far_is reach slots wired to carriers known = ap (far_among reach to) known.carry
    ∙ far_from reach wired to 0 to (all_from to)

carried_from : (wired : ℕ → Bool) (to : List ℕ) (b : ℕ) (ds : List ℕ) → From to b ds
    → map (λ (slot : ℕ). get_or to slot 0) (carrier_slots wired b ds) ≡ carried wired ds
carried_from wired to b [] from = refl
carried_from wired to b (d ∷ ds) from = go (wired d) refl (carried_from wired to (suc b) ds (next_from to b d ds from))
  where
    go : (t : Bool) → wired d ≡ t
        → map (λ (slot : ℕ). get_or to slot 0) (carrier_slots wired (suc b) ds) ≡ carried wired ds
        → map (λ (slot : ℕ). get_or to slot 0) (carrier_slots wired b (d ∷ ds)) ≡ carried wired (d ∷ ds)
    go true q rest = rw q (ap (λ (k : ℕ). k ∷ map (λ (slot : ℕ). get_or to slot 0) (carrier_slots wired (suc b) ds))
        (first_from to b d ds from) ∙ ap (λ (l : List ℕ). d ∷ l) rest)
    go false q rest = rw q rest

pub carried_is : (slots : ℕ) (wired : ℕ → Bool) (to carriers destinations : List ℕ)
    → AreDestinations wired slots to carriers
    → destinations ≡ map (λ (slot : ℕ). get_or to slot 0) carriers → destinations ≡ carried wired to
carried_is slots wired to carriers destinations known is = is ∙ ap (map (λ (slot : ℕ). get_or to slot 0)) known.carry
    ∙ carried_from wired to 0 to (all_from to)

pub few_pass : (p : ℕ → Bool) (xs : List ℕ) → length (filter p xs) ≤ length xs
few_pass p [] = omega arith
few_pass p (x ∷ xs) = go (p x) refl (few_pass p xs)
  where
    go : (t : Bool) → p x ≡ t → length (filter p xs) ≤ length xs → length (filter p (x ∷ xs)) ≤ length (x ∷ xs)
    go true q le = rw q (omega (arith, le))
    go false q le = rw q (omega (arith, le))

pub few_carried : (slots : ℕ) (wired : ℕ → Bool) (to carriers destinations : List ℕ)
    → AreDestinations wired slots to carriers
    → destinations ≡ map (λ (slot : ℕ). get_or to slot 0) carriers → length destinations < 2 ^ 32
few_carried slots wired to carriers destinations known is =
    let l = known.long in
    let f = known.few in
    omega (arith, ap length (carried_is slots wired to carriers destinations known is), few_pass wired to)

-- a round, as the code does it
pub ordered_round : (size : ℕ) (first : Bool) (start : ℕ) (to : List ℕ) → 0 < size → start ≡ cond first 0 (size / 2)
    → ordered_from size start to ≡ round size first to
ordered_round size true start to some is = ap (λ (k : ℕ). ordered_from size k to) is ∙ whole to
  where
    whole : (to : List ℕ) → ordered_from size 0 to ≡ windows size (length to) to
    whole [] = refl
    whole (x ∷ to) = refl
ordered_round size false start to some is =
    ap (λ (k : ℕ). ordered_from size k to) is
    ∙ ap (λ (l : List ℕ). take (size / 2) to ++ l)
    (windows_enough size (length (drop (size / 2) to)) (length to) (drop (size / 2) to) some (omega arith)
    (omega (arith, length-drop (size / 2) to)))

pub round_known : (reach slots : ℕ) (first : Bool) (wired : ℕ → Bool) (to carriers to' carriers' : List ℕ)
    → to' ≡ round (window_size reach) first to
    → carriers' ≡ carrier_slots wired 0 to' → AreDestinations wired slots to carriers
    → AreDestinations wired slots to' carriers'
round_known reach slots first wired to carriers to' carriers' is carry known =
    let size = window_size reach in
    record {
      long = ap length is ∙ length_same (round size first to) to (round_same size first to) ∙ known.long;
      few = known.few;
      order = subst IsOrder (sym is) (round_order size first to known.order);
      rise = subst (λ (l : List ℕ). UnwiredRise wired l) (sym is) (round_rise size first wired to known.rise);
      carry = carry;
      below = known.below;
    }

pub window_some : (reach : ℕ) → 2 ≤ reach → 0 < reach - reach % 2
window_some reach le = omega arith

-- a slice of a whole vector, written back
pub written_back : (n : ℕ) (xs ys : List ℕ) → length xs ≡ length ys → n ≡ length ys
    → take n (xs ++ drop (length xs) ys) ≡ xs
written_back n xs ys same e = ap (λ (k : ℕ). take k (xs ++ drop (length xs) ys)) (e ∙ sym same)
    ∙ take-append_seam xs (drop (length xs) ys)

-- the sources above an added row
pub raised_length : (n : ℕ) (ds : List ℕ) (sources : List Source) → length (raised n ds sources) ≡ length sources
raised_length n [] sources = refl
raised_length n (d ∷ ds) sources = length-set (raised (suc n) ds sources) d (record { cell = n; output = 0 })
    ∙ raised_length (suc n) ds sources

set_here : (sources : List Source) (d : ℕ) (s : Source) → d < length sources
    → get_or (slice_set sources d s) d no_source ≡ s
set_here [] d s lt = absurd (omega arith)
set_here (x ∷ sources) zero s lt = refl
set_here (x ∷ sources) (suc d) s lt = set_here sources d s (omega arith)

set_apart : (sources : List Source) (d e : ℕ) (s : Source) → (d ≡ e → ⊥)
    → get_or (slice_set sources d s) e no_source ≡ get_or sources e no_source
set_apart [] d e s ne = refl
set_apart (x ∷ sources) zero zero s ne = absurd (ne refl)
set_apart (x ∷ sources) zero (suc e) s ne = refl
set_apart (x ∷ sources) (suc d) zero s ne = refl
set_apart (x ∷ sources) (suc d) (suc e) s ne = set_apart sources d e s (λ q. ne (ap suc q))

abbrev pub source_cell : ℕ → Source
source_cell n = record { cell = n; output = 0 }

pub raised_at : (n : ℕ) (ds : List ℕ) (sources : List Source) (d : ℕ) → d < length sources → 0 < times d ds
    → source_in (raised n ds sources) d ≡ source_cell (n + place_of ds d)
raised_at n [] sources d lt some = absurd (omega (arith, some))
raised_at n (x ∷ ds) sources d lt some = elim (cases_eq x d) [
  | inl same ↦ let q = eq-eqb x d same in
      rw q (ap (λ (k : ℕ). source_in (slice_set (raised (suc n) ds sources) k (source_cell n)) d) same
      ∙ set_here (raised (suc n) ds sources) d (source_cell n) (omega (arith, raised_length (suc n) ds sources))
      ∙ ap source_cell (omega arith))
  | inr other ↦ let q = ne_eqb x d other in
      let more = rw q at some in
      rw q (set_apart (raised (suc n) ds sources) x d (source_cell n) other ∙ raised_at (suc n) ds sources d lt more
      ∙ ap source_cell (omega arith))
]

pub raised_above : (slots : ℕ) (wired : ℕ → Bool) (to carriers destinations : List ℕ) (sources sources' : List Source)
    → AreDestinations wired slots to carriers
    → destinations ≡ map (λ (slot : ℕ). get_or to slot 0) carriers → sources' ≡ raised 0 destinations sources
    → (d : ℕ) → wired d ≡ true → d < length sources → source_in sources' d ≡ source_above wired to d
raised_above slots wired to carriers destinations sources sources' known is so d here lt =
    let l = known.long in
    let b = known.below d here in
    let there : 0 < times d to = stands_in to d known.order (omega arith) in
    let some : 0 < times d (carried wired to) = omega (arith, carried_has wired to d here) in
    ap (λ (s : List Source). source_in s d)
    (so ∙ ap (λ (ds : List ℕ). raised 0 ds sources) (carried_is slots wired to carriers destinations known is))
    ∙ raised_at 0 (carried wired to) sources d lt some ∙ ap source_cell (omega arith)

-- one cell of the upper row after another
drop_nil : {X : Type 0} (n : ℕ) → drop {A = X} n [] ≡ []
drop_nil zero = refl
drop_nil (suc n) = refl

plain_cells : (f : ℕ → Source) (cells : List RowCell) → cells_from f cells [] ≡ cells
plain_cells f [] = refl
plain_cells f (x ∷ cells) = refl

first_cell : (f : ℕ → Source) (cells : List RowCell) (slots : List ℕ) (place next : ℕ) (d cell fed : RowCell)
    → next ≡ place + 1 → place < length cells
    → cell ≡ get_or cells place d → fed ≡ at_slot f (slice_get slots place) cell
    → cells_from f (drop place cells) (drop place slots) ≡ fed ∷ cells_from f (drop next cells) (drop next slots)
first_cell f [] slots place next d cell fed e lt here is = absurd (omega arith)
first_cell f (x ∷ cells) slots place zero d cell fed e lt here is = absurd (omega arith)
first_cell f (x ∷ cells) slots zero (suc (suc next)) d cell fed e lt here is = absurd (omega arith)
first_cell f (x ∷ cells) [] zero (suc zero) d cell fed e lt here is =
    ap (λ (c : RowCell). c ∷ cells) (sym here ∙ sym is)
    ∙ ap (λ (l : List RowCell). fed ∷ l) (sym (plain_cells f (drop 0 cells) ∙ drop_0 cells))
first_cell f (x ∷ cells) (s ∷ slots) zero (suc zero) d cell fed e lt here is =
    ap (λ (c : RowCell). c ∷ cells_from f cells slots) (ap (cell_from f s) (sym here) ∙ sym is)
    ∙ ap (λ (l : List RowCell). fed ∷ cells_from f l slots) (sym (drop_0 cells))
    ∙ ap (λ (l : List ℕ). fed ∷ cells_from f (drop 0 cells) l) (sym (drop_0 slots))
first_cell f (x ∷ cells) [] (suc place) (suc next) d cell fed e lt here is =
    ap (cells_from f (drop place cells)) (sym (drop_nil place))
    ∙ first_cell f cells [] place next d cell fed (omega arith) (omega arith) here is
    ∙ ap (λ (l : List ℕ). fed ∷ cells_from f (drop next cells) l) (drop_nil next)
first_cell f (x ∷ cells) (s ∷ slots) (suc place) (suc next) d cell fed e lt here is =
    first_cell f cells slots place next d cell fed (omega arith) (omega arith) here is

pub feed_step : (f : ℕ → Source) (cells row row' whole : List RowCell) (slots : List ℕ) (place next : ℕ)
    (d cell fed : RowCell) → next ≡ place + 1 → place < length cells
    → cell ≡ get_or cells place d → fed ≡ at_slot f (slice_get slots place) cell
    → row ++ cells_from f (drop place cells) (drop place slots) ≡ whole
    → row' ≡ row ++ (fed ∷ []) → row' ++ cells_from f (drop next cells) (drop next slots) ≡ whole
feed_step f cells row row' whole slots place next d cell fed e lt here is so now =
    ap (λ (l : List RowCell). l ++ cells_from f (drop next cells) (drop next slots)) now
    ∙ append_assoc row (fed ∷ []) (cells_from f (drop next cells) (drop next slots))
    ∙ ap (λ (l : List RowCell). row ++ l) (sym (first_cell f cells slots place next d cell fed e lt here is)) ∙ so
