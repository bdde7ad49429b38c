-- A channel as the code opens it: its arrays say what its wires do.
use Rattle.std.proofs.Common.{◌≡◌, ℕ, zero, suc, ◌+◌, ◌<◌, ◌≤◌, ◌^◌, Bool, true, false, not, eqb, List, [], ◌∷◌, Option}
use Rattle.std.proofs.Common.{length, map, get_or, refl, sym, ap, ◌∙◌, subst, inl, inr, arith}
use Rattle.std.specs.List.{filter, AllByRecursion}
use Rattle.std.proofs.lemmas.List.{length-map}
use Rattle.std.proofs.lemmas.Bool.{cases_lt, ne_eqb}
use Rattle.circuit.specs.Gates.{valuation}
use Rattle.rowed.specs.declared.source.Source.{Source}
use Rattle.rowed.specs.PlacedNets.{PlacedRow}
use Rattle.rowed.specs.Channels.{Link, channel_links, channel_slots}
use Rattle.sorting.specs.Numbers.{numbers, IsOrder}
use Rattle.sorting.proofs.NumbersLaws.{length-numbers}
use Rattle.repeater_rows.specs.Destinations.{destinations, is_end, completed}
use Rattle.repeater_rows.specs.Repeaters.{no_source, source_to, carrier_slots}
use Rattle.repeater_rows.specs.Local.{UnwiredRise}
use Rattle.repeater_rows.proofs.LocalLaws.{destinations_rise}
use Rattle.repeater_rows.proofs.OrderLaws.{destinations_length, destinations_order}
use Rattle.repeater_rows.proofs.WireLaws.{wired_below}
use Rattle.repeater_rows.specs.Code.Reading.{AreOf, spare_from, source_in}
use Rattle.repeater_rows.specs.Code.Opening.{AreNeighbours, AreDestinations}
use Rattle.repeater_rows.proofs.Lists.{same_functions}

-- an array of a function's values, and what it says past its end
value_at : {A : Type 0} (f : ℕ → A) (b n d : ℕ) (past : A) → d < n → get_or (map f (numbers b n)) d past ≡ f (b + d)
value_at f b zero d past lt = absurd (omega arith)
value_at f b (suc n) zero past lt = ap f (omega arith)
value_at f b (suc n) (suc d) past lt = value_at f (suc b) n d past (omega arith)
    ∙ ap f (let e : suc b + d ≡ b + suc d = omega arith in e)

past_last : {A : Type 0} (f : ℕ → A) (b n d : ℕ) (past : A) → n ≤ d → get_or (map f (numbers b n)) d past ≡ past
past_last f b zero d past le = refl
past_last f b (suc n) zero past le = absurd (omega arith)
past_last f b (suc n) (suc d) past le = past_last f (suc b) n d past (omega arith)

array_is : {A : Type 0} (f : ℕ → A) (n : ℕ) (past : A) → ((d : ℕ) → n ≤ d → f d ≡ past)
    → (λ (d : ℕ). get_or (map f (numbers 0 n)) d past) ≡ f
array_is f n past none = same_functions (λ (d : ℕ). get_or (map f (numbers 0 n)) d past) f (λ d. elim (cases_lt d n) [
  | inl lt ↦ value_at f 0 n d past lt ∙ ap f (let e : 0 + d ≡ d = omega arith in e)
  | inr le ↦ past_last f 0 n d past le ∙ sym (none d le)
])

none_past : (ws : List Link) (n d : ℕ) → AllByRecursion (λ (w : Link). w.to < n) ws → n ≤ d → is_end ws d ≡ false
none_past ws n d below le = go (is_end ws d) refl
  where
    go : (b : Bool) → is_end ws d ≡ b → is_end ws d ≡ false
    go true q = absurd (let lt = wired_below ws n d below q in omega arith)
    go false q = q

no_source_past : (ws : List Link) (n d : ℕ) → AllByRecursion (λ (w : Link). w.to < n) ws → n ≤ d
    → source_to ws d ≡ no_source
no_source_past [] n d below le = refl
no_source_past (w ∷ ws) n d below le = let q : eqb w.to d ≡ false = ne_eqb w.to d
    (λ e. omega (arith, e, below.0)) in rw q (no_source_past ws n d below.1 le)

spare_is : (f : ℕ → Bool) (b n : ℕ) → spare_from b (map f (numbers b n)) ≡ filter (λ (d : ℕ). not (f d)) (numbers b n)
spare_is f b zero = refl
spare_is f b (suc n) = go (f b) refl (spare_is f (suc b) n)
  where
    go : (t : Bool) → f b ≡ t
        → spare_from (suc b) (map f (numbers (suc b) n)) ≡ filter (λ (d : ℕ). not (f d)) (numbers (suc b) n)
        → spare_from b (map f (numbers b (suc n))) ≡ filter (λ (d : ℕ). not (f d)) (numbers b (suc n))
    go true q rest = rw q rest
    go false q rest = rw q (ap (λ (l : List ℕ). b ∷ l) rest)

module _ (lower upper : PlacedRow) (near : AreNeighbours lower upper) (n : ℕ) (is : n ≡ channel_slots lower upper)
    (ends : List (Option ℕ)) (wired : List Bool) (sources : List Source)
    (read : AreOf (channel_links lower upper) n ends wired sources) where
  pub slots_fit : n < 2 ^ 32
  slots_fit = let few = near.few_slots in omega arith

  pub wired_length : length wired ≡ n
  wired_length = ap length read.each_wired
      ∙ length-map (numbers 0 n) (is_end (channel_links lower upper)) ∙ length-numbers 0 n

  below : AllByRecursion (λ (w : Link). w.to < n) (channel_links lower upper)
  below = subst (λ (m : ℕ). AllByRecursion (λ (w : Link). w.to < m) (channel_links lower upper))
      (sym is) near.channel.to_below

  pub wired_is : valuation wired ≡ is_end (channel_links lower upper)
  wired_is =
      let ws = channel_links lower upper in
      ap (λ (l : List Bool). valuation l) read.each_wired
      ∙ array_is (is_end ws) n false (λ d le. none_past ws n d below le)

  pub sources_are : source_in sources ≡ source_to (channel_links lower upper)
  sources_are =
      let ws = channel_links lower upper in
      ap (λ (l : List Source). source_in l) read.each_source
      ∙ array_is (source_to ws) n no_source (λ d le. no_source_past ws n d below le)

  pub to_is : (spare to : List ℕ) → spare ≡ spare_from 0 wired → to ≡ completed ends spare
      → to ≡ destinations (channel_links lower upper) (channel_slots lower upper)
  to_is spare to s t =
      let ws = channel_links lower upper in
      t ∙ ap (completed ends) (s ∙ ap (spare_from 0) read.each_wired ∙ spare_is (is_end ws) 0 n)
      ∙ ap (λ (l : List (Option ℕ)). completed l (filter (λ (d : ℕ). not (is_end ws d)) (numbers 0 n))) read.each_end
      ∙ ap (destinations ws) is

  pub opened : (spare to carriers : List ℕ) → spare ≡ spare_from 0 wired → to ≡ completed ends spare
      → carriers ≡ carrier_slots (valuation wired) 0 to
      → AreDestinations (valuation wired) (channel_slots lower upper) to carriers
  opened spare to carriers s t c =
      let ws = channel_links lower upper in
      let dest : to ≡ destinations ws (channel_slots lower upper) = to_is spare to s t in
      record {
        long = ap length dest ∙ destinations_length ws (channel_slots lower upper);
        few = near.few_slots;
        order = subst IsOrder (sym dest) (destinations_order ws (channel_slots lower upper) near.channel);
        rise = subst (λ (f : ℕ → Bool). UnwiredRise f to) (sym wired_is)
            (subst (UnwiredRise (is_end ws)) (sym dest)
            (destinations_rise ws (channel_slots lower upper) near.channel));
        carry = c;
        below = λ d q. wired_below ws (channel_slots lower upper) d near.channel.to_below
            (ap (λ (f : ℕ → Bool). f d) (sym wired_is) ∙ q);
      }

  pub to_fits : (spare to : List ℕ) → spare ≡ spare_from 0 wired → to ≡ completed ends spare → length to < 2 ^ 32
  to_fits spare to s t =
      let few = near.few_slots in
      omega (
        arith,
        ap length (to_is spare to s t),
        destinations_length (channel_links lower upper)
            (channel_slots lower upper),
      )

  pub sources_length : length sources ≡ channel_slots lower upper
  sources_length = ap length read.each_source ∙ length-map (numbers 0 n) (source_to (channel_links lower upper))
      ∙ length-numbers 0 n ∙ is
