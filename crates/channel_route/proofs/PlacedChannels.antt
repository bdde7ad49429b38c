-- The wires of a placed net's channel, with their ends in the columns of their pins: their ends are distinct, and where
-- they are short there is room for them.
use Rattle.std.proofs.Common.{◌≡◌, ℕ, suc, ◌+◌, ◌-◌, ◌/◌, ◌<◌, ◌≤◌, List, [], ◌∷◌, length, sym, ◌∙◌, subst, arith}
use Rattle.std.specs.List.{AllByRecursion}
use Rattle.sorting.specs.Sorting.{EachPair, by_key}
use Rattle.sorting.proofs.SortingLaws.{by_key_all, by_key_pairs}
use Rattle.rowed.specs.declared.wire.Wire.{Wire}
use Rattle.rowed.specs.PlacedNets.{PlacedView, IsPlaced, placed_rows, row_of}
use Rattle.rowed.specs.Channels.{Link, channel_links, move}
use Rattle.rowed.specs.Short.{AreShort}
use Rattle.rowed.specs.Short as placed
use Rattle.rowed.proofs.NeighbourLaws.{next_channel}
use Rattle.rowed.proofs.NumberedRows.{short_channel}
use Rattle.channel_route.specs.Crossing.{Apart, EndsApart, HasRoom}
use Rattle.channel_route.specs.ShortWires.{IsShortWire, FromApart}
use Rattle.channel_route.specs.PinColumns.{IsPinned, ToApart, GoesAlong, GoAlong}
use Rattle.channel_route.proofs.FewCross.{below_capacity}
use Rattle.channel_route.proofs.PinsApart.{ends_apart}

-- numbers that tell links apart tell the wires apart that go along them
module _ (of_link : Link → ℕ) (of_wire : Wire → ℕ)
    (same : (v : Link) (w : Wire) → GoesAlong v w → of_wire w ≡ of_link v) where
  one_along : (v : Link) (w : Wire) → GoesAlong v w → (vs : List Link) (ws : List Wire) → GoAlong vs ws
      → AllByRecursion (λ (u : Link). of_link v ≡ of_link u → ⊥) vs
      → AllByRecursion (λ (u : Wire). of_wire w ≡ of_wire u → ⊥) ws
  one_along v w goes [] [] go apart = tt
  one_along v w goes [] (x ∷ ws) go apart = absurd go
  one_along v w goes (u ∷ vs) [] go apart = absurd go
  one_along v w goes (u ∷ vs) (x ∷ ws) go apart =
      (λ e. apart.0 (sym (same v w goes) ∙ e ∙ same u x go.0), one_along v w goes vs ws go.1 apart.1)

  apart_along : (vs : List Link) (ws : List Wire) → GoAlong vs ws
      → EachPair (λ (v : Link) (u : Link). of_link v ≡ of_link u → ⊥) vs
      → EachPair (λ (w : Wire) (u : Wire). of_wire w ≡ of_wire u → ⊥) ws
  apart_along [] [] go apart = tt
  apart_along [] (w ∷ ws) go apart = absurd go
  apart_along (v ∷ vs) [] go apart = absurd go
  apart_along (v ∷ vs) (w ∷ ws) go apart = (one_along v w go.0 vs ws go.1 apart.0, apart_along vs ws go.1 apart.1)

module _ (p : PlacedView) (known : IsPlaced p) (k : ℕ) (lt : k + 1 < length p.net.rows) (columns : ℕ) (ws : List Wire)
    (go : GoAlong (channel_links (row_of p k) (row_of p (k + 1))) ws)
    (pinned : AllByRecursion (IsPinned columns) ws) where
  begin_apart : FromApart ws
  begin_apart =
      apart_along (λ (v : Link). v.from) (λ (w : Wire). w.from_slot) (λ v w goes. goes.from_is)
      (channel_links (row_of p k) (row_of p (k + 1))) ws go (next_channel p known k lt).from_apart

  end_apart : ToApart ws
  end_apart =
      apart_along (λ (v : Link). v.to) (λ (w : Wire). w.to_slot) (λ v w goes. goes.to_is)
      (channel_links (row_of p k) (row_of p (k + 1))) ws go (next_channel p known k lt).to_apart

  pub placed_apart : EndsApart ws
  placed_apart = ends_apart columns ws pinned begin_apart end_apart

  pub placed_room : (reach capacity : ℕ) → AreShort reach (placed_rows p) → 1 ≤ reach → reach ≤ capacity / 2
      → HasRoom ws capacity
  placed_room reach capacity short some half x =
      let next : suc k ≡ k + 1 = omega arith in
      let below : suc k < length p.net.rows = omega (arith, lt) in
      let links_short = subst (λ (n : ℕ). placed.IsShort reach (row_of p k) (row_of p n)) next
      (short_channel p known reach short k below) in
      let wires_short = each_short (channel_links (row_of p k) (row_of p (k + 1))) ws go links_short pinned in
      omega (arith, below_capacity reach columns capacity ws some half wires_short begin_apart x)
    where
      each_short : (vs : List Link) (us : List Wire) → GoAlong vs us
          → AllByRecursion (λ (v : Link). move v.from v.to ≤ reach - 1) vs → AllByRecursion (IsPinned columns) us
          → AllByRecursion (IsShortWire reach columns) us
      each_short [] [] along near pins = tt
      each_short [] (u ∷ us) along near pins = absurd along
      each_short (v ∷ vs) [] along near pins = absurd along
      each_short (v ∷ vs) (u ∷ us) along near pins = (
        record {
          from_within = pins.0.from_within;
          to_within = pins.0.to_within;
          short = omega (arith, near.0, along.0.from_is, along.0.to_is);
        },
        each_short vs us along.1 near.1 pins.1,
      )

-- wires whose ends are distinct keep them so in the order of a key
turned : (v w : Wire) → Apart v w → Apart w v
turned v w apart = record {
  from_from = λ e. apart.from_from (sym e);
  from_to = λ e. apart.to_from (sym e);
  to_from = λ e. apart.from_to (sym e);
  to_to = λ e. apart.to_to (sym e);
}

pub sorted_apart : (key : Wire → ℕ) (ws : List Wire) → EndsApart ws → EndsApart (by_key key ws)
sorted_apart key ws apart = record {
  own = by_key_all (λ (w : Wire). w.from_column ≡ w.to_column → ⊥) key ws apart.own;
  others = by_key_pairs Apart turned key ws apart.others;
}
