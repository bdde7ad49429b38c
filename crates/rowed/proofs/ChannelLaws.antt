-- Laws of channels: the wires between two rows of a placed net are those of a channel, and each destination with a wire
-- has its own source in the lower row.
use Rattle.std.specs.Prelude.{◌≡◌, ℕ, suc, ◌+◌, ◌<◌, ◌≤◌, min, Bool, true, List, [], ◌∷◌, slice_get, slice_index_or}
use Rattle.std.specs.Prelude.{Option, Some, None, is_some}
use Rattle.std.proofs.Common.{refl, sym, ap, ◌∙◌, arith, ltb}
use Rattle.std.specs.List.{AllByRecursion}
use Rattle.std.proofs.lemmas.Bool.{ltb-true}
use Rattle.circuit.specs.CellKinds.{inputs_of, outputs_of, slots_of}
use Rattle.circuit.specs.declared.cell_kind.CellKind.{CellKind}
use Rattle.circuit.specs.declared.cell_kind.CellKind.TheVariants.{Buffer}
use Rattle.rowed.specs.declared.source.Source.{Source}
use Rattle.rowed.specs.declared.row_cell.RowCell.{RowCell}
use Rattle.rowed.specs.RowCells.{source_at}
use Rattle.rowed.specs.RowNets.{outputs_at, fed_at}
use Rattle.rowed.specs.Slots.{AreSeated}
use Rattle.rowed.specs.PlacedNets.{PlacedRow}
use Rattle.rowed.specs.Channels.{Link, pin_link, links, channel_links, channel_slots, User, IsChannel}
use Rattle.sorting.specs.Sorting.{EachPair}
use Rattle.rowed.proofs.RowsAbove.{CellAbove, RowAbove}
use Rattle.rowed.proofs.PinLaws.{pins_all, users, seated_apart, within_span}

-- a cell has room for its pins
pub inputs_fit : (kind : CellKind) → inputs_of kind ≤ slots_of kind
inputs_fit Buffer = omega arith
inputs_fit kind = omega arith

outputs_fit : (kind : CellKind) → outputs_of kind ≤ slots_of kind
outputs_fit Buffer = omega arith
outputs_fit kind = omega arith

pub fed_pin_fits : (outputs : ℕ) (last : Bool) (below : List RowCell) (cell : RowCell)
    → CellAbove outputs last below cell
    → (i : ℕ) (s : Source) → source_at cell i ≡ Some s → i < slots_of cell.kind
fed_pin_fits outputs last below cell known i s is =
    let fed : ltb i (inputs_of cell.kind) ≡ true = sym (known.fed i) ∙ ap is_some is in
    omega (arith, ltb-true i (inputs_of cell.kind) fed, inputs_fit cell.kind)

-- wires that end from b on
abbrev From : ℕ → List Link → Type 0
From b ws = AllByRecursion (λ (w : Link). b ≤ w.to) ws

abbrev ToApart : List Link → Type 0
ToApart ws = EachPair (λ (v : Link) (w : Link). v.to ≡ w.to → ⊥) ws

from_less : (a b : ℕ) (ws : List Link) → a ≤ b → From b ws → From a ws
from_less a b [] le all = tt
from_less a b (w ∷ ws) le all = (omega (arith, all.0), from_less a b ws le all.1)

apart_from : (a : ℕ) (ws : List Link) → From (suc a) ws → AllByRecursion (λ (w : Link). a ≡ w.to → ⊥) ws
apart_from a [] all = tt
apart_from a (w ∷ ws) all = ((λ e. omega (arith, e, all.0)), apart_from a ws all.1)

pin_apart : (lower : List ℕ) (slot a b : ℕ) (o : Option Source) (more : List Link) → a ≤ b
    → ((s : Source) → o ≡ Some s → (a ≤ slot) × (suc slot ≤ b))
    → From b more → ToApart more → From a (pin_link lower slot o more) × ToApart (pin_link lower slot o more)
pin_apart lower slot a b None more le fits from apart = (from_less a b more le from, apart)
pin_apart lower slot a b (Some s) more le fits from apart =
    let h = fits s refl in
    ((h.0, from_less a b more le from), (apart_from slot more (from_less (suc slot) b more h.1 from), apart))

cell_apart : (lower : List ℕ) (slot : ℕ) (cell : RowCell) (more : List Link)
    → ((i : ℕ) (s : Source) → source_at cell i ≡ Some s → i < slots_of cell.kind)
    → From (slot + slots_of cell.kind) more → ToApart more
    → From slot (pin_link lower slot cell.source0
    (pin_link lower (suc slot) cell.source1 (pin_link lower (suc (suc slot)) cell.source2 more)))
    × ToApart (pin_link lower slot cell.source0
    (pin_link lower (suc slot) cell.source1 (pin_link lower (suc (suc slot)) cell.source2 more)))
cell_apart lower slot cell more fits from apart =
    let room = slots_of cell.kind in
    let two = pin_apart lower (suc (suc slot)) (slot + min 2 room) (slot + min 3 room) cell.source2 more (omega arith)
    (λ s is. (omega (arith, fits 2 s is), omega (arith, fits 2 s is)))
    (from_less (slot + min 3 room) (slot + room) more (omega arith) from) apart in
    let one = pin_apart lower (suc slot) (slot + min 1 room) (slot + min 2 room) cell.source1
    (pin_link lower (suc (suc slot)) cell.source2 more) (omega arith)
    (λ s is. (omega (arith, fits 1 s is), omega (arith, fits 1 s is))) two.0 two.1 in
    pin_apart lower slot slot (slot + min 1 room) cell.source0
    (pin_link lower (suc slot) cell.source1 (pin_link lower (suc (suc slot)) cell.source2 more)) (omega arith)
    (λ s is. (omega arith, omega (arith, fits 0 s is))) one.0 one.1

links_apart : (lower : List ℕ) (b : ℕ) (cells : List RowCell) (slots : List ℕ) → AreSeated b cells slots
    → ((c i : ℕ) (cell : RowCell) (s : Source) → slice_get cells c ≡ Some cell → source_at cell i ≡ Some s
    → i < slots_of cell.kind)
    → From b (links lower cells slots) × ToApart (links lower cells slots)
links_apart lower b [] slots seated fits = (tt, tt)
links_apart lower b (cell ∷ cells) [] seated fits = (tt, tt)
links_apart lower b (cell ∷ cells) (slot ∷ slots) seated fits =
    let rest = links_apart lower (slot + slots_of cell.kind) cells slots seated.2
    (λ c i x s here is. fits (suc c) i x s here is) in
    let all = cell_apart lower slot cell (links lower cells slots) (λ i s is. fits 0 i cell s refl is) rest.0 rest.1 in
    (from_less b slot (links lower (cell ∷ cells) (slot ∷ slots)) seated.0 all.0, all.1)

-- pairs of which each element has a property
pairs_also : {X : Type 0} (R Q : X → X → Type 0) (P : X → Type 0) → ((x y : X) → P x → P y → R x y → Q x y)
    → (xs : List X) → AllByRecursion P xs → EachPair R xs → EachPair Q xs
pairs_also R Q P more [] all pairs = tt
pairs_also {X} R Q P more (x ∷ xs) all pairs = (first xs all.1 pairs.0, pairs_also R Q P more xs all.1 pairs.1)
  where
    first : (ys : List X) → AllByRecursion P ys → AllByRecursion (R x) ys → AllByRecursion (Q x) ys
    first [] known related = tt
    first (y ∷ ys) known related = (more x y all.0 known.0 related.0, first ys known.1 related.1)

-- an output that exists lies within its cell's slots
outputs_there : (o : Option RowCell) (n : ℕ) → n < outputs_at o → (cell : RowCell) × (o ≡ Some cell)
    × (n < slots_of cell.kind)
outputs_there None n lt = absurd (omega arith)
outputs_there (Some cell) n lt = (cell, refl, omega (arith, outputs_fit cell.kind))

abbrev made : ℕ → ℕ → Source
made c o = record { cell = c; output = o }

same_source : (v w : Source) → v.cell ≡ w.cell → v.output ≡ w.output → v ≡ w
same_source v w a b = ap (λ (c : ℕ). made c v.output) a ∙ ap (λ (o : ℕ). made w.cell o) b

module _ (outputs : ℕ) (last : Bool) (lower upper : PlacedRow) (seated_lower : AreSeated 0 lower.cells lower.slots)
    (seated : AreSeated 0 upper.cells upper.slots) (above : RowAbove outputs last lower.cells upper.cells) where
  pin_before : (w : Link) → User lower upper w → w.source.output < outputs_at (slice_get lower.cells w.source.cell)
  pin_before w pin = (above.stands pin.number pin.cell pin.here).before pin.pin w.source pin.fed

  -- pins with one source are one pin
  pub pins_same : (v w : Link) → User lower upper v → User lower upper w → v.source ≡ w.source → v.to ≡ w.to
  pins_same v w a b e =
      let one = above.feeds_one a.number b.number a.pin b.pin w.source
      (ap (λ (o : Option RowCell). fed_at o a.pin) a.here ∙ a.fed ∙ ap (λ (s : Source). Some s) e)
      (ap (λ (o : Option RowCell). fed_at o b.pin) b.here ∙ b.fed) in
      a.to_is ∙ ap (λ (c : ℕ). slice_index_or upper.slots c 0 + a.pin) one.0
      ∙ ap (λ (i : ℕ). slice_index_or upper.slots b.number 0 + i) one.1 ∙ sym b.to_is

  -- wires that end in one slot have one user, and so have wires that begin in one
  pub one_user : (v w : Link) (a : User lower upper v) (b : User lower upper w) → v.to ≡ w.to
      → (a.number ≡ b.number) × (a.pin ≡ b.pin)
  one_user v w a b e =
      let fits = λ (u : Link) (x : User lower upper u). fed_pin_fits outputs last lower.cells x.cell
      (above.stands x.number x.cell x.here) x.pin u.source x.fed in
      seated_apart 0 upper.cells upper.slots seated a.number b.number a.pin b.pin a.cell b.cell a.here b.here (fits v a)
      (fits w b) (sym a.to_is ∙ e ∙ b.to_is)

  pub sources_apart : (v w : Link) → User lower upper v → User lower upper w → v.from ≡ w.from → v.to ≡ w.to
  sources_apart v w a b e =
      let there = outputs_there (slice_get lower.cells v.source.cell) v.source.output (pin_before v a) in
      let there' = outputs_there (slice_get lower.cells w.source.cell) w.source.output (pin_before w b) in
      let one = seated_apart 0 lower.cells lower.slots seated_lower v.source.cell w.source.cell v.source.output
      w.source.output there.0 there'.0 there.1 there'.1
      there.2 there'.2 (sym a.from_is ∙ e ∙ b.from_is) in
      pins_same v w a b (same_source v.source w.source one.0 one.1)

  pub channel_known : IsChannel (channel_links lower upper) (channel_slots lower upper)
  channel_known =
      let ws = channel_links lower upper in
      let pins = users lower upper in
      let fits = λ (c i : ℕ) (cell : RowCell) (s : Source) (here : slice_get upper.cells c ≡ Some cell)
      (is : source_at cell i ≡ Some s).
      fed_pin_fits outputs last lower.cells cell (above.stands c cell here) i s is in
      let apart = (links_apart lower.slots 0 upper.cells upper.slots seated fits).1 in
      record {
        from_apart = pairs_also (λ (v : Link) (w : Link). v.to ≡ w.to → ⊥)
            (λ (v : Link) (w : Link). v.from ≡ w.from → ⊥) (User lower upper)
            (λ v w a b ne e. ne (sources_apart v w a b e)) ws pins apart;
        to_apart = apart;
        from_below = pins_all (λ (w : Link). w.from < channel_slots lower upper) lower.slots upper.cells
            upper.slots (λ c i cell s here is.
            let there = outputs_there (slice_get lower.cells s.cell) s.output
            ((above.stands c cell here).before i s is) in
            let within = within_span 0 lower.cells lower.slots seated_lower s.cell s.output there.0 there.1 there.2 in
            omega (arith, within));
        to_below = pins_all (λ (w : Link). w.to < channel_slots lower upper) lower.slots upper.cells
            upper.slots (λ c i cell s here is.
            let within = within_span 0 upper.cells upper.slots seated c i cell here (fits c i cell s here is) in
            omega (arith, within));
      }
