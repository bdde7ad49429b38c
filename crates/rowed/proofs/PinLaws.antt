-- Laws of pins and slots: each fed pin of a row is a wire and each wire is one, and cells that share no slot share no
-- pin's slot.
use Rattle.std.specs.Prelude.{◌≡◌, ℕ, zero, suc, ◌+◌, ◌<◌, ◌≤◌, List, [], ◌∷◌, length, slice_get, slice_index_or}
use Rattle.std.specs.Prelude.{Option, Some, None}
use Rattle.std.proofs.Common.{refl, ap, ◌∙◌, subst, arith, inl, inr}
use Rattle.std.specs.List.{AllByRecursion}
use Rattle.std.proofs.lemmas.Bool.{cases_lt}
use Rattle.std.proofs.lemmas.Option.{none-some, same_Some}
use Rattle.circuit.specs.CellKinds.{slots_of}
use Rattle.rowed.specs.declared.source.Source.{Source}
use Rattle.rowed.specs.declared.row_cell.RowCell.{RowCell}
use Rattle.rowed.specs.RowCells.{source_at}
use Rattle.rowed.specs.Slots.{AreSeated, span_of}
use Rattle.rowed.specs.Limits.{slot_limit}
use Rattle.rowed.specs.PlacedNets.{PlacedRow}
use Rattle.rowed.specs.Channels.{Link, source_slot, pin_link, links, channel_links, User}

-- the wire to a slot from a source
abbrev pub wire_to : List ℕ → ℕ → Source → Link
wire_to lower slot s = record { from = source_slot lower s; to = slot; source = s }

pin_all : (P : Link → Type 0) (lower : List ℕ) (slot : ℕ) (o : Option Source) (more : List Link)
    → ((s : Source) → o ≡ Some s → P (wire_to lower slot s)) → AllByRecursion P more
    → AllByRecursion P (pin_link lower slot o more)
pin_all P lower slot None more here rest = rest
pin_all P lower slot (Some s) more here rest = (here s refl, rest)

-- what holds of each fed pin holds of each wire
pub pins_all : (P : Link → Type 0) (lower : List ℕ) (cells : List RowCell) (slots : List ℕ)
    → ((c i : ℕ) (cell : RowCell) (s : Source) → slice_get cells c ≡ Some cell → source_at cell i ≡ Some s
    → P (wire_to lower (slice_index_or slots c 0 + i) s))
    → AllByRecursion P (links lower cells slots)
pins_all P lower [] slots each = tt
pins_all P lower (cell ∷ cells) [] each = tt
pins_all P lower (cell ∷ cells) (slot ∷ slots) each =
    let at = λ (m n : ℕ) (e : m ≡ n) (s : Source)
    (h : P (wire_to lower m s)). subst (λ (k : ℕ). P (wire_to lower k s)) e h in
    let more2 = links lower cells slots in
    let more1 = pin_link lower (suc (suc slot)) cell.source2 more2 in
    let more0 = pin_link lower (suc slot) cell.source1 more1 in
    pin_all P lower slot cell.source0 more0 (λ s is. at (slot + 0) slot (omega arith) s (each 0 0 cell s refl is))
    (pin_all P lower (suc slot) cell.source1 more1
    (λ s is. at (slot + 1) (suc slot) (omega arith) s (each 0 1 cell s refl is))
    (pin_all P lower (suc (suc slot)) cell.source2 more2
    (λ s is. at (slot + 2) (suc (suc slot)) (omega arith) s (each 0 2 cell s refl is))
    (pins_all P lower cells slots (λ c i x s here is. each (suc c) i x s here is))))

-- each wire has its user
pub users : (lower upper : PlacedRow) → AllByRecursion (User lower upper) (channel_links lower upper)
users lower upper = pins_all (User lower upper) lower.slots upper.cells upper.slots (λ c i cell s here is. record {
  number = c;
  pin = i;
  cell = cell;
  here = here;
  fed = is;
  from_is = refl;
  to_is = refl;
})

-- what holds of each wire holds of each fed pin
pin_first : (P : Link → Type 0) (lower : List ℕ) (slot : ℕ) (o : Option Source) (more : List Link) (s : Source)
    → AllByRecursion P (pin_link lower slot o more) → o ≡ Some s → P (wire_to lower slot s)
pin_first P lower slot None more s all is = absurd (none-some s is)
pin_first P lower slot (Some t) more s all is =
    subst (λ (u : Source). P (wire_to lower slot u)) (same_Some t s is) all.0

pin_rest : (P : Link → Type 0) (lower : List ℕ) (slot : ℕ) (o : Option Source) (more : List Link)
    → AllByRecursion P (pin_link lower slot o more)
    → AllByRecursion P more
pin_rest P lower slot None more all = all
pin_rest P lower slot (Some t) more all = all.1

pub all_pins : (P : Link → Type 0) (lower : List ℕ) (cells : List RowCell) (slots : List ℕ)
    → length slots ≡ length cells
    → AllByRecursion P (links lower cells slots)
    → (c i : ℕ) (cell : RowCell) (s : Source) → slice_get cells c ≡ Some cell → source_at cell i ≡ Some s
    → P (wire_to lower (slice_index_or slots c 0 + i) s)
all_pins P lower [] slots long all c i cell s here is = absurd (none-some cell here)
all_pins P lower (x ∷ cells) [] long all c i cell s here is = absurd (omega (arith, long))
all_pins P lower (x ∷ cells) (slot ∷ slots) long all (suc c) i cell s here is =
    all_pins P lower cells slots (omega (arith, long))
    (pin_rest P lower (suc (suc slot)) x.source2 (links lower cells slots)
    (pin_rest P lower (suc slot) x.source1 (pin_link lower (suc (suc slot)) x.source2 (links lower cells slots))
    (pin_rest P lower slot x.source0
    (pin_link lower (suc slot) x.source1
    (pin_link lower (suc (suc slot)) x.source2 (links lower cells slots))) all)))
    c i cell s here is
all_pins P lower (x ∷ cells) (slot ∷ slots) long all zero i cell s here is =
    go i (ap (λ (y : RowCell). source_at y i) (same_Some x cell here) ∙ is)
  where
    more1 : List Link
    more1 = pin_link lower (suc (suc slot)) x.source2 (links lower cells slots)

    more0 : List Link
    more0 = pin_link lower (suc slot) x.source1 (pin_link lower (suc (suc slot)) x.source2 (links lower cells slots))

    at : (m n : ℕ) → m ≡ n → P (wire_to lower m s) → P (wire_to lower n s)
    at m n e h = subst (λ (k : ℕ). P (wire_to lower k s)) e h

    go : (i : ℕ) → source_at x i ≡ Some s → P (wire_to lower (slot + i) s)
    go zero is = at slot (slot + 0) (omega arith) (pin_first P lower slot x.source0 more0 s all is)
    go (suc zero) is = at (suc slot) (slot + 1) (omega arith)
        (pin_first P lower (suc slot) x.source1 more1 s (pin_rest P lower slot x.source0 more0 all) is)
    go (suc (suc zero)) is =
        at (suc (suc slot)) (slot + 2) (omega arith)
        (pin_first P lower (suc (suc slot)) x.source2 (links lower cells slots) s
        (pin_rest P lower (suc slot) x.source1 more1 (pin_rest P lower slot x.source0 more0 all)) is)
    go (suc (suc (suc i))) is = absurd (none-some s is)

-- the slots of cells
pub seated_length : (b : ℕ) (cells : List RowCell) (slots : List ℕ) → AreSeated b cells slots
    → length slots ≡ length cells
seated_length b [] [] seated = refl
seated_length b [] (slot ∷ slots) seated = absurd seated
seated_length b (cell ∷ cells) [] seated = absurd seated
seated_length b (cell ∷ cells) (slot ∷ slots) seated =
    ap suc (seated_length (slot + slots_of cell.kind) cells slots seated.2)

seated_from : (b : ℕ) (cells : List RowCell) (slots : List ℕ) → AreSeated b cells slots → (c : ℕ) (cell : RowCell)
    → slice_get cells c ≡ Some cell
    → b ≤ slice_index_or slots c 0
seated_from b [] slots seated c cell here = absurd (none-some cell here)
seated_from b (x ∷ cells) [] seated c cell here = absurd seated
seated_from b (x ∷ cells) (slot ∷ slots) seated zero cell here = seated.0
seated_from b (x ∷ cells) (slot ∷ slots) seated (suc c) cell here =
    omega (arith, seated.0, seated_from (slot + slots_of x.kind) cells slots seated.2 c cell here)

seated_later : (b : ℕ) (cells : List RowCell) (slots : List ℕ) → AreSeated b cells slots → (c d : ℕ) (x y : RowCell)
    → slice_get cells c ≡ Some x → slice_get cells d ≡ Some y → c < d
    → slice_index_or slots c 0 + slots_of x.kind ≤ slice_index_or slots d 0
seated_later b [] slots seated c d x y here there lt = absurd (none-some x here)
seated_later b (z ∷ cells) [] seated c d x y here there lt = absurd seated
seated_later b (z ∷ cells) (slot ∷ slots) seated zero zero x y here there lt = absurd (omega arith)
seated_later b (z ∷ cells) (slot ∷ slots) seated zero (suc d) x y here there lt =
    let same : slots_of z.kind ≡ slots_of x.kind = ap (λ (w : RowCell). slots_of w.kind) (same_Some z x here) in
    omega (arith, same, seated_from (slot + slots_of z.kind) cells slots seated.2 d y there)
seated_later b (z ∷ cells) (slot ∷ slots) seated (suc c) zero x y here there lt = absurd (omega arith)
seated_later b (z ∷ cells) (slot ∷ slots) seated (suc c) (suc d) x y here there lt =
    seated_later (slot + slots_of z.kind) cells slots seated.2 c d x y here there (omega arith)

-- a slot belongs to one cell
pub seated_apart : (b : ℕ) (cells : List RowCell) (slots : List ℕ) → AreSeated b cells slots
    → (c d i j : ℕ) (x y : RowCell)
    → slice_get cells c ≡ Some x → slice_get cells d ≡ Some y → i < slots_of x.kind → j < slots_of y.kind
    → slice_index_or slots c 0 + i ≡ slice_index_or slots d 0 + j → (c ≡ d) × (i ≡ j)
seated_apart b cells slots seated c d i j x y here there below below' e = elim (cases_lt c d) [
  | inl lt ↦ absurd (omega (arith, e, seated_later b cells slots seated c d x y here there lt))
  | inr ge ↦ elim (cases_lt d c) [
    | inl lt ↦ absurd (omega (arith, e, seated_later b cells slots seated d c y x there here lt))
    | inr le ↦
        let same : c ≡ d = omega arith in
        (same, omega (arith, e, ap (λ (k : ℕ). slice_index_or slots k 0) same))
  ]
]

-- and lies within the span of the row, which is within the limit
pub within_span : (b : ℕ) (cells : List RowCell) (slots : List ℕ) → AreSeated b cells slots → (c i : ℕ) (cell : RowCell)
    → slice_get cells c ≡ Some cell → i < slots_of cell.kind → slice_index_or slots c 0 + i < span_of cells slots
within_span b [] slots seated c i cell here lt = absurd (none-some cell here)
within_span b (x ∷ cells) [] seated c i cell here lt = absurd seated
within_span b (x ∷ cells) (slot ∷ slots) seated zero i cell here lt =
    let same : slots_of x.kind ≡ slots_of cell.kind = ap (λ (w : RowCell). slots_of w.kind) (same_Some x cell here) in
    omega (arith, same)
within_span b (x ∷ cells) (slot ∷ slots) seated (suc c) i cell here lt =
    omega (arith, within_span (slot + slots_of x.kind) cells slots seated.2 c i cell here lt)

pub span_limit : (b : ℕ) (cells : List RowCell) (slots : List ℕ) → AreSeated b cells slots
    → span_of cells slots ≤ slot_limit
span_limit b [] slots seated = omega arith
span_limit b (cell ∷ cells) [] seated = absurd seated
span_limit b (cell ∷ cells) (slot ∷ slots) seated =
    omega (arith, seated.1, span_limit (slot + slots_of cell.kind) cells slots seated.2)
