-- Every placed net and every library keep what the drawing uses.
use Rattle.std.proofs.Common.{◌≡◌, ℕ, zero, suc, pred, ◌+◌, ◌<◌, ◌≤◌, true, ltb, refl, sym, ap, subst, ◌∙◌, arith, List}
use Rattle.std.proofs.Common.{[], ◌∷◌, length, Option, Some, None, is_some, slice_get, slice_index_or}
use Rattle.std.specs.List.{AllByRecursion}
use Rattle.std.proofs.lemmas.Option.{same_Some}
use Rattle.std.proofs.lemmas.Bool.{eq-eqb, eqb-true}
use Rattle.std.proofs.lemmas.Bool.Decides.{nat_tests}
use Rattle.circuit.specs.CellKinds.{inputs_of, outputs_of, slots_of}
use Rattle.circuit.specs.declared.cell_kind.CellKind.{CellKind}
use Rattle.circuit.specs.declared.cell_kind.CellKind.TheVariants.{Buffer}
use Rattle.rowed.specs.declared.source.Source.{Source}
use Rattle.rowed.specs.declared.row_cell.RowCell.{RowCell}
use Rattle.rowed.specs.declared.wire.Wire.{Wire}
use Rattle.rowed.specs.RowCells.{source_at}
use Rattle.rowed.specs.RowNets.{row_at, cell_at, outputs_at, fed_at, input_at, output_at, is_input, pins_at, MayStand}
use Rattle.rowed.specs.RowNets.{last_of}
use Rattle.rowed.specs.Slots.{AreSeated, EachSeated}
use Rattle.rowed.specs.PlacedNets.{PlacedView, IsPlaced}
use Rattle.channel_route.specs.Crossing.{EndsApart}
use Rattle.channel_route.specs.Tracks.{AreTracks, route_of, tracks_used, column_of}
use Rattle.cell_library.specs.declared.laws.Law.TheVariants.{EvenSizes, EvenColumns, ViaInWire, TracksApart, PinsApart}
use Rattle.cell_library.specs.declared.laws.Law.TheVariants.{WireInPin}
use Rattle.cell_library.specs.Library.{LibraryView, IsGiven}
use Rattle.cell_library.specs.Laws.{IsLibrary}
use Rattle.cell_library.proofs.PlacedPins.{places_pins}
use Rattle.layout_make.proofs.Lawful.{IsLawful}
use Rattle.layout_make.specs.Spots.{Spot, spots_of, spots, AreGiven, IsInput, has_port, input_port, output_port}
use Rattle.layout_make.proofs.ReadyNets.{Packed, TakesFrom, IsReady, HasPorts, PortsAll}
use Rattle.layout_make.specs.MayDraw.{GivesKinds, MayDraw}

pub lawful : (l : LibraryView) → IsLibrary l → IsLawful l
lawful l known =
    let pins = places_pins l known in
    let ranges = known.draft.ranges in
    record {
      space_some = ranges.space_some;
      via_some = ranges.via_some;
      columns_some = ranges.columns_some;
      wire_even = known.laws EvenSizes 0 0 (omega arith);
      via_even = known.laws EvenSizes 2 0 (omega arith);
      pin_even = known.laws EvenSizes 4 0 (omega arith);
      pitch_even = known.laws EvenSizes 6 0 (omega arith);
      columns_even = known.laws EvenColumns;
      encloses = known.laws ViaInWire;
      spaced = known.laws TracksApart;
      tall = known.laws PinsApart;
      pin_wide = known.laws WireInPin;
      input_least = pins.input_least;
      input_most = pins.input_most;
      output_least = pins.output_least;
      output_most = pins.output_most;
      input_odd = pins.input_odd;
      output_even = pins.output_even;
    }

-- rows and their slots

seated_row : (rows : List (List RowCell)) (slots : List (List ℕ)) (r : ℕ) → EachSeated rows slots
    → AreSeated 0 (row_at rows r) (slice_index_or slots r [])
seated_row [] [] r h = tt
seated_row [] (s ∷ slots) r h = absurd h
seated_row (row ∷ rows) [] r h = absurd h
seated_row (row ∷ rows) (s ∷ slots) zero h = h.0
seated_row (row ∷ rows) (s ∷ slots) (suc r) h = seated_row rows slots r h.1

packed_seats : (b : ℕ) (cells : List RowCell) (slots : List ℕ) → AreSeated b cells slots
    → Packed b (spots_of cells slots)
packed_seats b [] slots h = tt
packed_seats b (c ∷ cells) [] h = tt
packed_seats b (c ∷ cells) (s ∷ slots) h = (h.0, packed_seats (s + slots_of c.kind) cells slots h.2)

pub spot_cell : (cells : List RowCell) (slots : List ℕ) (n : ℕ) (x : Spot) → slice_get (spots_of cells slots) n ≡ Some
    x → slice_get cells n ≡ Some x.cell
spot_cell [] slots n x e = absurd (let k : slice_get (spots_of [] slots) n ≡ Some x = e in cc)
spot_cell (c ∷ cells) [] n x e = absurd cc
spot_cell (c ∷ cells) (s ∷ slots) zero x e = ap (λ (z : Spot). Some z.cell) (same_Some _ _ e)
spot_cell (c ∷ cells) (s ∷ slots) (suc n) x e = spot_cell cells slots n x e

seat_of : (b : ℕ) (cells : List RowCell) (slots : List ℕ) (n : ℕ) (c : RowCell) → AreSeated b cells slots
    → slice_get cells n ≡ Some c → (x : Spot) × (slice_get (spots_of cells slots) n ≡ Some x) × (x.cell ≡ c)
seat_of b [] slots n c h e = absurd cc
seat_of b (d ∷ cells) [] n c h e = absurd h
seat_of b (d ∷ cells) (s ∷ slots) zero c h e = (record { cell = d; slot = s }, refl, same_Some _ _ e)
seat_of b (d ∷ cells) (s ∷ slots) (suc n) c h e = seat_of (s + slots_of d.kind) cells slots n c h.2 e

-- the cell of a row with its slot
pub spot_at : (p : PlacedView) → IsPlaced p → (r n : ℕ) (c : RowCell) → cell_at p.net.rows r n ≡ Some c
    → (x : Spot) × (slice_get (spots p r) n ≡ Some x) × (x.cell ≡ c)
spot_at p is r n c e = seat_of 0 (row_at p.net.rows r) (slice_index_or p.slots r []) n c
    (seated_row p.net.rows p.slots r is.seated) e

pub cell_of : (p : PlacedView) (r n : ℕ) (x : Spot) → slice_get (spots p r) n ≡ Some x
    → cell_at p.net.rows r n ≡ Some x.cell
cell_of p r n x e = spot_cell (row_at p.net.rows r) (slice_index_or p.slots r []) n x e

pub stands_at : (p : PlacedView) → IsPlaced p → (r n : ℕ) (x : Spot) → slice_get (spots p r) n ≡ Some x
    → MayStand p.net r x.cell
stands_at p is r n x e = is.net_keeps.stands r n x.cell (cell_of p r n x e)

pub pins_most : (r : ℕ) (k : CellKind) → pins_at r k ≤ inputs_of k
pins_most zero Buffer = omega arith
pins_most zero k = omega arith
pins_most (suc r) k = omega arith

pub some_value : {A : Type 0} (o : Option A) → is_some o ≡ true → (x : A) × (o ≡ Some x)
some_value None e = absurd cc
some_value (Some x) e = (x, refl)

pub some_true : {A : Type 0} (o : Option A) (x : A) → o ≡ Some x → is_some o ≡ true
some_true o x e = ap is_some e

less_true : (a b : ℕ) → a < b → ltb a b ≡ true
less_true a b h = grind (arith, nat_tests)

true_less : (a b : ℕ) → ltb a b ≡ true → a < b
true_less a b h = grind (arith, nat_tests)

cell_some : (o : Option RowCell) (n : ℕ) → n < outputs_at o → (c : RowCell) × (o ≡ Some c) × (n < outputs_of c.kind)
cell_some None n lt = absurd (omega arith)
cell_some (Some c) n lt = (c, refl, lt)

pub pin_below : (p : PlacedView) → IsPlaced p → (r n i : ℕ) (x : Spot) (s : Source) → slice_get (spots p r) n ≡ Some x
    → source_at x.cell i ≡ Some s → i < inputs_of x.cell.kind
pin_below p is r n i x s at e =
    let stand = stands_at p is r n x at in
    let lt = true_less i (pins_at r x.cell.kind) (sym (stand.fed i) ∙ some_true (source_at x.cell i) s e) in
    let most = pins_most r x.cell.kind in
    omega arith

pub source_there : (p : PlacedView) → IsPlaced p → (r n i : ℕ) (x : Spot) → IsInput p (suc r) n i x → TakesFrom p r i x
source_there p is r n i x input =
    let stand = stands_at p is (suc r) n x input.at in
    let s = some_value (source_at x.cell i) (stand.fed i ∙ less_true i (inputs_of x.cell.kind) input.below) in
    let c = cell_some (cell_at p.net.rows r s.0.cell) s.0.output (stand.before i s.0 s.1) in
    let y = spot_at p is r s.0.cell c.0 c.1 in
    record {
      source = s.0;
      from = y.0;
      source_is = s.1;
      is_output = record { at = y.1; below = subst (λ (z : RowCell). s.0.output < outputs_of z.kind) (sym y.2) c.2 };
    }

pub ready : (p : PlacedView) (l : LibraryView) → IsPlaced p → ((r : ℕ) → AreGiven l (spots p r))
    → ((ws : List Wire) → EndsApart ws → AreTracks ws (route_of ws) (tracks_used ws) (column_of ws)) → IsReady p l
ready p l is given routes = record {
  rows_some = let k = is.net_keeps.two_rows in omega arith;
  packed = λ r. packed_seats 0 (row_at p.net.rows r) (slice_index_or p.slots r [])
      (seated_row p.net.rows p.slots r is.seated);
  given = given;
  some_cell = λ r lt. (let x = first (row_at p.net.rows r) (is.net_keeps.none_empty r lt) in
      let s = spot_at p is r 0 x.0 x.1 in (s.0, s.1));
  pins = λ r n i x s at e. pin_below p is r n i x s at e;
  sourced = λ r n i x input. source_there p is r n i x input;
  routes = routes;
  one_user = λ r n m i j x y s ax ay ex ey.
      is.net_keeps.feeds_one (suc r) n m i j s (ap (λ (o : Option RowCell). fed_at o i) (cell_of p (suc r) n x ax)
      ∙ ex) (ap (λ (o : Option RowCell). fed_at o j) (cell_of p (suc r) m y ay) ∙ ey);
}
  where
    first : (cells : List RowCell) → 0 < length cells → (c : RowCell) × (slice_get cells 0 ≡ Some c)
    first [] lt = absurd (omega arith)
    first (c ∷ cells) lt = (c, refl)

-- ports

pub port_is : (o : Option ℕ) (n : ℕ) → has_port o n ≡ true → o ≡ Some n
port_is None n e = absurd cc
port_is (Some m) n e = ap (λ (k : ℕ). Some k) (eqb-true m n e)

pub is_port : (o : Option ℕ) (n : ℕ) → o ≡ Some n → has_port o n ≡ true
is_port o n e = ap (λ (q : Option ℕ). has_port q n) e ∙ eq-eqb n n refl

pub buffer_of : (k : CellKind) → is_input 0 k ≡ true → k ≡ Buffer
buffer_of Buffer e = refl
buffer_of k e = absurd cc

choice_at : (choose : RowCell → Option ℕ) → Option RowCell → Option ℕ
choice_at choose None = None
choice_at choose (Some c) = choose c

cell_there : (choose : RowCell → Option ℕ) (o : Option RowCell) (n : ℕ) → choice_at choose o ≡ Some n
    → (c : RowCell) × (o ≡ Some c) × (choose c ≡ Some n)
unfolding choice_at
cell_there choose None n e = absurd cc
cell_there choose (Some c) n e = (c, refl, e)

input_choice : (o : Option RowCell) → choice_at input_port o ≡ input_at o
unfolding choice_at
input_choice None = refl
input_choice (Some c) = refl

output_choice : (o : Option RowCell) → choice_at output_port o ≡ output_at o
unfolding choice_at
output_choice None = refl
output_choice (Some c) = refl

pub input_ports : (p : PlacedView) → IsPlaced p → HasPorts p input_port 0 p.net.inputs
input_ports p is = record {
  some = λ n lt.
      let one = is.net_keeps.each_input n lt in
      let c = cell_there input_port (cell_at p.net.rows 0 one.which) n (input_choice (cell_at p.net.rows 0 one.which)
      ∙ one.there) in
      let x = spot_at p is 0 one.which c.0 c.1 in
      let port : input_port x.0.cell ≡ Some n = ap input_port x.2 ∙ c.2 in
      let stand = stands_at p is 0 one.which x.0 x.1 in (
        one.which,
        record {
          spot = x.0;
          at = x.1;
          has = is_port (input_port x.0.cell) n port;
          buffer = buffer_of x.0.cell.kind (sym stand.input ∙ some_true (input_port x.0.cell) n port);
        },
      );
  once = λ n k m x y ax ay hx hy.
      let px = port_is (input_port x.cell) n hx in
      let py = port_is (input_port y.cell) n hy in
      let lt = (stands_at p is 0 k x ax).input_below n px in
      let one = is.net_keeps.each_input n lt in
      one.only k (ap input_at (cell_of p 0 k x ax) ∙ px) ∙ sym (one.only m (ap input_at (cell_of p 0 m y ay) ∙ py));
}

pub last_suc : (p : PlacedView) → 1 ≤ length p.net.rows → suc (last_of p.net.rows) ≡ length p.net.rows
last_suc p some = go (length p.net.rows) some
  where
    go : (n : ℕ) → 1 ≤ n → suc (pred n) ≡ n
    go zero h = absurd (omega arith)
    go (suc n) h = refl

pub output_ports : (p : PlacedView) → IsPlaced p → HasPorts p output_port (last_of p.net.rows) p.net.outputs
output_ports p is =
    let r = last_of p.net.rows in
    let suc_r = last_suc p (let k = is.net_keeps.two_rows in omega arith) in
    record {
      some = λ n lt.
          let one = is.net_keeps.each_output n lt in
          let c = cell_there output_port (cell_at p.net.rows r one.which) n
          (output_choice (cell_at p.net.rows r one.which) ∙ one.there) in
          let x = spot_at p is r one.which c.0 c.1 in
          let port : output_port x.0.cell ≡ Some n = ap output_port x.2 ∙ c.2 in
          let stand = stands_at p is r one.which x.0 x.1 in (
            one.which,
            record {
              spot = x.0;
              at = x.1;
              has = is_port (output_port x.0.cell) n port;
              buffer = stand.last_kind suc_r;
            },
          );
      once = λ n k m x y ax ay hx hy.
          let px = port_is (output_port x.cell) n hx in
          let py = port_is (output_port y.cell) n hy in
          let lt = (stands_at p is r k x ax).output_below n px in
          let one = is.net_keeps.each_output n lt in
          one.only k (ap output_at (cell_of p r k x ax) ∙ px)
          ∙ sym (one.only m (ap output_at (cell_of p r m y ay) ∙ py));
    }

pub all_inputs : (p : PlacedView) → IsPlaced p → PortsAll p input_port (λ c. inputs_of c.kind) 0 p.net.inputs
all_inputs p is k x at some =
    let stand = stands_at p is 0 k x at in
    let n = some_value (input_port x.cell)
    (stand.input
    ∙ enters x.cell.kind some
    (λ more. (let s = some_value (source_at x.cell 0) (stand.fed 0 ∙ less_true 0 (pins_at 0 x.cell.kind) more) in
    stand.before 0 s.0 s.1))) in (
      n.0,
      stand.input_below n.0 n.1,
      is_port (input_port x.cell) n.0 n.1,
      buffer_of x.cell.kind
          (sym stand.input ∙ some_true (input_port x.cell) n.0 n.1),
    )
  where
    enters : (k : CellKind) → 0 < inputs_of k → (0 < pins_at 0 k → ⊥) → is_input 0 k ≡ true
    enters Buffer lt none = refl
    enters k lt none = absurd (none (omega arith))

pub all_outputs : (p : PlacedView) → IsPlaced p → PortsAll p output_port (λ c. outputs_of c.kind) (last_of p.net.rows)
    p.net.outputs
all_outputs p is k x at some =
    let r = last_of p.net.rows in
    let suc_r = last_suc p (let k = is.net_keeps.two_rows in omega arith) in
    let stand = stands_at p is r k x at in
    let n = some_value (output_port x.cell) (stand.output ∙ eq-eqb (suc r) (length p.net.rows) suc_r) in
    (n.0, stand.output_below n.0 n.1, is_port (output_port x.cell) n.0 n.1, stand.last_kind suc_r)

-- kinds that a library gives

given_in : (l : LibraryView) (cells : List RowCell) (slots : List ℕ)
    → AllByRecursion (λ (cell : RowCell). IsGiven l cell.kind) cells → AreGiven l (spots_of cells slots)
given_in l [] slots all n x e = absurd (let k : slice_get (spots_of [] slots) n ≡ Some x = e in cc)
given_in l (c ∷ cells) [] all n x e = absurd cc
given_in l (c ∷ cells) (s ∷ slots) all zero x e = subst (λ (z : Spot). IsGiven l z.cell.kind) (same_Some _ _ e) all.0
given_in l (c ∷ cells) (s ∷ slots) all (suc n) x e = given_in l cells slots all.1 n x e

pub given_rows : (l : LibraryView) (rows : List (List RowCell)) (slots : List (List ℕ)) → GivesKinds l rows → (r : ℕ)
    → AreGiven l (spots_of (row_at rows r) (slice_index_or slots r []))
given_rows l [] slots all r n x e =
    absurd (let k : slice_get (spots_of [] (slice_index_or slots r [])) n ≡ Some x = e in cc)
given_rows l (row ∷ rows) [] all r n x e = given_in l (row_at (row ∷ rows) r) [] (all_at (row ∷ rows) r all) n x e
  where
    all_at : (rows : List (List RowCell)) (r : ℕ) → GivesKinds l rows
        → AllByRecursion (λ (cell : RowCell). IsGiven l cell.kind) (row_at rows r)
    all_at [] r all = tt
    all_at (row ∷ rows) zero all = all.0
    all_at (row ∷ rows) (suc r) all = all_at rows r all.1
given_rows l (row ∷ rows) (s ∷ slots) all zero n x e = given_in l row s all.0 n x e
given_rows l (row ∷ rows) (s ∷ slots) all (suc r) n x e = given_rows l rows slots all.1 r n x e

abbrev pub TracksLaw : Type 0
TracksLaw = (ws : List Wire) → EndsApart ws → AreTracks ws (route_of ws) (tracks_used ws) (column_of ws)

pub may_ready : (p : PlacedView) (l : LibraryView) → TracksLaw → MayDraw p l → IsReady p l
may_ready p l law may = ready p l may.placed (given_rows l p.net.rows p.slots may.given) law
