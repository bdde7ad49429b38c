-- The circuit of a drawing answers every word as the placed net does.
use Rattle.std.proofs.Common.{◌≡◌, ℕ, zero, suc, pred, ◌+◌, ◌<◌, Bool, true, false, refl, sym, ap, ◌∙◌, arith, List, []}
use Rattle.std.proofs.Common.{◌∷◌, length, map, Option, Some, None, slice_get, slice_index_or}
use Rattle.std.specs.List.{flat_map}
use Rattle.std.proofs.lemmas.Option.{same_Some, slice_get_within, get_or_from_slice_get}
use Rattle.std.proofs.lemmas.List.{ext_get_or, length-map}
use Rattle.circuit.specs.Function.{value_of}
use Rattle.circuit.specs.declared.cell_kind.CellKind.{CellKind}
use Rattle.circuit.specs.declared.cell_kind.CellKind.TheVariants.{Buffer}
use Rattle.circuit.specs.SameAnswers.{SameAnswers}
use Rattle.rowed.specs.declared.source.Source.{Source}
use Rattle.rowed.specs.declared.row_cell.RowCell.{RowCell}
use Rattle.rowed.specs.RowCells.{source_value, bit_or}
use Rattle.rowed.specs.RowCells as rowed
use Rattle.rowed.specs.RowNets.{cell_at, outputs_at, output_at, is_input, IsBefore, MayStand, last_of, IsAnswer}
use Rattle.rowed.specs.PlacedNets.{PlacedView, IsPlaced}
use Rattle.sorting.specs.Numbers.{numbers}
use Rattle.circuit_extracted.specs.declared.cells.ExCell.{ExCell}
use Rattle.circuit_extracted.specs.Answers.{feed_value, cell_value, values_at}
use Rattle.circuit_extracted.specs.Answers as extracted
use Rattle.layout_make.specs.Spots.{spots, has_port, output_port}
use Rattle.layout_make.specs.declared.spots.Spot.{Spot}
use Rattle.layout_realises.specs.DrawnCircuit.{cells_below, source_feed, port_feed, drawn_cell, drawn_row, output_place}
use Rattle.layout_realises.specs.DrawnCircuit.{output_source, drawn_circuit}
use Rattle.layout_make.proofs.Joins.{from_map, to_map}
use Rattle.layout_make.proofs.Ready.{spot_at, cell_of, stands_at, last_suc, output_ports, buffer_of, is_port, port_is}
use Rattle.layout_make.proofs.Ready.{some_true}
use Rattle.layout_make.proofs.Whole.{spot_row}
use Rattle.layout_realises.proofs.RowByRow.{item_at, item_from}

module _ (p : PlacedView) (is : IsPlaced p) where
  rows_long : (r : ℕ) → cells_below p (suc r) ≡ cells_below p r + length (drawn_row p r)
  rows_long r = ap (λ (n : ℕ). cells_below p r + n) (sym (length-map (spots p r) (drawn_cell p r)))

  -- cell n of row r, by its number in the circuit
  pub cell_number : (r n : ℕ) (x : Spot) → r < length p.net.rows → slice_get (spots p r) n ≡ Some x
      → slice_get (flat_map (drawn_row p) (numbers 0 (length p.net.rows))) (cells_below p r + n) ≡ Some
      (drawn_cell p r x)
  cell_number r n x lt e = item_at (drawn_row p) (cells_below p) refl rows_long (length p.net.rows) r n
      (drawn_cell p r x) lt (to_map (drawn_cell p r) (spots p r) n x e)

  -- and the other way
  pub record Numbered (c : ℕ) (cell : ExCell) : Type 0 where
    pub row : ℕ
    pub place : ℕ
    pub spot : Spot
    pub below : row < length p.net.rows
    pub number_is : c ≡ cells_below p row + place
    pub there : slice_get (spots p row) place ≡ Some spot
    pub cell_is : drawn_cell p row spot ≡ cell

  pub number_cell : (c : ℕ) (cell : ExCell) → slice_get (flat_map (drawn_row p) (numbers 0 (length p.net.rows)))
      c ≡ Some cell → Numbered c cell
  number_cell c cell e =
      let h = item_from (drawn_row p) (cells_below p) refl rows_long (length p.net.rows) c cell e in
      let x = from_map (drawn_cell p h.0) (spots p h.0) h.1 cell h.4 in
      record { row = h.0; place = h.1; spot = x.0; below = h.2; number_is = h.3; there = x.1; cell_is = x.2 }

  -- values by row and place, and by number

  abbrev pub Agrees : (ℕ → ℕ → Bool) → (ℕ → Bool) → Type 0
  Agrees v value = (r n : ℕ) (x : Spot) → slice_get (spots p r) n ≡ Some x → r < length p.net.rows
      → value (cells_below p r + n) ≡ v r n

  feed_same : (word : List Bool) (v : ℕ → ℕ → Bool) (value : ℕ → Bool) → Agrees v value → (r : ℕ)
      → r < length p.net.rows → (o : Option Source) → ((s : Source) → o ≡ Some s → IsBefore p.net.rows r s)
      → feed_value word value (source_feed (cells_below p (pred r)) o) ≡ source_value (v (pred r)) o
  feed_same word v value agrees r lt None from = refl
  feed_same word v value agrees zero lt (Some s) from = absurd (from s refl)
  feed_same word v value agrees (suc r) lt (Some s) from =
      let c = there (cell_at p.net.rows r s.cell) (from s refl) in
      let x = spot_at p is r s.cell c.0 c.1 in
      agrees r s.cell x.0 x.1 (omega arith)
    where
      there : (o : Option RowCell) → s.output < outputs_at o → (c : RowCell) × (o ≡ Some c)
      there None lt = absurd (omega arith)
      there (Some c) lt = (c, refl)

  value_same : (word : List Bool) (v : ℕ → ℕ → Bool) (value : ℕ → Bool) → Agrees v value → (r n : ℕ) (x : Spot)
      → r < length p.net.rows → slice_get (spots p r) n ≡ Some x
      → cell_value word value (drawn_cell p r x) ≡ rowed.cell_value word (v (pred r)) x.cell
  value_same word v value agrees r n x lt e = go x.cell.input refl
    where
      stand : MayStand p.net r x.cell
      stand = stands_at p is r n x e

      input_buffer : (r : ℕ) (k : CellKind) → is_input r k ≡ true → k ≡ Buffer
      input_buffer zero k e = buffer_of k e
      input_buffer (suc r) k e = absurd cc

      go : (o : Option ℕ) → x.cell.input ≡ o
          → value_of x.cell.kind
          (feed_value word value (port_feed o (source_feed (cells_below p (pred r)) x.cell.source0)))
          (feed_value word value (source_feed (cells_below p (pred r)) x.cell.source1))
          (feed_value word value (source_feed (cells_below p (pred r)) x.cell.source2)) ≡ bit_or word o
          (value_of x.cell.kind (source_value (v (pred r)) x.cell.source0) (source_value (v (pred r)) x.cell.source1)
          (source_value (v (pred r)) x.cell.source2))
      go None q =
          let a = feed_same word v value agrees r lt x.cell.source0 (stand.before 0) in
          let b = feed_same word v value agrees r lt x.cell.source1 (stand.before 1) in
          let c = feed_same word v value agrees r lt x.cell.source2 (stand.before 2) in
          rw (a, b, c) refl
      go (Some i) q =
          ap (λ (k : CellKind). value_of k (slice_index_or word i false)
          (feed_value word value (source_feed (cells_below p (pred r)) x.cell.source1))
          (feed_value word value (source_feed (cells_below p (pred r)) x.cell.source2)))
          (input_buffer r x.cell.kind (sym stand.input ∙ some_true x.cell.input i q))

  -- the value that a cell's output shows

  place_is : (n k : ℕ) (x : Spot) (xs : List Spot) → slice_get xs k ≡ Some x → has_port (output_port x.cell) n ≡ true
      → ((i j : ℕ) (y z : Spot) → slice_get xs i ≡ Some y → slice_get xs j ≡ Some z
      → has_port (output_port y.cell) n ≡ true → has_port (output_port z.cell) n ≡ true → i ≡ j) → output_place n xs ≡ k
  place_is n k x [] at has once = absurd cc
  place_is n k x (y ∷ xs) at has once = step (has_port (output_port y.cell) n) refl k at
      (λ j a. place_is n j x xs a has
      (λ i m u v p q r s. (let e : suc i ≡ suc m = once (suc i) (suc m) u v p q r s in omega arith)))
    where
      step : (b : Bool) → has_port (output_port y.cell) n ≡ b → (k : ℕ) → slice_get (y ∷ xs) k ≡ Some x
          → ((j : ℕ) → slice_get xs j ≡ Some x → output_place n xs ≡ j)
          → (elim b [ true ↦ 0 | false ↦ suc (output_place n xs) ]) ≡ k
      step true q zero at f = refl
      step true q (suc j) at f = absurd (let e : zero ≡ suc j = once zero (suc j) y x refl at q has in omega arith)
      step false q zero at f =
          absurd (let e : has_port (output_port y.cell) n ≡ true = ap (λ (z : Spot). has_port (output_port z.cell) n)
          (same_Some _ _ at) ∙ has in cc)
      step false q (suc j) at f = ap suc (f j at)

  -- where output n is shown
  pub record ShownAt (n : ℕ) : Type 0 where
    pub place : ℕ
    pub spot : Spot
    pub there : slice_get (spots p (last_of p.net.rows)) place ≡ Some spot
    pub has : has_port (output_port spot.cell) n ≡ true
    pub kind_is : spot.cell.kind ≡ Buffer
    pub source_is : (output_source p n).cell ≡ cells_below p (last_of p.net.rows) + place

  pub shown_at : (n : ℕ) → n < p.net.outputs → ShownAt n
  shown_at n lt =
      let ports = output_ports p is in
      let k = ports.some n lt in
      let place = place_is n k.0 k.1.spot (spots p (last_of p.net.rows)) k.1.at k.1.has
      (λ i j y z. ports.once n i j y z) in
      record {
        place = k.0;
        spot = k.1.spot;
        there = k.1.at;
        has = k.1.has;
        kind_is = k.1.buffer;
        source_is = ap (λ (m : ℕ). cells_below p (last_of p.net.rows) + m) place;
      }

  pub last_below : last_of p.net.rows < length p.net.rows
  last_below = let two = is.net_keeps.two_rows in let k = last_suc p (omega arith) in omega arith

  module _ (wires : ℕ) (nets : List ℕ) where
    -- from the placed net to the circuit

    listed : (ℕ → ℕ → Bool) → List Bool
    listed v = flat_map (λ r. map (v r) (numbers 0 (length (spots p r)))) (numbers 0 (length p.net.rows))

    number_there : (k n i : ℕ) → i < n → slice_get (numbers k n) i ≡ Some (k + i)
    number_there k zero i lt = absurd (omega arith)
    number_there k (suc n) zero lt = ap (λ (m : ℕ). Some m) (omega arith)
    number_there k (suc n) (suc i) lt = number_there (suc k) n i (omega arith) ∙ ap (λ (m : ℕ). Some m) (omega arith)

    length_numbers : (b n : ℕ) → length (numbers b n) ≡ n
    length_numbers b zero = refl
    length_numbers b (suc n) = let k = length_numbers (suc b) n in omega arith

    listed_agrees : (v : ℕ → ℕ → Bool) → Agrees v (λ c. slice_index_or (listed v) c false)
    unfolding listed
    listed_agrees v r n x e lt =
        let long : (q : ℕ) → cells_below p (suc q) ≡ cells_below p q + length
        (map (v q) (numbers 0 (length (spots p q)))) =
        λ q. ap (λ (m : ℕ). cells_below p q + m)
        (sym (length-map (numbers 0 (length (spots p q))) (v q) ∙ length_numbers 0 (length (spots p q)))) in
        let at = to_map (v r) (numbers 0 (length (spots p r))) n (0 + n)
        (number_there 0 (length (spots p r)) n (slice_get_within (spots p r) n x e)) in
        get_or_from_slice_get (listed v) (cells_below p r + n) (v r n) false
        (item_at (λ (q : ℕ). map (v q) (numbers 0 (length (spots p q)))) (cells_below p) refl long (length p.net.rows)
        r n (v r n) lt (at ∙ ap (λ (m : ℕ). Some (v r m)) (let h : 0 + n ≡ n = omega arith in h)))

    pub there : (word answer : List Bool) → IsAnswer p.net word answer
        → extracted.IsAnswer (drawn_circuit p wires nets) word answer
    there word answer a =
        let v = a.values in
        let value : ℕ → Bool = λ c. slice_index_or (listed v) c false in
        let agrees : Agrees v value = listed_agrees v in
        record {
          value = value;
          fits = λ c cell e.
              let h = number_cell c cell e in
              let at : value c ≡ v h.row h.place = ap value h.number_is ∙ agrees h.row h.place h.spot h.there h.below in
              at ∙ a.fit h.row h.place h.spot.cell (cell_of p h.row h.place h.spot h.there)
              ∙ sym (value_same word v value agrees h.row h.place h.spot h.below h.there)
              ∙ ap (cell_value word value) h.cell_is;
          answer_is = same_word word answer a value agrees;
        }
      where
        same_word : (word answer : List Bool) (a : IsAnswer p.net word answer) (value : ℕ → Bool)
            → Agrees a.values value → answer ≡ values_at (map (output_source p) (numbers 0 p.net.outputs)) value
        same_word word answer a value agrees =
            let outs = map (output_source p) (numbers 0 p.net.outputs) in
            let long : length answer ≡ length (values_at outs value) = a.long
            ∙ sym (length-map outs (λ (s : Source). value s.cell)
            ∙ length-map (numbers 0 p.net.outputs) (output_source p) ∙ length_numbers 0 p.net.outputs) in
            ext_get_or false answer (values_at outs value) long (λ i lt.
            let below = a.long in
            let s = shown_at i (omega arith) in
            let port : output_at (cell_at p.net.rows (last_of p.net.rows) s.place) ≡ Some i = ap output_at
            (cell_of p (last_of p.net.rows) s.place s.spot s.there) ∙ port_is (output_port s.spot.cell) i s.has in
            let n_at : slice_get (numbers 0 p.net.outputs) i ≡ Some i = number_there 0 p.net.outputs i (omega arith)
            ∙ ap (λ (m : ℕ). Some m) (let h : 0 + i ≡ i = omega arith in h) in
            let out = to_map (λ (s : Source). value s.cell) outs i (output_source p i)
            (to_map (output_source p) (numbers 0 p.net.outputs) i i n_at) in
            get_or_from_slice_get answer i (a.values (last_of p.net.rows) s.place) false (a.shown s.place i port)
            ∙ sym (agrees (last_of p.net.rows) s.place s.spot s.there last_below)
            ∙ sym (ap value s.source_is)
            ∙ sym (get_or_from_slice_get (values_at outs value) i (value (output_source p i).cell) false out))

    -- and back
    pub back : (word answer : List Bool) → extracted.IsAnswer (drawn_circuit p wires nets) word answer
        → IsAnswer p.net word answer
    back word answer a =
        let v : ℕ → ℕ → Bool = λ r n. a.value (cells_below p r + n) in
        let agrees : Agrees v a.value = λ r n x e lt. refl in
        record {
          values = v;
          fit = λ r n cell e.
              let x = spot_at p is r n cell e in
              let lt = row_there r n x.0 x.1 in
              let number = cell_number r n x.0 lt x.1 in
              a.fits (cells_below p r + n) (drawn_cell p r x.0) number ∙ value_same word v a.value agrees r n x.0 lt
              x.1 ∙ ap (λ (c : RowCell). rowed.cell_value word (v (pred r)) c) x.2;
          long = ap length a.answer_is ∙ length-map (map (output_source p) (numbers 0 p.net.outputs))
              (λ (s : Source). a.value s.cell) ∙ length-map (numbers 0 p.net.outputs) (output_source p)
              ∙ length_numbers 0 p.net.outputs;
          shown = λ c i e. shown c i e;
        }
      where
        row_there : (r n : ℕ) (x : Spot) → slice_get (spots p r) n ≡ Some x → r < length p.net.rows
        row_there r n x e = spot_row p r x (n, e)

        shown : (c i : ℕ) → output_at (cell_at p.net.rows (last_of p.net.rows) c) ≡ Some i
            → slice_get answer i ≡ Some (a.value (cells_below p (last_of p.net.rows) + c))
        shown c i e =
            let k = cell_some (cell_at p.net.rows (last_of p.net.rows) c) e in
            let x = spot_at p is (last_of p.net.rows) c k.0 k.1 in
            let port : output_port x.0.cell ≡ Some i = ap output_port x.2 ∙ k.2 in
            let lt = (stands_at p is (last_of p.net.rows) c x.0 x.1).output_below i port in
            let s = shown_at i lt in
            let same : s.place ≡ c = (output_ports p is).once i s.place c s.spot x.0 s.there x.1 s.has
            (is_port (output_port x.0.cell) i port) in
            let outs = map (output_source p) (numbers 0 p.net.outputs) in
            let n_at : slice_get (numbers 0 p.net.outputs) i ≡ Some i = number_there 0 p.net.outputs i lt
            ∙ ap (λ (m : ℕ). Some m) (let h : 0 + i ≡ i = omega arith in h) in
            let out = to_map (λ (s : Source). a.value s.cell) outs i (output_source p i)
            (to_map (output_source p) (numbers 0 p.net.outputs) i i n_at) in
            ap (λ (ys : List Bool). slice_get ys i) a.answer_is ∙ out
            ∙ ap (λ (m : ℕ). Some (a.value m))
            (s.source_is ∙ ap (λ (m : ℕ). cells_below p (last_of p.net.rows) + m) same)
          where
            cell_some : (o : Option RowCell) → output_at o ≡ Some i → (c : RowCell) × (o ≡ Some c)
                × (output_port c ≡ Some i)
            cell_some None e = absurd cc
            cell_some (Some c) e = (c, refl, e)

    pub same_answers : SameAnswers p.net.inputs (drawn_circuit p wires nets).inputs p.net.outputs
        (length (drawn_circuit p wires nets).outputs) (IsAnswer p.net) (extracted.IsAnswer (drawn_circuit p wires nets))
    same_answers = record {
      same_inputs = refl;
      same_outputs = length-map (numbers 0 p.net.outputs) (output_source p) ∙ length_numbers 0 p.net.outputs;
      there = λ x y long a. there x y a;
      back = λ x y long a. back x y a;
    }
