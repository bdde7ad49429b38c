-- The gates of an extracted circuit name lower gates, and answer as the circuit does.
use Rattle.std.specs.Prelude.{◌≡◌, ◌≢◌, ◌⊎◌, ℕ, zero, suc, ◌+◌, ◌-◌, ◌<◌, ◌^◌, Bool, false, not, cond, nat_lt, List, []}
use Rattle.std.specs.Prelude.{◌∷◌, ◌++◌, map, length, Some, slice_get, slice_index_or}
use Rattle.std.specs.List.{AllByRecursion}
use Rattle.std.proofs.Common.{refl, sym, ap, ◌∙◌, subst, arith, inl, inr, get_or, length-append}
use Rattle.std.proofs.lemmas.Bool.{cases_lt, lt-ltb, le-ltb}
use Rattle.std.proofs.lemmas.Option.{slice_get-get_or, get_or_from_slice_get, slice_get_within}
use Rattle.std.proofs.lemmas.List.{length-map, get_or_append_left, get_or-append_right, get_or-map}
use Rattle.std.proofs.Math.Seq.{get_or-append_seam}
use Rattle.circuit.specs.CellKinds.{inputs_of}
use Rattle.circuit.specs.Function.{value_of, majority}
use Rattle.circuit.specs.Gates.{gate_value, Fits}
use Rattle.circuit.specs.PlainNets as plain
use Rattle.circuit.specs.SameAnswers.{SameAnswers}
use Rattle.circuit.specs.declared.gate.Gate.{Gate}
use Rattle.circuit.specs.declared.gate.Gate.TheVariants as gate
use Rattle.circuit.specs.declared.cell_kind.CellKind.{CellKind}
use Rattle.circuit.specs.declared.cell_kind.CellKind.TheVariants.{Buffer, Inverter, Zero, One, Split2, Split3, Majority}
use Rattle.rowed.specs.declared.source.Source.{Source}
use Rattle.circuit_extracted.specs.declared.cells.Feed.{Feed}
use Rattle.circuit_extracted.specs.declared.cells.Feed.TheVariants.{Nothing, Pin, Label}
use Rattle.circuit_extracted.specs.declared.cells.ExCell.{ExCell}
use Rattle.circuit_extracted.specs.Circuits.{CircuitView, IsCellAt, IsFeedOf, feed_at, KeepsFacts}
use Rattle.circuit_extracted.specs.Answers.{feed_value, cell_value, IsValuation, values_at, IsAnswer}
use Rattle.circuit.specs.CellNets.{Reads, IsCells}
use Rattle.std.specs.Prelude.{All}
use Rattle.circuit_gates.specs.CellGates.{FeedsFit, feed_gate, gate_by, gate_of, inputs_to, cells_of}

pub length-inputs : (n : ℕ) → length (inputs_to n) ≡ n
length-inputs zero = refl
length-inputs (suc n) = length-append (inputs_to n) (gate.Input n ∷ [])
    ∙ (let r = length-inputs n in let z : length (inputs_to n) + 1 ≡ suc n = omega arith in z)

input_at : (n k : ℕ) → k < n → get_or (inputs_to n) k (gate.Input 0) ≡ gate.Input k
input_at zero k lt = absurd (omega arith)
input_at (suc n) k lt = elim (cases_lt k n) [
  | inl less ↦ get_or_append_left (inputs_to n) (gate.Input n ∷ []) (gate.Input 0) k
      (let r = length-inputs n in omega arith) ∙ input_at n k less
  | inr ge ↦
      (let e : k ≡ n = omega arith in
      ap (λ i. get_or (inputs_to n ++ gate.Input n ∷ []) i (gate.Input 0)) (e ∙ sym (length-inputs n))
      ∙ get_or-append_seam (inputs_to n) (gate.Input n) [] (gate.Input 0) ∙ ap gate.Input (sym e))
]

module _ (circuit : CircuitView) (ok : KeepsFacts circuit) where
  abbrev n : ℕ
  n = circuit.inputs

  abbrev gates : List Gate
  gates = inputs_to circuit.inputs ++ map (gate_of circuit.inputs) circuit.cells

  size : length gates ≡ n + length circuit.cells
  size = (let a = length-append (inputs_to n) (map (gate_of n) circuit.cells) in let b = length-inputs n in let c =
      length-map circuit.cells (gate_of n) in omega arith)

  input_gate : (k : ℕ) → k < n → slice_get gates k ≡ Some (gate.Input k)
  input_gate k lt =
      slice_get-get_or gates k (gate.Input 0) (let s = size in omega arith)
      ∙ ap (λ (g : Gate). Some g) (get_or_append_left (inputs_to n) (map (gate_of n) circuit.cells) (gate.Input 0) k
      (let s = length-inputs n in omega arith) ∙ input_at n k lt)

  cell_gate : (c : ℕ) (cell : ExCell) → IsCellAt circuit c cell → slice_get gates (n + c) ≡ Some (gate_of n cell)
  cell_gate c cell is =
      let lt = slice_get_within circuit.cells c cell is in
      slice_get-get_or gates (n + c) (gate_of n cell) (let s = size in omega arith)
      ∙ ap (λ (g : Gate). Some g)
      (get_or-append_right (inputs_to n) (map (gate_of n) circuit.cells) n (n + c) (gate_of n cell)
      (length-inputs n) (omega arith)
      ∙ ap (λ i. get_or (map (gate_of n) circuit.cells) i (gate_of n cell)) (let z : (n + c) - n ≡ c = omega arith in z)
      ∙ get_or-map (gate_of n) circuit.cells c cell (gate_of n cell) lt
      ∙ ap (gate_of n) (get_or_from_slice_get circuit.cells c cell cell is))

  -- a gate is that of an input or that of a cell
  record IsCellGate (i : ℕ) (g : Gate) : Type 0 where
    number : ℕ
    cell : ExCell
    cell_is : IsCellAt circuit number cell
    place : i ≡ n + number
    gate_is : g ≡ gate_of n cell

  gate_cases : (i : ℕ) (g : Gate) → slice_get gates i ≡ Some g → ((i < n) × (g ≡ gate.Input i)) ⊎ IsCellGate i g
  gate_cases i g is = elim (cases_lt i n) [
    | inl less ↦ inl (less, (let e : Some g ≡ Some (gate.Input i) = sym is ∙ input_gate i less in cc))
    | inr ge ↦
        (let w = slice_get_within gates i g is in
        let s = size in
        let c = i - n in
        let none : ExCell = record {
          kind = Zero;
          row = 0;
          phase = 0;
          feed0 = Nothing;
          feed1 = Nothing;
          feed2 = Nothing;
        } in
        let cell = get_or circuit.cells c none in
        let at : IsCellAt circuit c cell = slice_get-get_or circuit.cells c none (omega arith) in
        let place : i ≡ n + c = omega arith in
        inr (record {
          number = c;
          cell = cell;
          cell_is = at;
          place = place;
          gate_is =
              (let e : Some g ≡ Some (gate_of n cell) = sym is ∙ ap (slice_get gates) place
              ∙ cell_gate c cell at in cc);
        }))
  ]

  -- a feed names a lower gate
  feed_below : (c : ℕ) (cell : ExCell) → IsCellAt circuit c cell → (feed : Feed) → IsFeedOf circuit cell.row feed
      → feed ≢ Nothing → feed_gate n feed < n + c
  feed_below c cell is Nothing fed other = absurd (other refl)
  feed_below c cell is (Label k) fed other = (let l = fed.1 in omega arith)
  feed_below c cell is (Pin d output) fed other =
      let below = fed.just_below in
      let lt = slice_get_within circuit.cells c cell is in
      let lt' = slice_get_within circuit.cells d fed.cell fed.cell_is in
      elim (cases_lt d c) [
        | inl less ↦ omega arith
        | inr ge ↦ absurd (let r = ok.rising c d cell ge lt' in
            let x = ap (λ (e : ExCell). e.row) (get_or_from_slice_get circuit.cells c cell cell is) in
            let y = ap (λ (e : ExCell). e.row)
            (get_or_from_slice_get circuit.cells d fed.cell cell fed.cell_is) in omega arith)
      ]

  by_kind : (kind : CellKind) (x y z i : ℕ) → (0 < inputs_of kind → x < i) → (1 < inputs_of kind → y < i)
      → (2 < inputs_of kind → z < i) → Reads n i (gate_by kind x y z)
  by_kind Buffer x y z i p q r = p (omega arith)
  by_kind Inverter x y z i p q r = p (omega arith)
  by_kind Zero x y z i p q r = tt
  by_kind One x y z i p q r = tt
  by_kind Split2 x y z i p q r = p (omega arith)
  by_kind Split3 x y z i p q r = p (omega arith)
  by_kind Majority x y z i p q r = (p (omega arith), q (omega arith), r (omega arith))

  cell_reads : (c : ℕ) (cell : ExCell) → IsCellAt circuit c cell → Reads n (n + c) (gate_of n cell)
  cell_reads c cell is =
      let of = ok.cells c cell is in
      let below : (i : ℕ) → i < inputs_of cell.kind → feed_gate n (feed_at cell i) < n + c
      = λ i lt. feed_below c cell is (feed_at cell i) (of.each_feed i)
      (λ e. absurd (let le = (of.feeds i).0 e in omega arith)) in
      by_kind cell.kind (feed_gate n cell.feed0) (feed_gate n cell.feed1) (feed_gate n cell.feed2) (n + c)
      (below 0) (below 1) (below 2)

  gates_read : (i : ℕ) (g : Gate) → slice_get gates i ≡ Some g → Reads n i g
  gates_read i g is = elim (gate_cases i g is) [
    | inl input ↦ subst (λ h. Reads n i h) (sym input.1) input.0
    | inr cell ↦ subst (λ h. Reads n i h) (sym cell.gate_is)
        (subst (λ j. Reads n j (gate_of n cell.cell)) (sym cell.place) (cell_reads cell.number cell.cell cell.cell_is))
  ]

  by_values : (kind : CellKind) (x y z : ℕ) (word : List Bool) (v : ℕ → Bool) (a b c : Bool)
      → (0 < inputs_of kind → v x ≡ a) → (1 < inputs_of kind → v y ≡ b) → (2 < inputs_of kind → v z ≡ c)
      → gate_value word v (gate_by kind x y z) ≡ value_of kind a b c
  by_values Buffer x y z word v a b c p q r = p (omega arith)
  by_values Inverter x y z word v a b c p q r = ap not (p (omega arith))
  by_values Zero x y z word v a b c p q r = refl
  by_values One x y z word v a b c p q r = refl
  by_values Split2 x y z word v a b c p q r = p (omega arith)
  by_values Split3 x y z word v a b c p q r = p (omega arith)
  by_values Majority x y z word v a b c p q r = ap (λ t. majority t (v y) (v z)) (p (omega arith))
      ∙ ap (λ t. majority a t (v z)) (q (omega arith)) ∙ ap (majority a b) (r (omega arith))

  -- values of gates and of cells that belong together
  record Agree (word : List Bool) (v w : ℕ → Bool) : Type 0 where
    of_input : (k : ℕ) → k < n → w k ≡ slice_index_or word k false
    of_cell : (c : ℕ) → c < length circuit.cells → w (n + c) ≡ v c

  feed_same : (word : List Bool) (v w : ℕ → Bool) → Agree word v w → (row : ℕ) (feed : Feed) → IsFeedOf circuit row feed
      → feed ≢ Nothing → w (feed_gate n feed) ≡ feed_value word v feed
  feed_same word v w agree row Nothing fed other = absurd (other refl)
  feed_same word v w agree row (Label k) fed other = agree.of_input k fed.1
  feed_same word v w agree row (Pin d output) fed other = agree.of_cell d
      (slice_get_within circuit.cells d fed.cell fed.cell_is)

  cell_same : (word : List Bool) (v w : ℕ → Bool) → Agree word v w → (c : ℕ) (cell : ExCell) → IsCellAt circuit c cell
      → gate_value word w (gate_of n cell) ≡ cell_value word v cell
  cell_same word v w agree c cell is =
      let of = ok.cells c cell is in
      let same : (i : ℕ) → i < inputs_of cell.kind
      → w (feed_gate n (feed_at cell i)) ≡ feed_value word v (feed_at cell i)
      = λ i lt. feed_same word v w agree cell.row (feed_at cell i) (of.each_feed i)
      (λ e. absurd (let le = (of.feeds i).0 e in omega arith)) in
      by_values cell.kind (feed_gate n cell.feed0) (feed_gate n cell.feed1) (feed_gate n cell.feed2) word w
      (feed_value word v cell.feed0) (feed_value word v cell.feed1) (feed_value word v cell.feed2)
      (same 0) (same 1) (same 2)

  -- the values of gates that go with values of cells
  abbrev with_cells : List Bool → (ℕ → Bool) → ℕ → Bool
  with_cells word v i = cond (nat_lt i n) (slice_index_or word i false) (v (i - n))

  with_agree : (word : List Bool) (v : ℕ → Bool) → Agree word v (with_cells word v)
  with_agree word v = record {
    of_input = λ k lt. ap (λ b. cond b (slice_index_or word k false) (v (k - n))) (lt-ltb k n lt);
    of_cell = λ c lt. ap (λ b. cond b (slice_index_or word (n + c) false) (v ((n + c) - n)))
        (le-ltb (n + c) n (omega arith)) ∙ ap v (let z : (n + c) - n ≡ c = omega arith in z);
  }

  there_fits : (word : List Bool) (v : ℕ → Bool) → IsValuation circuit word v → Fits word (with_cells word v) gates
  there_fits word v fits i g is =
      let agree = with_agree word v in
      elim (gate_cases i g is) [
        | inl input ↦ agree.of_input i input.0 ∙ ap (λ h. gate_value word (with_cells word v) h) (sym input.1)
        | inr at ↦
            (let lt = slice_get_within circuit.cells at.number at.cell at.cell_is in
            ap (with_cells word v) at.place ∙ agree.of_cell at.number lt ∙ fits at.number at.cell at.cell_is
            ∙ sym (cell_same word v (with_cells word v) agree at.number at.cell at.cell_is)
            ∙ ap (λ h. gate_value word (with_cells word v) h) (sym at.gate_is))
      ]

  back_fits : (word : List Bool) (w : ℕ → Bool) → Fits word w gates → IsValuation circuit word (λ c. w (n + c))
  back_fits word w fits c cell is =
      let agree : Agree word (λ d. w (n + d)) w =
      record { of_input = λ k lt. fits k (gate.Input k) (input_gate k lt); of_cell = λ d lt. refl } in
      fits (n + c) (gate_of n cell) (cell_gate c cell is) ∙ cell_same word (λ d. w (n + d)) w agree c cell is

  outputs_same : (word : List Bool) (v w : ℕ → Bool) → Agree word v w → (sources : List Source)
      → ((k : ℕ) (source : Source) → slice_get sources k ≡ Some source → source.cell < length circuit.cells)
      → values_at sources v ≡ map w (map (λ source. n + source.cell) sources)
  outputs_same word v w agree [] within = refl
  outputs_same word v w agree (s ∷ ss) within = ap (λ b. b ∷ values_at ss v)
      (sym (agree.of_cell s.cell (within 0 s refl)))
      ∙ ap (λ bs. w (n + s.cell) ∷ bs) (outputs_same word v w agree ss (λ k t is. within (suc k) t is))

  source_within : (k : ℕ) (source : Source) → slice_get circuit.outputs k ≡ Some source
      → source.cell < length circuit.cells
  source_within k source is = let below =
      ok.outputs k source is in slice_get_within circuit.cells source.cell below.cell below.cell_is

  each_within : (sources : List Source)
      → ((k : ℕ) (source : Source) → slice_get sources k ≡ Some source → source.cell < length circuit.cells)
      → AllByRecursion (λ x. x < length gates) (map (λ source. n + source.cell) sources)
  each_within [] within = tt
  each_within (s ∷ ss) within =
      ((let w = within 0 s refl in let z = size in omega arith), each_within ss (λ k t is. within (suc k) t is))

  pub are_cells : IsCells (cells_of circuit)
  are_cells = record {
    gates_read = gates_read;
    each_output = each_within circuit.outputs source_within;
    few_outputs = subst (λ m. m < 2 ^ 32) (sym (length-map circuit.outputs (λ source. n + source.cell))) ok.few_outputs;
  }

  pub same_answers : SameAnswers n n (length circuit.outputs) (length (cells_of circuit).outputs) (IsAnswer circuit)
      (plain.IsAnswer (cells_of circuit))
  same_answers = record {
    same_inputs = refl;
    same_outputs = length-map circuit.outputs (λ source. n + source.cell);
    there = λ x y long answer. record {
      values = with_cells x answer.value;
      fit = there_fits x answer.value answer.fits;
      shown = answer.answer_is ∙ outputs_same x answer.value (with_cells x answer.value)
          (with_agree x answer.value) circuit.outputs source_within;
    };
    back = λ x y long answer. record {
      value = λ c. answer.values (n + c);
      fits = back_fits x answer.values answer.fit;
      answer_is = answer.shown ∙ sym
          (outputs_same x (λ c. answer.values (n + c)) answer.values
          (record { of_input = λ k lt. answer.fit k (gate.Input k) (input_gate k lt); of_cell = λ d lt. refl })
          circuit.outputs source_within);
    };
  }

  -- the numbers of gates that feeds name fit
  feed_fits : n + length circuit.cells < 2 ^ 32 → (c : ℕ) (cell : ExCell) → IsCellAt circuit c cell → (feed : Feed)
      → IsFeedOf circuit cell.row feed → feed_gate n feed < 2 ^ 32
  feed_fits few c cell is Nothing fed = omega arith
  feed_fits few c cell is (Label k) fed =
      (let l = feed_below c cell is (Label k) fed (λ e. absurd (let z : Label k ≡ Nothing = e in cc)) in let w =
      slice_get_within circuit.cells c cell is in omega arith)
  feed_fits few c cell is (Pin d output) fed =
      (let l = feed_below c cell is (Pin d output) fed
      (λ e. absurd (let z : Pin d output ≡ Nothing = e in cc)) in let w =
      slice_get_within circuit.cells c cell is in omega arith)

  pub feeds_fit : n + length circuit.cells < 2 ^ 32 → All (FeedsFit n) circuit.cells
  feeds_fit few k d lt =
      let cell = get_or circuit.cells k d in
      let is = slice_get-get_or circuit.cells k d lt in
      let fed = (ok.cells k cell is).each_feed in
      record {
        first = feed_fits few k cell is cell.feed0 (fed 0);
        second = feed_fits few k cell is cell.feed1 (fed 1);
        third = feed_fits few k cell is cell.feed2 (fed 2);
      }

  pub sources_fit : n + length circuit.cells < 2 ^ 32 → All (λ source. n + source.cell < 2 ^ 32) circuit.outputs
  sources_fit few k d lt = (let w = source_within k (get_or circuit.outputs k d)
      (slice_get-get_or circuit.outputs k d lt) in omega arith)

  pub cells_from : (gs : List Gate) (outs : List ℕ) → gs ≡ (cells_of circuit).gates → outs ≡ (cells_of circuit).outputs
      → IsCells (record { inputs = n; gates = gs; outputs = outs })
  cells_from gs outs p q =
      subst (λ (os : List ℕ). IsCells (record { inputs = n; gates = gs; outputs = os })) (sym q)
      (subst (λ (hs : List Gate). IsCells (record { inputs = n; gates = hs; outputs = (cells_of circuit).outputs }))
      (sym p) are_cells)

  pub same_from : (seen : CircuitView) (gs : List Gate) (outs : List ℕ) → circuit ≡ seen → gs ≡ (cells_of circuit).gates
      → outs ≡ (cells_of circuit).outputs
      → SameAnswers seen.inputs n (length seen.outputs) (length outs) (IsAnswer seen)
      (plain.IsAnswer (record { inputs = n; gates = gs; outputs = outs }))
  same_from seen gs outs v p q =
      subst (λ (c : CircuitView). SameAnswers c.inputs n (length c.outputs) (length outs) (IsAnswer c)
      (plain.IsAnswer (record { inputs = n; gates = gs; outputs = outs }))) v
      (subst (λ (os : List ℕ). SameAnswers n n (length circuit.outputs) (length os) (IsAnswer circuit)
      (plain.IsAnswer (record { inputs = n; gates = gs; outputs = os }))) (sym q)
      (subst (λ (hs : List Gate). SameAnswers n n (length circuit.outputs) (length (cells_of circuit).outputs)
      (IsAnswer circuit) (plain.IsAnswer (record { inputs = n; gates = hs; outputs = (cells_of circuit).outputs })))
      (sym p) same_answers))
