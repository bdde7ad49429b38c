-- The equations of an extracted circuit are ranked by rows, so that each word has exactly one answer.
use Rattle.std.specs.Prelude.{◌≡◌, ℕ, suc, ◌<◌, Bool, false, List, [], ◌∷◌, Option, Some, None, length, slice_get}
use Rattle.std.proofs.Common.{refl, sym, ap, ◌∙◌, subst, arith}
use Rattle.std.proofs.lemmas.List.{length-map}
use Rattle.circuit.specs.Function.{value_of}
use Rattle.circuit.specs.Ranked.{IsRanked, Solves, solution}
use Rattle.circuit.specs.OneAnswer.{HasOneAnswer}
use Rattle.circuit.proofs.Solutions.{some_solution, one_solution}
use Rattle.rowed.specs.declared.source.Source.{Source}
use Rattle.circuit_extracted.specs.declared.cells.Feed.{Feed}
use Rattle.circuit_extracted.specs.declared.cells.Feed.TheVariants.{Nothing, Pin, Label}
use Rattle.circuit_extracted.specs.declared.cells.ExCell.{ExCell}
use Rattle.circuit_extracted.specs.Circuits.{CircuitView, IsCellAt, IsOutputBelow, IsFeedOf, KeepsFacts}
use Rattle.circuit_extracted.specs.Answers.{feed_value, cell_value, IsValuation, values_at, IsAnswer}

-- the row of a cell that may be there
abbrev row_of : Option ExCell → ℕ
row_of None = 0
row_of (Some cell) = cell.row

-- the value of a cell that may be there
abbrev value_in : List Bool → (ℕ → Bool) → Option ExCell → Bool
value_in word v None = false
value_in word v (Some cell) = cell_value word v cell

module _ (circuit : CircuitView) (ok : KeepsFacts circuit) (word : List Bool) where
  -- a cell's rank is its row
  abbrev rank : ℕ → ℕ
  rank c = row_of (slice_get circuit.cells c)

  -- the value that a cell's function gives, and false past the cells
  abbrev equation : ℕ → (ℕ → Bool) → Bool
  equation c v = value_in word v (slice_get circuit.cells c)

  -- the feeds of a cell are of lower rank
  same_feed : (v w : ℕ → Bool) (row : ℕ) → ((d : ℕ) → rank d < row → v d ≡ w d)
      → (feed : Feed) → IsFeedOf circuit row feed → feed_value word v feed ≡ feed_value word w feed
  same_feed v w row same Nothing is = refl
  same_feed v w row same (Label n) is = refl
  same_feed v w row same (Pin d output) is =
      let below : row_of (slice_get circuit.cells d) ≡ is.cell.row = ap row_of is.cell_is in
      same d (omega (arith, is.just_below))

  same_equation : (v w : ℕ → Bool) (c : ℕ) → ((d : ℕ) → rank d < rank c → v d ≡ w d)
      → (o : Option ExCell) → slice_get circuit.cells c ≡ o → value_in word v o ≡ value_in word w o
  same_equation v w c same None is = refl
  same_equation v w c same (Some cell) is =
      let lower : (d : ℕ) → rank d < cell.row → v d ≡ w d =
      λ d h. same d (subst (λ (r : ℕ). rank d < r) (sym (ap row_of is)) h) in
      let feeds = (ok.cells c cell is).each_feed in
      let e0 = same_feed v w cell.row lower cell.feed0 (feeds 0) in
      let e1 = same_feed v w cell.row lower cell.feed1 (feeds 1) in
      let e2 = same_feed v w cell.row lower cell.feed2 (feeds 2) in
      ap (λ (b : Bool). value_of cell.kind b (feed_value word v cell.feed1) (feed_value word v cell.feed2)) e0
      ∙ ap (λ (b : Bool). value_of cell.kind (feed_value word w cell.feed0) b (feed_value word v cell.feed2)) e1
      ∙ ap (λ (b : Bool). value_of cell.kind (feed_value word w cell.feed0) (feed_value word w cell.feed1) b) e2

  ranked : IsRanked rank equation
  ranked c v w same = same_equation v w c same (slice_get circuit.cells c) refl

  solved_fits : (v : ℕ → Bool) → Solves equation v → IsValuation circuit word v
  solved_fits v solves c cell is = solves c ∙ ap (value_in word v) is

  pub some_answer : (answer : List Bool) × IsAnswer circuit word answer
  some_answer =
      let v : ℕ → Bool = solution rank equation in
      let fits = solved_fits v (some_solution rank equation ranked) in
      (values_at circuit.outputs v, record { value = v; fits = fits; answer_is = refl })

  -- a valuation where there are cells, and false elsewhere: a solution of the equations
  abbrev kept_value : (ℕ → Bool) → ℕ → Option ExCell → Bool
  kept_value v c None = false
  kept_value v c (Some cell) = v c

  abbrev kept : (ℕ → Bool) → ℕ → Bool
  kept v c = kept_value v c (slice_get circuit.cells c)

  same_kept : (v : ℕ → Bool) (row : ℕ) (feed : Feed) → IsFeedOf circuit row feed
      → feed_value word v feed ≡ feed_value word (kept v) feed
  same_kept v row Nothing is = refl
  same_kept v row (Label n) is = refl
  same_kept v row (Pin d output) is = sym (ap (kept_value v d) is.cell_is)

  kept_at : (v : ℕ → Bool) → IsValuation circuit word v → (c : ℕ) (o : Option ExCell)
      → slice_get circuit.cells c ≡ o → kept_value v c o ≡ value_in word (kept v) o
  kept_at v fits c None is = refl
  kept_at v fits c (Some cell) is =
      let feeds = (ok.cells c cell is).each_feed in
      let e0 = same_kept v cell.row cell.feed0 (feeds 0) in
      let e1 = same_kept v cell.row cell.feed1 (feeds 1) in
      let e2 = same_kept v cell.row cell.feed2 (feeds 2) in
      let new = feed_value word (kept v) in
      fits c cell is
      ∙ ap (λ (b : Bool). value_of cell.kind b (feed_value word v cell.feed1) (feed_value word v cell.feed2)) e0
      ∙ ap (λ (b : Bool). value_of cell.kind (new cell.feed0) b (feed_value word v cell.feed2)) e1
      ∙ ap (λ (b : Bool). value_of cell.kind (new cell.feed0) (new cell.feed1) b) e2

  solves_kept : (v : ℕ → Bool) → IsValuation circuit word v → Solves equation (kept v)
  solves_kept v fits c = kept_at v fits c (slice_get circuit.cells c) refl

  -- two valuations agree at the cells
  same_value : (v w : ℕ → Bool) → IsValuation circuit word v → IsValuation circuit word w
      → (c : ℕ) (cell : ExCell) → IsCellAt circuit c cell → v c ≡ w c
  same_value v w first second c cell is =
      sym (ap (kept_value v c) is)
      ∙ one_solution rank equation ranked (kept v) (kept w) (solves_kept v first) (solves_kept w second) c
      ∙ ap (kept_value w c) is

  -- every one of these sources names a cell
  Named : List Source → Type 0
  Named sources = (k : ℕ) (source : Source) → slice_get sources k ≡ Some source
      → IsOutputBelow circuit circuit.rows source

  same_values : (v w : ℕ → Bool) → IsValuation circuit word v → IsValuation circuit word w
      → (sources : List Source) → Named sources → values_at sources v ≡ values_at sources w
  unfolding Named
  same_values v w first second [] named = refl
  same_values v w first second (source ∷ sources) named =
      let is = named 0 source refl in
      let here = same_value v w first second source.cell is.cell is.cell_is in
      let rest = same_values v w first second sources (λ k s e. named (suc k) s e) in
      rw (here, rest) refl

  pub only_answer : (first second : List Bool) → IsAnswer circuit word first → IsAnswer circuit word second
      → first ≡ second
  unfolding Named
  only_answer first second one two =
      one.answer_is ∙ same_values one.value two.value one.fits two.fits circuit.outputs ok.outputs ∙ sym two.answer_is

-- an answer has a value for each output
pub answer_length : (circuit : CircuitView) (word answer : List Bool) → IsAnswer circuit word answer
    → length answer ≡ length circuit.outputs
answer_length circuit word answer is =
    ap length is.answer_is ∙ length-map circuit.outputs (λ (source : Source). is.value source.cell)

-- so a circuit that keeps its facts has one answer to each word
pub circuit_once : (circuit : CircuitView) → KeepsFacts circuit
    → HasOneAnswer circuit.inputs (length circuit.outputs) (IsAnswer circuit)
circuit_once circuit ok = record {
  some = λ x long. some_answer circuit ok x;
  only = λ x y z long a b. only_answer circuit ok x y z a b;
  whole = λ x y long a. answer_length circuit x y a;
}
