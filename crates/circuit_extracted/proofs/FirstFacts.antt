-- The circuit of the first chip keeps what every extracted circuit keeps.
use Rattle.std.proofs.Common.{◌≡◌, ◌≢◌, ℕ, zero, suc, ◌<◌, ◌≤◌, ◌⊎◌, inl, inr, Some, refl, sym, ap, subst, ◌∙◌, arith}
use Rattle.std.specs.Prelude.{slice_get, ◌↔◌}
use Rattle.std.specs.List.Sorted.{IsNonDecreasingBy}
use Rattle.std.proofs.lemmas.Option.{same_Some}
use Rattle.circuit.specs.CellKinds.{outputs_of}
use Rattle.rowed.specs.declared.source.Source.{Source}
use Rattle.circuit_extracted.specs.declared.cells.Feed.{Feed}
use Rattle.circuit_extracted.specs.declared.cells.Feed.TheVariants.{Nothing, Pin, Label}
use Rattle.circuit_extracted.specs.declared.cells.ExCell.{ExCell}
use Rattle.circuit_extracted.specs.Circuits.{IsCellAt, feed_at, IsFed, IsOutputBelow, IsFeedOf, IsCellOf, HasCell, IsTaken}
use Rattle.circuit_extracted.specs.Circuits.{IsShown, KeepsFacts}
use Rattle.circuit_extracted.specs.FirstCircuit.{lower_buffer, upper_buffer, upper_output, first_circuit}

each_row : (row : ℕ) → row < 2 → HasCell first_circuit row
unfolding first_circuit
each_row zero lt = record { number = 0; cell = lower_buffer; cell_is = refl; row_is = refl }
each_row (suc zero) lt = record { number = 1; cell = upper_buffer; cell_is = refl; row_is = refl }
each_row (suc (suc row)) lt = absurd (omega arith)

rising : IsNonDecreasingBy (λ cell. cell.row) first_circuit.cells
unfolding first_circuit
rising zero zero d le lt = omega arith
rising zero (suc zero) d le lt = omega arith
rising zero (suc (suc j)) d le lt = absurd (omega arith)
rising (suc zero) zero d le lt = absurd (omega arith)
rising (suc zero) (suc zero) d le lt = omega arith
rising (suc zero) (suc (suc j)) d le lt = absurd (omega arith)
rising (suc (suc i)) j d le lt = absurd (omega arith)

-- a cell with one feed
pub one_input : (cell : ExCell) → cell.feed0 ≢ Nothing → cell.feed1 ≡ Nothing → cell.feed2 ≡ Nothing → (i : ℕ)
    → (feed_at cell i ≡ Nothing) ↔ (1 ≤ i)
one_input cell first second third zero = (λ e. absurd (first e), λ le. absurd (omega arith))
one_input cell first second third (suc zero) = (λ e. omega arith, λ le. second)
one_input cell first second third (suc (suc zero)) = (λ e. omega arith, λ le. third)
one_input cell first second third (suc (suc (suc i))) = (λ e. omega arith, λ le. refl)

lower_each : (i : ℕ) → IsFeedOf first_circuit 0 (feed_at lower_buffer i)
unfolding first_circuit
lower_each zero = (refl, omega arith)
lower_each (suc zero) = tt
lower_each (suc (suc zero)) = tt
lower_each (suc (suc (suc i))) = tt

upper_each : (i : ℕ) → IsFeedOf first_circuit 1 (feed_at upper_buffer i)
unfolding first_circuit
upper_each zero = record { cell = lower_buffer; cell_is = refl; just_below = refl; has_output = omega arith }
upper_each (suc zero) = tt
upper_each (suc (suc zero)) = tt
upper_each (suc (suc (suc i))) = tt

cells : (c : ℕ) (cell : ExCell) → IsCellAt first_circuit c cell → IsCellOf first_circuit cell
unfolding first_circuit
cells zero cell is = subst (IsCellOf first_circuit) (same_Some lower_buffer cell is)
    (record {
      row_is = omega arith;
      phase_is = refl;
      feeds = one_input lower_buffer (λ e. absurd cc) refl refl;
      each_feed = lower_each;
    })
cells (suc zero) cell is = subst (IsCellOf first_circuit) (same_Some upper_buffer cell is)
    (record {
      row_is = omega arith;
      phase_is = refl;
      feeds = one_input upper_buffer (λ e. absurd cc) refl refl;
      each_feed = upper_each;
    })
cells (suc (suc c)) cell is = absurd cc

-- the two feeds that there are, each at its place
pub record IsFeed (c i : ℕ) (feed : Feed) (d : ℕ) (other : Feed) : Type 0 where
  pub cell_is : c ≡ d
  pub input_is : i ≡ 0
  pub feed_is : feed ≡ other

abbrev IsOneFeed : ℕ → ℕ → Feed → Type 0
IsOneFeed c i feed = IsFeed c i feed 0 (Label 0) ⊎ IsFeed c i feed 1 (Pin 0 0)

pub feed_of : (c i : ℕ) (cell : ExCell) (feed other : Feed) → feed ≢ Nothing → cell.feed0 ≡ other → cell.feed1 ≡ Nothing
    → cell.feed2 ≡ Nothing → feed_at cell i ≡ feed → IsFeed c i feed c other
feed_of c zero cell feed other some first second third e =
    record { cell_is = refl; input_is = refl; feed_is = sym e ∙ first }
feed_of c (suc zero) cell feed other some first second third e = absurd (some (sym e ∙ second))
feed_of c (suc (suc zero)) cell feed other some first second third e = absurd (some (sym e ∙ third))
feed_of c (suc (suc (suc i))) cell feed other some first second third e = absurd (some (sym e))

one_feed : (c i : ℕ) (feed : Feed) → feed ≢ Nothing → IsFed first_circuit c i feed → IsOneFeed c i feed
unfolding first_circuit
one_feed zero i feed some is =
    inl (feed_of 0 i lower_buffer feed (Label 0) some refl refl refl
    (ap (λ (cell : ExCell). feed_at cell i) (same_Some lower_buffer is.cell is.cell_is) ∙ is.feed_is))
one_feed (suc zero) i feed some is =
    inr (feed_of 1 i upper_buffer feed (Pin 0 0) some refl refl refl
    (ap (λ (cell : ExCell). feed_at cell i) (same_Some upper_buffer is.cell is.cell_is) ∙ is.feed_is))
one_feed (suc (suc c)) i feed some is = absurd (let e = is.cell_is in cc)

apart : (feed : Feed) {P : Type 0} → feed ≡ Label 0 → feed ≡ Pin 0 0 → P
apart feed e f = let k : Label 0 ≡ Pin 0 0 = sym e ∙ f in absurd cc

same_place : (feed : Feed) (c i d j : ℕ) → IsOneFeed c i feed → IsOneFeed d j feed → (c ≡ d) × (i ≡ j)
same_place feed c i d j (inl a) (inl b) = (a.cell_is ∙ sym b.cell_is, a.input_is ∙ sym b.input_is)
same_place feed c i d j (inl a) (inr b) = apart feed a.feed_is b.feed_is
same_place feed c i d j (inr a) (inl b) = apart feed b.feed_is a.feed_is
same_place feed c i d j (inr a) (inr b) = (a.cell_is ∙ sym b.cell_is, a.input_is ∙ sym b.input_is)

each_input : (n : ℕ) → n < 1 → IsTaken first_circuit n
unfolding first_circuit
each_input zero lt = record {
  number = 0;
  input = 0;
  fed = record { cell = lower_buffer; cell_is = refl; feed_is = refl };
}
each_input (suc n) lt = absurd (omega arith)

outputs : (k : ℕ) (source : Source) → slice_get first_circuit.outputs k ≡ Some source
    → IsOutputBelow first_circuit 2 source
unfolding first_circuit
outputs zero source is = subst (IsOutputBelow first_circuit 2) (same_Some upper_output source is)
    (record { cell = upper_buffer; cell_is = refl; just_below = refl; has_output = omega arith })
outputs (suc k) source is = absurd cc

only_output : (c o : ℕ) → IsOutputBelow first_circuit 2 (record { cell = c; output = o })
    → IsShown first_circuit (record { cell = c; output = o })
unfolding first_circuit
only_output zero o is =
    let row : is.cell.row ≡ 0 = ap (λ (cell : ExCell). cell.row) (sym (same_Some lower_buffer is.cell is.cell_is)) in
    absurd (omega (arith, is.just_below))
only_output (suc zero) zero is = record { number = 0; shown = refl }
only_output (suc zero) (suc o) is =
    let one : outputs_of is.cell.kind ≡ 1 = ap (λ (cell : ExCell). outputs_of cell.kind)
    (sym (same_Some upper_buffer is.cell is.cell_is)) in
    absurd (omega (arith, is.has_output))
only_output (suc (suc c)) o is = absurd (let e = is.cell_is in cc)

shown_once : (k l : ℕ) (source : Source) → slice_get first_circuit.outputs k ≡ Some source
    → slice_get first_circuit.outputs l ≡ Some source → k ≡ l
unfolding first_circuit
shown_once zero zero source e f = refl
shown_once zero (suc l) source e f = absurd cc
shown_once (suc k) l source e f = absurd cc

pub kept_facts : KeepsFacts first_circuit
unfolding first_circuit
kept_facts = record {
  some_row = omega arith;
  each_row = each_row;
  rising = rising;
  cells = cells;
  once = λ feed c i d j some first second. same_place feed c i d j (one_feed c i feed some first)
      (one_feed d j feed some second);
  each_input = each_input;
  outputs = outputs;
  each_output = λ source is. only_output source.cell source.output is;
  shown_once = shown_once;
  few_cells = omega arith;
  few_outputs = omega arith;
  few_shapes = omega arith;
}
