-- A circuit of such gates has one answer to each word: the values that its gates' equations give.
use Rattle.std.specs.Prelude.{◌≡◌, ℕ, zero, suc, not, ◌<◌, Bool, List, [], ◌∷◌, length, map, Option, Some, None}
use Rattle.std.specs.Prelude.{slice_get}
use Rattle.std.specs.List.{AllByRecursion}
use Rattle.std.proofs.Common.{refl, sym, ap, ◌∙◌, arith, get_or}
use Rattle.std.proofs.lemmas.Option.{slice_get-get_or}
use Rattle.std.proofs.lemmas.List.{length-map}
use Rattle.circuit.specs.Gates.{gate_value, Fits, equation_of, equation}
use Rattle.circuit.specs.PlainNets.{PlainView, MayStand, AreGates, IsPlainNet, IsAnswer}
use Rattle.circuit.specs.Function.{majority}
use Rattle.circuit.specs.Ranked.{IsRanked, solution}
use Rattle.circuit.proofs.Solutions.{some_solution}
use Rattle.circuit.specs.declared.gate.Gate.{Gate}
use Rattle.circuit.specs.declared.gate.Gate.TheVariants.{Input, Zero, One, Buf, Inv, Maj}
use Rattle.circuit.specs.CellNets.{Reads, AreCells, IsCells, value}
use Rattle.circuit.specs.OneAnswer.{HasOneAnswer}

-- a gate reads lower gates alone
pub gate_same : (n i : ℕ) (g : Gate) → Reads n i g → (word : List Bool) (v w : ℕ → Bool)
    → ((x : ℕ) → x < i → v x ≡ w x) → gate_value word v g ≡ gate_value word w g
gate_same n i (Input k) reads word v w same = refl
gate_same n i Zero reads word v w same = refl
gate_same n i One reads word v w same = refl
gate_same n i (Buf x) reads word v w same = same x reads
gate_same n i (Inv x) reads word v w same = ap not (same x reads)
gate_same n i (Maj x y z) reads word v w same =
    ap (λ b. majority b (v y) (v z)) (same x reads.0) ∙ ap (λ b. majority (w x) b (v z)) (same y reads.1)
    ∙ ap (majority (w x) (w y)) (same z reads.2)

module _ (n : ℕ) (gates : List Gate) (ok : AreCells n gates) (word : List Bool) where
  -- and so does its equation
  same_equation : (i : ℕ) (v w : ℕ → Bool) → ((x : ℕ) → x < i → v x ≡ w x)
      → (o : Option Gate) → slice_get gates i ≡ o → equation_of word v o ≡ equation_of word w o
  same_equation i v w same None is = refl
  same_equation i v w same (Some g) is = gate_same n i g (ok i g is) word v w same

  -- so the numbers of gates rank the equations
  is_ranked : IsRanked (λ i. i) (equation gates word)
  is_ranked i v w same = same_equation i v w same (slice_get gates i) refl

  -- each gate has the value that its equation gives
  pub value_fits : Fits word (value gates word) gates
  unfolding value
  value_fits i g is =
      some_solution (λ i. i) (equation gates word) is_ranked i
      ∙ ap (equation_of word (solution (λ i. i) (equation gates word))) is

  -- two valuations agree at each gate below a bound
  fits_below : (v w : ℕ → Bool) → Fits word v gates → Fits word w gates
      → (k i : ℕ) → i < k → i < length gates → v i ≡ w i
  fits_below v w first second zero i lt within = absurd (omega arith)
  fits_below v w first second (suc k) i lt within =
      let g = get_or gates i Zero in
      let is = slice_get-get_or gates i Zero within in
      first i g is
      ∙ gate_same n i g (ok i g is) word v w (λ x below. fits_below v w first second k x (omega arith) (omega arith))
      ∙ sym (second i g is)

  -- so there is one valuation
  pub one_value : (v : ℕ → Bool) → Fits word v gates → (i : ℕ) → i < length gates → v i ≡ value gates word i
  one_value v fits i within = fits_below v (value gates word) fits value_fits (suc i) i (omega arith) within

-- values that agree at the gates show the same outputs
pub same_shown : (v w : ℕ → Bool) (count : ℕ) → ((i : ℕ) → i < count → v i ≡ w i)
    → (outputs : List ℕ) → AllByRecursion (λ x. x < count) outputs → map v outputs ≡ map w outputs
same_shown v w count same [] all = refl
same_shown v w count same (o ∷ os) all =
    ap (λ b. b ∷ map v os) (same o all.0) ∙ ap (λ bs. w o ∷ bs) (same_shown v w count same os all.1)

-- a gate that may stand in a plain net reads lower ones
stands_reads : (n i : ℕ) (g : Gate) → MayStand n i g → Reads n i g
stands_reads n i (Input k) may = omega arith
stands_reads n i Zero may = tt
stands_reads n i One may = tt
stands_reads n i (Buf x) may = may.1
stands_reads n i (Inv x) may = may.1
stands_reads n i (Maj x y z) may = (may.1, may.2, may.3)

-- so do the gates of a plain net
pub gates_read : (n : ℕ) (gates : List Gate) → AreGates n gates → AreCells n gates
gates_read n gates ok i g is = stands_reads n i g (ok.stands i g is)

-- a plain net is such a circuit
pub plain_is_cells : (net : PlainView) → IsPlainNet net → IsCells net
plain_is_cells net ok = record {
  gates_read = gates_read net.inputs net.gates ok.gates_stand;
  each_output = ok.each_output;
  few_outputs = ok.few_outputs;
}

-- each word has an answer
pub some_answer : (net : PlainView) (word : List Bool) → IsCells net → (answer : List Bool) × IsAnswer net word answer
some_answer net word ok = (
  map (value net.gates word) net.outputs,
  record {
    values = value net.gates word;
    fit = value_fits net.inputs net.gates ok.gates_read word;
    shown = refl;
  },
)

-- what a circuit answers shows the values of its outputs
pub the_answer : (net : PlainView) (word answer : List Bool) → IsCells net → IsAnswer net word answer
    → answer ≡ map (value net.gates word) net.outputs
the_answer net word answer ok a =
    a.shown
    ∙ same_shown a.values (value net.gates word) (length net.gates)
    (one_value net.inputs net.gates ok.gates_read word a.values a.fit) net.outputs ok.each_output

-- and no other
pub one_answer : (net : PlainView) (word a b : List Bool) → IsCells net → IsAnswer net word a → IsAnswer net word b
    → a ≡ b
one_answer net word a b ok p q = the_answer net word a ok p ∙ sym (the_answer net word b ok q)

-- an answer has a value for each output
pub answer_length : (net : PlainView) (word answer : List Bool) → IsAnswer net word answer
    → length answer ≡ length net.outputs
answer_length net word answer a = ap length a.shown ∙ length-map net.outputs a.values

-- so a circuit of such gates has one answer to each word
pub cells_once : (net : PlainView) → IsCells net → HasOneAnswer net.inputs (length net.outputs) (IsAnswer net)
cells_once net ok = record {
  some = λ x long. some_answer net x ok;
  only = λ x y z long a b. one_answer net x y z ok a b;
  whole = λ x y long a. answer_length net x y a;
}

-- and so has a plain net
pub plain_once : (net : PlainView) → IsPlainNet net → HasOneAnswer net.inputs (length net.outputs) (IsAnswer net)
plain_once net ok = cells_once net (plain_is_cells net ok)
