-- Literals of gates have the gates' values.
use Rattle.std.specs.Prelude.{◌≡◌, ℕ, ◌+◌, ◌*◌, ◌<◌, not, Bool, List, [], ◌∷◌, ◌++◌, length, map, IfOk}
use Rattle.std.specs.List.{AllByRecursion}
use Rattle.std.proofs.Common.{Result, Ok, Err, refl, sym, ap, ◌∙◌, subst, arith, inl, inr, get_or}
use Rattle.std.proofs.lemmas.Option.{slice_get-get_or}
use Rattle.std.proofs.lemmas.Bool.{cases_lt}
use Rattle.std.proofs.lemmas.List.{length-map}
use Rattle.circuit.specs.declared.gate.Gate.{Gate}
use Rattle.circuit.specs.declared.gate.Gate.TheVariants.{Input, Zero, One, Inv, Maj}
use Rattle.circuit.specs.Gates.{gate_value}
use Rattle.circuit.specs.CellNets.{Reads, AreCells, value}
use Rattle.circuit.proofs.CellAnswers.{gate_same, value_fits}
use Rattle.mig.specs.Graphs.{literal_value, node_value, turned}
use Rattle.mig.specs.Building.{BuilderView, Grown, Gives}
use Rattle.mig.proofs.Folded.{turned_value, turned_below}
use Rattle.mig.proofs.Built.{grown_same, grown_then, fits_before, limit_grows, even_value, odd_value}
use Rattle.mig.proofs.Shown.{seam, front, one_longer}
use Rattle.sat_sweep.specs.Code.GateLiterals.{literal_of, AreThere, GivesGate, AreLiterals, ShowOutputs}

pub input_given : (b : BuilderView) (literals : List ℕ) (gate : Gate) (i : ℕ) → gate ≡ Input i
    → Reads b.inputs (length literals) gate → GivesGate b literals gate (2 * (1 + i))
input_given b literals gate i is reads =
    let lt : i < b.inputs = subst (Reads b.inputs (length literals)) is reads in
    rw is (record { below = omega arith; shows = λ word v fit. even_value v (1 + i) ∙ fit.of_input i lt })

pub zero_given : (b : BuilderView) (literals : List ℕ) (gate : Gate) → gate ≡ Zero → GivesGate b literals gate 0
zero_given b literals gate is =
    rw is (record { below = omega arith; shows = λ word v fit. even_value v 0 ∙ fit.none })

pub one_given : (b : BuilderView) (literals : List ℕ) (gate : Gate) → gate ≡ One → GivesGate b literals gate 1
one_given b literals gate is =
    rw is (record { below = omega arith; shows = λ word v fit. odd_value v 1 refl ∙ ap not fit.none })

pub turned_given : (b : BuilderView) (literals : List ℕ) (gate : Gate) (x l t : ℕ) → gate ≡ Inv x
    → AreThere b literals (length literals) → Reads b.inputs (length literals) gate → l ≡ literal_of literals x
    → t ≡ turned l → GivesGate b literals gate t
turned_given b literals gate x l t is there reads e f =
    rw is (rw (f ∙ ap turned e) (record {
      below = turned_below (1 + b.inputs + length b.nodes) (literal_of literals x)
          (there x (subst (Reads b.inputs (length literals)) is reads));
      shows = λ word v fit. turned_value v (literal_of literals x);
    }))

-- where maj gives a literal
pub if_three : {E : Type 0} (r : Result ℕ E) (b : BuilderView) (literals : List ℕ) (gate : Gate) (x y z l m n : ℕ)
    → gate ≡ Maj x y z → l ≡ literal_of literals x → m ≡ literal_of literals y → n ≡ literal_of literals z
    → IfOk r (λ given. Gives b given (λ v. node_value v (record { x = l; y = m; z = n })))
    → IfOk r (GivesGate b literals gate)
unfolding node_value
if_three (Err e) b literals gate x y z l m n is p q s gives = tt
if_three (Ok given) b literals gate x y z l m n is p q s gives =
    rw is (record { below = gives.below; shows = λ word v fit. gives.shows word v fit ∙ cc })

-- what holds as literals are made for gates
pub record IsMaking (start now : BuilderView) (literals : List ℕ) (gates : List Gate) (count : ℕ) : Type 0 where
  pub grown : Grown start now
  pub literals_are : AreLiterals now literals gates count

pub making_begins : (b : BuilderView) (literals : List ℕ) (gates : List Gate) → literals ≡ []
    → IsMaking b b literals gates 0
making_begins b literals gates empty = record {
  grown = grown_same b b refl;
  literals_are = record {
    size = ap length empty;
    there = λ i lt. absurd (omega arith);
    shows = λ i lt. absurd (omega arith);
  };
}

module _ (start now : BuilderView) (literals : List ℕ) (gates : List Gate) (count : ℕ)
    (making : IsMaking start now literals gates count) (cells : AreCells start.inputs gates)
    (within : count < length gates) where
  abbrev gate : Gate
  gate = get_or gates count (Input 0)

  reads : Reads start.inputs count gate
  reads = cells count gate (slice_get-get_or gates count (Input 0) within)

  pub gate_reads : (read : List ℕ) → read ≡ literals → Reads now.inputs (length read) gate
  gate_reads read same =
      rw making.grown.same_inputs (rw (ap length same ∙ making.literals_are.size) reads)

  pub gate_there : (read : List ℕ) → read ≡ literals → AreThere now read (length read)
  gate_there read same i lt =
      rw same (making.literals_are.there i (let s = ap length same ∙ making.literals_are.size in omega arith))

  pub making_more : (read : List ℕ) → read ≡ literals → (new : BuilderView) → Grown now new → (l : ℕ)
      → GivesGate new read gate l → (more : List ℕ) → more ≡ literals ++ l ∷ []
      → IsMaking start new more gates (count + 1)
  making_more read same new grown l given more is = record {
    grown = grown_then start now new making.grown grown;
    literals_are = record {
      size = one_longer literals more l is ∙ ap (λ n. n + 1) making.literals_are.size;
      there = λ i lt. elim (cases_lt i count) [
        | inl less ↦
            let e = front literals more l i is (let s = making.literals_are.size in omega arith) in
            let low = making.literals_are.there i less in
            let le = limit_grows now new grown in
            omega arith
        | inr ge ↦ rw (last i (omega arith)) given.below
      ];
      shows = λ i lt word v fit. elim (cases_lt i count) [
        | inl less ↦
            ap (literal_value v) (front literals more l i is (let s = making.literals_are.size in omega arith))
            ∙ making.literals_are.shows i less word v (fits_before now new grown word v fit)
        | inr ge ↦
            let z : i ≡ count = omega arith in
            let here = slice_get-get_or gates count (Input 0) within in
            ap (literal_value v) (last i z) ∙ given.shows word v fit
            ∙ ap (λ (ls : List ℕ). gate_value word (λ j. literal_value v (literal_of ls j)) gate) same
            ∙ gate_same start.inputs count gate reads word (λ j. literal_value v (literal_of literals j))
            (value gates word)
            (λ j below. making.literals_are.shows j below word v (fits_before now new grown word v fit))
            ∙ sym (value_fits start.inputs gates cells word count gate here) ∙ ap (value gates word) (sym z)
      ];
    };
  }
    where
      last : (i : ℕ) → i ≡ count → literal_of more i ≡ l
      last i z = ap (literal_of more) (z ∙ sym making.literals_are.size) ∙ seam literals more l is

pub ruleset makings = (making_begins, gate_reads, gate_there)

-- literals of outputs
pub show_outputs : (b : BuilderView) (literals read : List ℕ) (gates : List Gate) (outputs given : List ℕ)
    → AreLiterals b literals gates (length gates) → read ≡ literals
    → AllByRecursion (λ x. x < length gates) outputs → given ≡ map (literal_of read) outputs
    → ShowOutputs b gates outputs given
show_outputs b literals read gates outputs given are same within is = record {
  size = ap length is ∙ length-map outputs (literal_of read);
  shows = λ word v fit.
      ap (map (literal_value v)) (is ∙ ap (λ (ls : List ℕ). map (literal_of ls) outputs) same)
      ∙ each word v (λ i lt. are.shows i lt word v fit) outputs within;
}
  where
    each : (word : List Bool) (v : ℕ → Bool)
        → ((i : ℕ) → i < length gates → literal_value v (literal_of literals i) ≡ value gates word i)
        → (xs : List ℕ) → AllByRecursion (λ x. x < length gates) xs
        → map (literal_value v) (map (literal_of literals) xs) ≡ map (value gates word) xs
    each word v show [] all = refl
    each word v show (x ∷ xs) all =
        let first = show x all.0 in
        let rest = each word v show xs all.1 in
        cc

-- each output names a gate that has a literal
pub outputs_within : (literals read : List ℕ) (gates : List Gate) (outputs : List ℕ)
    → length literals ≡ length gates → read ≡ literals
    → AllByRecursion (λ x. x < length gates) outputs → AllByRecursion (λ x. x < length read) outputs
outputs_within literals read gates outputs size same within =
    rw (ap length same ∙ size) within
