-- From literals of the outputs that are alike to equal answers.
use Rattle.std.specs.Prelude.{◌≡◌, ◌≢◌, ℕ, zero, suc, ◌<◌, Bool, List, [], ◌∷◌, length, map}
use Rattle.std.specs.Prelude.{slice_index_or}
use Rattle.std.proofs.Common.{sym, ◌∙◌, arith}
use Rattle.circuit.specs.declared.gate.Gate.{Gate}
use Rattle.circuit.specs.PlainNets.{PlainView}
use Rattle.circuit.specs.CellNets.{IsCells, value}
use Rattle.circuit.proofs.CellAnswers.{value_fits, the_answer}
use Rattle.decide.specs.Verdicts.{answer_alike, shown, IsLeastDifference}
use Rattle.mig.specs.Graphs.{literal_value, Fits}
use Rattle.mig.specs.Building.{BuilderView, IsBuilder, Grown}
use Rattle.mig.proofs.Valued.{some_fits}
use Rattle.mig.proofs.Built.{fits_before, grown_then}
use Rattle.sat_sweep.specs.Code.GateLiterals.{ShowOutputs}
use Rattle.sat_sweep.specs.Code.Merging.{AreAllAlike}
use Rattle.sat_sweep.specs.Code.Differences.{IsDifference}
use Rattle.sat_sweep.specs.Code.Least.{IsLeastCandidate}
use Rattle.sat_sweep.proofs.Merging.{maps_alike}

-- each output has the value of its literal
place_same : (word : List Bool) (gates : List Gate) (v : ℕ → Bool) (literals outputs : List ℕ) (k : ℕ)
    → k < length literals → map (literal_value v) literals ≡ map (value gates word) outputs
    → literal_value v (slice_index_or literals k 0) ≡ value gates word (slice_index_or outputs k 0)
place_same word gates v [] outputs k lt same = absurd (omega arith)
place_same word gates v (l ∷ ls) [] k lt same = absurd cc
place_same word gates v (l ∷ ls) (o ∷ os) zero lt same = cc
place_same word gates v (l ∷ ls) (o ∷ os) (suc k) lt same = place_same word gates v ls os k (omega arith) cc

-- the literals of both circuits' outputs show them in graphs from which the last one grew
module _ (one other : PlainView) (mid late last : BuilderView) (ok : IsBuilder last) (before : Grown mid late)
    (after : Grown late last) (literals others : List ℕ) (first : ShowOutputs mid one.gates one.outputs literals)
    (second : ShowOutputs late other.gates other.outputs others) (outputs : length other.outputs ≡ length one.outputs)
  where
    -- as the values of the last one's nodes do
    shows_first : (word : List Bool) (v : ℕ → Bool) → Fits last.inputs last.nodes word v
        → map (literal_value v) literals ≡ map (value one.gates word) one.outputs
    shows_first word v fit = first.shows word v (fits_before mid last (grown_then mid late last before after) word v fit)

    shows_second : (word : List Bool) (v : ℕ → Bool) → Fits last.inputs last.nodes word v
        → map (literal_value v) others ≡ map (value other.gates word) other.outputs
    shows_second word v fit = second.shows word v (fits_before late last after word v fit)

    -- of these values there are some for each word
    maps : AreAllAlike last literals others → (word : List Bool)
        → map (value one.gates word) one.outputs ≡ map (value other.gates word) other.outputs
    maps alike word =
        let v = some_fits last.inputs last.nodes ok.are_nodes word in
        sym (shows_first word v.0 v.1)
        ∙ maps_alike last literals others (second.size ∙ outputs ∙ sym first.size) alike word v.0 v.1
        ∙ shows_second word v.0 v.1

    pub all_alike : AreAllAlike last literals others → IsCells one → IsCells other → other.inputs ≡ one.inputs
        → answer_alike one other
    all_alike alike cells cells' inputs = record {
      same_inputs = inputs;
      same_outputs = outputs;
      there = λ x y long answer. record {
        values = value other.gates x;
        fit = value_fits other.inputs other.gates cells'.gates_read x;
        shown = the_answer one x y cells answer ∙ maps alike x;
      };
      back = λ x y long answer. record {
        values = value one.gates x;
        fit = value_fits one.inputs one.gates cells.gates_read x;
        shown = the_answer other x y cells' answer ∙ sym (maps alike x);
      };
    }

    -- where two literals have one value, so have the outputs
    shown_alike : (x : List Bool) (v : ℕ → Bool) (k : ℕ) → Fits last.inputs last.nodes x v → k < length literals
        → literal_value v (slice_index_or literals k 0) ≡ literal_value v (slice_index_or others k 0)
        → shown one k x ≡ shown other k x
    shown_alike x v k fit lt same =
        let e = first.size in
        let f = second.size in
        sym (place_same x one.gates v literals one.outputs k lt (shows_first x v fit)) ∙ same
        ∙ place_same x other.gates v others other.outputs k (omega arith) (shows_second x v fit)

    -- the first outputs that differ, and the least word at which they do
    pub least_difference : last.inputs ≡ one.inputs → (place : ℕ) (word : List Bool)
        → IsLeastCandidate last literals others place word → shown one place word ≢ shown other place word
        → IsLeastDifference one other place word
    least_difference inputs place word candidate differ = record {
      output_within = (let lt = candidate.within in let e = first.size in omega arith);
      long = candidate.least.long ∙ inputs;
      differ = differ;
      least_output = λ k x lt long.
          let v = some_fits last.inputs last.nodes ok.are_nodes x in
          let within = candidate.within in
          shown_alike x v.0 k v.1 (omega arith) ((candidate.below k lt).shows x v.0 v.1);
      least_word = λ x long early.
          let v = some_fits last.inputs last.nodes ok.are_nodes x in
          shown_alike x v.0 place v.1 candidate.within
          (candidate.least.before.shows x v.0 v.1 (long ∙ sym inputs) early);
    }

-- some output that differs
pub seen_difference : (one other : PlainView) (b : BuilderView) (literals : List ℕ) (place : ℕ) (word : List Bool)
    → length literals ≡ length one.outputs → b.inputs ≡ one.inputs → place < length literals → length word ≡ b.inputs
    → shown one place word ≢ shown other place word → IsDifference one other place word
seen_difference one other b literals place word size inputs within long differ = record {
  long = long ∙ inputs;
  at = record { within = omega arith; differ = differ };
}
