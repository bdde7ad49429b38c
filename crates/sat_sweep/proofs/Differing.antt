-- From values of gates to outputs that differ.
use Rattle.std.proofs.Common.{◌≡◌, ℕ, ◌<◌, Bool, List, length, slice_index_or, sym, ◌∙◌, arith}
use Rattle.std.proofs.lemmas.List.Elements.{All-from_recursion}
use Rattle.circuit.specs.PlainNets.{PlainView}
use Rattle.circuit.specs.Gates.{valuation}
use Rattle.circuit.specs.CellNets.{IsCells, value}
use Rattle.decide.specs.Verdicts.{shown, IsVerdict, IsRefusal}
use Rattle.decide.specs.declared.verdict.Verdict.TheVariants.{SomeDifference}
use Rattle.decide.specs.declared.refusal.DecideRefusal.TheVariants.{TooMany}
use Rattle.sat_sweep.specs.Code.Differences.{IsOther, DiffersAt, IsDifference}

-- the values of gates, by a list of them
abbrev AreValues : PlainView → List Bool → List Bool → Type 0
AreValues net word values = (i : ℕ) → i < length net.gates → valuation values i ≡ value net.gates word i

shown_value : (net : PlainView) (word values : List Bool) (place : ℕ) → IsCells net → AreValues net word values
    → place < length net.outputs → valuation values (slice_index_or net.outputs place 0) ≡ shown net place word
shown_value net word values place cells are less =
    are (slice_index_or net.outputs place 0)
    (All-from_recursion (λ x. x < length net.gates) net.outputs cells.each_output place 0 less)

pub differs_at : (a b : PlainView) (word values others : List Bool) (place : ℕ) → IsCells a → IsCells b
    → length b.outputs ≡ length a.outputs → AreValues a word values → AreValues b word others
    → IsOther a.outputs values b.outputs others place → DiffersAt a b place word
differs_at a b word values others place cells cells' same are are' other =
    let within : place < length b.outputs = (let less = other.within in omega (arith, less, same)) in
    record {
      within = other.within;
      differ = λ alike. other.differ
          (shown_value a word values place cells are other.within ∙ alike
          ∙ sym (shown_value b word others place cells' are' within));
    }

pub differs : (a b : PlainView) (functions output : ℕ) (word : List Bool) → IsRefusal a b (TooMany functions)
    → IsDifference a b output word → IsVerdict a b (SomeDifference output word)
differs a b functions output word many difference = record {
  output_within = difference.at.within;
  long = difference.long;
  differ = difference.at.differ;
  many = many.1;
}
