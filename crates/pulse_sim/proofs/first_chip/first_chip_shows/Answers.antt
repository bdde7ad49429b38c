-- A buffer over a buffer answers each word of one bit by the word itself.
use Rattle.std.proofs.Common.{◌≡◌, zero, suc, Bool, List, [], ◌∷◌, length, refl, ap, arith}
use Rattle.std.specs.List.{All, AllZip, AllByRecursion}
use Rattle.std.proofs.lemmas.List.Elements.{recursion_from_All}
use Rattle.std.proofs.lemmas.Option.{same_Some}
use Rattle.circuit_extracted.specs.declared.cells.ExCell.{ExCell}
use Rattle.circuit_extracted.specs.Circuits.{KeepsFacts}
use Rattle.circuit_extracted.specs.Answers.{cell_value, IsValuation, IsAnswer}
use Rattle.circuit_extracted.specs.FirstCircuit.{lower_buffer, upper_buffer, first_circuit}
use Rattle.pulse_sim.specs.Shows.{Shows}
use Rattle.pulse_sim.proofs.EveryOrder.{shows}
use Rattle.pulse_sim.proofs.first_chip.first_chip_shows.Goals as goal

fits : (bit : Bool) → IsValuation first_circuit (bit ∷ []) (λ c. bit)
unfolding first_circuit
fits bit zero cell is = ap (λ (x : ExCell). cell_value (bit ∷ []) (λ c. bit) x) (same_Some lower_buffer cell is)
fits bit (suc zero) cell is = ap (λ (x : ExCell). cell_value (bit ∷ []) (λ c. bit) x) (same_Some upper_buffer cell is)
fits bit (suc (suc c)) cell is = absurd cc

answer : (word : List Bool) → length word ≡ 1 → IsAnswer first_circuit word word
unfolding first_circuit
answer [] wide = absurd cc
answer (bit ∷ []) wide = record { value = λ c. bit; fits = fits bit; answer_is = refl }
answer (bit ∷ other ∷ word) wide = absurd (omega arith)

answers : (words : List (List Bool)) → AllByRecursion (λ word. length word ≡ 1) words
    → AllZip (IsAnswer first_circuit) words words
answers [] wide = tt
answers (word ∷ words) wide = (answer word wide.0, answers words wide.1)

shown : KeepsFacts first_circuit → (words : List (List Bool)) → All (λ word. length word ≡ 1) words
    → Shows first_circuit 1 words words
unfolding first_circuit
shown keeps words wide = shows first_circuit words words keeps wide
    (answers words (recursion_from_All (λ word. length word ≡ 1) words wide))

pub returns : goal.returns
returns c = shown c.first_circuit_keeps.ensures
