use Rattle.std.proofs.Common.{◌≡◌, [], ◌∷◌, arith}
use Rattle.std.specs.Fmt.{decimal}
use Rattle.std.proofs.lemmas.Fmt.{decimal_digit}
use Rattle.sample_adder.specs.Adder.{adder, head, foot, half_adder, gate}
use Rattle.sample_adder.proofs.laws.worked_sample.Goals as goal

pub returns-clause-text : goal.returns-clause-text
unfolding adder head foot half_adder gate
returns-clause-text c =
    let zero : decimal 0 ≡ 48 ∷ [] = decimal_digit 0 (omega arith) in
    let one : decimal 1 ≡ 49 ∷ [] = decimal_digit 1 (omega arith) in
    simp (zero, one)
