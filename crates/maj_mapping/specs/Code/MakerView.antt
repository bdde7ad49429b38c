-- What contracts see of a maker of gates.
use Rattle.std.specs.Prelude.{ℕ, List}
use Rattle.circuit.specs.declared.gate.Gate.{Gate}

-- how many inputs there are, and the gates so far
pub record MakerView : Type 0 where
  pub inputs : ℕ
  pub gates : List Gate

-- the maker with these gates
abbrev pub with_gates : MakerView → List Gate → MakerView
with_gates maker gates = record { inputs = maker.inputs; gates = gates }
