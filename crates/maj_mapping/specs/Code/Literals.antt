-- One literal, as the code adds it to those before.
use Rattle.std.specs.Prelude.{ℕ, true, false, eqb, List, [], ◌∷◌}
use Rattle.circuit.specs.declared.gate.Gate.{Gate}
use Rattle.maj_mapping.specs.Operations.{MadeAll, inv}

-- the literal of a byte over the gate of its input: the gate for `1` (49), its inverse for `0` (48), and none for `-`
abbrev pub literal : ℕ → List Gate → ℕ → ℕ → MadeAll
literal n gs b x =
    elim (eqb b 49) [
      | true ↦ record { gates = gs; ats = x ∷ [] }
      | false ↦
          elim (eqb b 48) [
            | true ↦ (let m = inv n gs x in record { gates = m.gates; ats = m.at ∷ [] })
            | false ↦
                record { gates = gs; ats = [] }
          ]
    ]
