-- What two passes, the second after the first, may meet.
use Rattle.circuit.specs.declared.pass.ThenRefusal.{ThenRefusal}
use Rattle.circuit.specs.declared.pass.ThenRefusal.TheVariants.{First, Second}

-- a fact of the refusal that is inside: that of the first pass, or that of the second
abbrev pub OfPart : {R S : Type 0} → (R → Type 0) → (S → Type 0) → ThenRefusal R S → Type 0
OfPart P Q (First r) = P r
OfPart P Q (Second s) = Q s
