-- The stages of a check in steps.
use Rattle.std.specs.Prelude.{ℕ, ◌≡◌, ◌<◌, ◌^◌, List, ◌∷◌}
use Rattle.geom.specs.declared.shapes.Flat.{Flat}
use Rattle.geom.specs.FlatForm.{flat_count}
use Rattle.layout_rules.specs.Limits.{Limits}
use Rattle.layout_rules.specs.Rules.{KeepsRules, FirstBroken}
use Rattle.circuit_extracted.specs.Circuits.{CircuitView}
use Rattle.shape_extract.specs.Extraction.{IsCircuitOf}
use Rattle.shape_extract.specs.Extracts.{Extracts}
use Rattle.aqfp_top.specs.Stages.{Stage, Stream, Size, Cells, Rules}
use Rattle.aqfp_top.specs.declared.judge.JudgedChip.{JudgedChip}
use Rattle.aqfp_top.specs.declared.fault.Large.TheVariants.{Shapes}
use Rattle.aqfp_top.specs.declared.fault.Fault.{Fault}
use Rattle.aqfp_top.specs.declared.fault.Fault.TheVariants.{BadLibrary, MissingCell, TooLarge, BadStream, RuleBroken}
use Rattle.aqfp_top.specs.declared.fault.Fault.TheVariants.{BadWords, Memory}

-- judging the texts of a chip and of a library, and what follows
abbrev pub circuit_then : List ℕ → List ℕ → List Stage → List Stage
circuit_then gds lib rest = Stream gds ∷ Size gds ∷ Cells lib ∷ Rules gds lib ∷ rest

-- the faults of the rules with these numbers
abbrev pub IsBroken : Flat → Limits → Fault → Type 0
IsBroken flat limits (RuleBroken rule first second) = FirstBroken flat limits rule first second
IsBroken flat limits Memory = Unit {0}
IsBroken flat limits _ = ⊥

-- the shapes keep all rules with these numbers, and make this circuit
pub record IsRuled (flat : Flat) (limits : Limits) (circuit : CircuitView) : Type 0 where
  pub rules : KeepsRules flat limits
  pub circuit_is : IsCircuitOf flat circuit

-- the shapes keep all rules with these numbers, and make the circuit
pub record KeepsAll (limits : Limits) (chip : JudgedChip) : Type 0 where
  pub few : flat_count chip.flat < 2 ^ 32
  pub rules : KeepsRules chip.flat limits
  pub extracts : Extracts chip.flat chip.circuit

-- these are the shapes
pub record IsJudged (flat : Flat) (limits : Limits) (chip : JudgedChip) : Type 0 where
  pub flat_is : chip.flat ≡ flat
  pub keeps : KeepsAll limits chip

-- the faults of judging a layout and a library
abbrev pub IsCircuitFault : Fault → Type 0
IsCircuitFault (BadStream offset kind) = Unit {0}
IsCircuitFault (TooLarge Shapes count) = Unit {0}
IsCircuitFault (BadLibrary fault) = Unit {0}
IsCircuitFault (MissingCell kind) = Unit {0}
IsCircuitFault (RuleBroken rule first second) = Unit {0}
IsCircuitFault Memory = Unit {0}
IsCircuitFault _ = ⊥

-- the faults of judging a layout, a library and words
abbrev pub IsJudgingFault : Fault → Type 0
IsJudgingFault (BadStream offset kind) = Unit {0}
IsJudgingFault (TooLarge Shapes count) = Unit {0}
IsJudgingFault (BadLibrary fault) = Unit {0}
IsJudgingFault (MissingCell kind) = Unit {0}
IsJudgingFault (RuleBroken rule first second) = Unit {0}
IsJudgingFault (BadWords line) = Unit {0}
IsJudgingFault Memory = Unit {0}
IsJudgingFault _ = ⊥
