-- What an extraction answers: the circuit of a layout that keeps the rules of circuits, or the first of these rules
-- that is broken.
use Rattle.std.specs.Prelude.{ℕ, ◌<◌}
use Rattle.geom.specs.declared.shapes.Flat.{Flat}
use Rattle.layout_rules.specs.declared.rule.Rule.{Rule}
use Rattle.layout_rules.specs.Limits.{Limits}
use Rattle.layout_rules.specs.Reports.{ReportsNone}
use Rattle.layout_rules.specs.CircuitRules.{CellsBroken, NetsBroken, RowsBroken, LabelsBroken}
use Rattle.layout_rules.specs.ExcitationRule.{ExcitationBroken, IsExcitedAt}
use Rattle.layout_rules.specs.RuleTable.{place, first_of_geometry}
use Rattle.layout_rules.specs.Rules.{KeepsCircuitRules, FirstBroken}
use Rattle.shape_extract.specs.declared.extraction.ExtractRefusal.{ExtractRefusal}
use Rattle.shape_extract.specs.declared.extraction.ExtractRefusal.TheVariants.{Broken, Memory}
use Rattle.circuit_extracted.specs.Circuits.{CircuitView}
use Rattle.shape_extract.specs.Extraction.{IsCircuitOf}

-- the layout keeps the rules of circuits, whatever the limits are, and this is its circuit
pub record Extracts (flat : Flat) (circuit : CircuitView) : Type 0 where
  pub kept : (limits : Limits) → KeepsCircuitRules flat limits
  pub circuit_is : IsCircuitOf flat circuit

-- the first broken rule is one of circuits, whatever the limits are, with the first numbers that it reports
pub record BreaksCircuit (flat : Flat) (rule : Rule) (a b : ℕ) : Type 0 where
  pub of_circuit : place rule < first_of_geometry
  pub first : (limits : Limits) → FirstBroken flat limits rule a b

-- a fact for the broken rule of a refusal that is no want of memory
abbrev pub IfBroken : ExtractRefusal → (Rule → ℕ → ℕ → Type 0) → Type 0
IfBroken (Broken rule first second) P = P rule first second
IfBroken Memory P = Unit {0}

-- nothing breaks the rules of circuits, which read no limits; so each frame is excited in the phase of its row
pub record KeepsFive (flat : Flat) : Type 0 where
  pub cells : ReportsNone (CellsBroken flat.shapes)
  pub lines : ReportsNone (ExcitationBroken flat.shapes)
  pub nets : ReportsNone (NetsBroken flat)
  pub rows : ReportsNone (RowsBroken flat)
  pub labels : ReportsNone (LabelsBroken flat)
  pub excited : (f : ℕ) → IsExcitedAt flat.shapes f
