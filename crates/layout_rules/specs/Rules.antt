-- The rules of a chip, in the order in which they are tried, and the first that is broken.
use Rattle.std.specs.Prelude.{◌≡◌, ℕ, ◌<◌, ◌≤◌}
use Rattle.geom.specs.declared.shapes.Flat.{Flat}
use Rattle.layout_rules.specs.declared.rule.Rule.{Rule}
use Rattle.layout_rules.specs.declared.rule.Rule.TheVariants.{E1, E2, E3, E4, E5, E6, G1, G2, G3, G4, G5}
use Rattle.layout_rules.specs.Limits.{Limits}
use Rattle.layout_rules.specs.Reports.{ReportsNone, IsFirstReport}
use Rattle.layout_rules.specs.CircuitRules.{CellsBroken, NetsBroken, RowsBroken, LabelsBroken}
use Rattle.layout_rules.specs.ExcitationRule.{ExcitationBroken}
use Rattle.layout_rules.specs.GeometryRules.{SizesBroken, SpacingBroken, EnclosureBroken, CoverBroken, FramesBroken}
use Rattle.layout_rules.specs.LengthRule.{LengthsBroken}
use Rattle.layout_rules.specs.RuleTable.{place, first_of_geometry}

-- the rule reports these numbers
abbrev pub Broken : Rule → Flat → Limits → ℕ → ℕ → Type 0
Broken E1 flat limits = CellsBroken flat.shapes
Broken E2 flat limits = ExcitationBroken flat.shapes
Broken E3 flat limits = NetsBroken flat
Broken E4 flat limits = RowsBroken flat
Broken E5 flat limits = LengthsBroken limits flat.shapes
Broken E6 flat limits = LabelsBroken flat
Broken G1 flat limits = SizesBroken limits flat.shapes
Broken G2 flat limits = SpacingBroken limits flat.shapes
Broken G3 flat limits = EnclosureBroken limits flat.shapes
Broken G4 flat limits = CoverBroken flat.shapes
Broken G5 flat limits = FramesBroken flat.shapes

-- the rule reports nothing
abbrev pub Keeps : Rule → Flat → Limits → Type 0
Keeps rule flat limits = ReportsNone (Broken rule flat limits)

-- no rule reports anything
abbrev pub KeepsRules : Flat → Limits → Type 0
KeepsRules flat limits = (rule : Rule) → Keeps rule flat limits

-- the rules of circuits report nothing
abbrev pub KeepsCircuitRules : Flat → Limits → Type 0
KeepsCircuitRules flat limits = (rule : Rule) → place rule < first_of_geometry → Keeps rule flat limits

-- the rules of geometry and of lengths report nothing
abbrev pub KeepsGeometryRules : Flat → Limits → Type 0
KeepsGeometryRules flat limits = (rule : Rule) → first_of_geometry ≤ place rule → Keeps rule flat limits

-- the rules that are tried before this one report nothing
abbrev pub KeepsBefore : Rule → Flat → Limits → Type 0
KeepsBefore rule flat limits = (other : Rule) → place other < place rule → Keeps other flat limits

-- the first rule that is broken, with the first numbers that it reports
pub record FirstBroken (flat : Flat) (limits : Limits) (rule : Rule) (a b : ℕ) : Type 0 where
  pub report : IsFirstReport (Broken rule flat limits) a b
  pub kept_before : KeepsBefore rule flat limits

-- some rule is the first that is broken, with the first two numbers that it reports
pub record HasFirstBroken (flat : Flat) (limits : Limits) : Type 0 where
  pub rule : Rule
  pub first : ℕ
  pub second : ℕ
  pub is_first : FirstBroken flat limits rule first second

-- what two searches find is one rule and one report
pub record IsOneReport (rule other : Rule) (a b c d : ℕ) : Type 0 where
  pub one_rule : rule ≡ other
  pub one_first : a ≡ c
  pub one_second : b ≡ d

-- the first broken one of the rules of geometry, whatever the others are
pub record FirstBrokenOfGeometry (flat : Flat) (limits : Limits) (rule : Rule) (a b : ℕ) : Type 0 where
  pub of_geometry : first_of_geometry ≤ place rule
  pub report : IsFirstReport (Broken rule flat limits) a b
  pub kept_before : (other : Rule) → first_of_geometry ≤ place other → place other < place rule
      → Keeps other flat limits
