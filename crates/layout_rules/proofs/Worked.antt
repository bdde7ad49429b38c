-- A chip whose excitation lines are one start and one bar each, judged by computing.
use Rattle.std.proofs.Common.{◌≡◌, ℕ, List, Some, None, inl}
use Rattle.geom.specs.declared.shapes.Flat.{Flat}
use Rattle.layout_rules.specs.declared.rule.Rule.{Rule}
use Rattle.layout_rules.specs.Limits.{Limits}
use Rattle.layout_rules.specs.Nets.{AreNets}
use Rattle.layout_rules.specs.ExcitationRule.{ExcitationBroken}
use Rattle.layout_rules.specs.Reports.{ReportsNone}
use Rattle.layout_rules.specs.Rules.{KeepsRules, FirstBroken}
use Rattle.layout_rules.proofs.RuleLaws.{rules}
use Rattle.layout_rules.proofs.Computed.{told_first, first_broken, all_kept}

module _ (flat : Flat) (limits : Limits) (nets : List ℕ) (are : AreNets flat.shapes nets)
    (lines : ReportsNone (ExcitationBroken flat.shapes)) where
  pub breaks : (rule : Rule) (a b : ℕ) → told_first flat limits (nets, are) (inl lines) rules ≡ Some (rule, (a, b))
      → FirstBroken flat limits rule a b
  breaks rule a b e = first_broken flat limits (nets, are) (inl lines) (rule, (a, b)) e

  pub keeps : told_first flat limits (nets, are) (inl lines) rules ≡ None → KeepsRules flat limits
  keeps e = all_kept flat limits (nets, are) (inl lines) e
