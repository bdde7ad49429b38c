-- The first chip keeps all rules, and its two lines excite its two rows.
use Rattle.std.proofs.Common.{refl}
use Rattle.geom.specs.FirstChip.{first_flat}
use Rattle.layout_rules.specs.ExcitationRule.{ExcitationBroken}
use Rattle.layout_rules.specs.FirstLimits.{first_limits}
use Rattle.layout_rules.specs.Reports.{ReportsNone}
use Rattle.layout_rules.specs.Rules.{KeepsRules}
use Rattle.layout_rules.proofs.FirstWire.{first_nets, first_paths}
use Rattle.layout_rules.proofs.NetPaths.{nets_from}
use Rattle.layout_rules.proofs.RuleLaws.{rules}
use Rattle.layout_rules.proofs.ShortLines.{lines_kept}
use Rattle.layout_rules.proofs.Worked.{keeps}

pub excitation_kept : ReportsNone (ExcitationBroken first_flat.shapes)
unfolding first_flat
excitation_kept = lines_kept _ 3 4 13 14 refl refl refl refl refl

pub all_kept : KeepsRules first_flat first_limits
unfolding first_flat rules
all_kept = keeps _ _ _ (nets_from _ first_nets first_paths refl refl refl) excitation_kept refl
