-- What the rules report of chips with one fault, computed.
use Rattle.std.proofs.Common.{refl}
use Rattle.geom.specs.FirstChip.{first_flat}
use Rattle.layout_rules.specs.FirstLimits.{first_limits}
use Rattle.layout_rules.specs.FaultyChips.{with_moved_via, without_starts}
use Rattle.layout_rules.specs.Reports.{IsFirstReport}
use Rattle.layout_rules.specs.GeometryRules.{EnclosureBroken}
use Rattle.layout_rules.specs.ExcitationRule.{ExcitationBroken}
use Rattle.layout_rules.proofs.Computed.{found_first}
use Rattle.layout_rules.proofs.JudgedGeometry.{enclosure_judged}
use Rattle.layout_rules.proofs.JudgedLines.{chains_judged}
use Rattle.layout_rules.proofs.LinesAgree.{excitation_first}

pub moved_via : IsFirstReport (EnclosureBroken first_limits with_moved_via.shapes) 8 8
unfolding with_moved_via first_flat
moved_via = found_first (enclosure_judged first_limits with_moved_via.shapes) 8 8 refl

pub no_starts : IsFirstReport (ExcitationBroken without_starts.shapes) 3 3
unfolding without_starts first_flat
no_starts = excitation_first without_starts.shapes 3 3 (found_first (chains_judged without_starts.shapes) 3 3 refl)
