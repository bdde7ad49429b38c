use Rattle.std.proofs.lemmas.Result.{IfOk-weaker}
use Rattle.std.proofs.Common.{Some}
use Rattle.layout_rules.specs.Reports.{ReportsNone, IsFirstReport, Alone, Afterwards}
use Rattle.layout_rules.proofs.ReportLaws.{Afterwards-first, Afterwards-second}
use Rattle.layout_rules.specs.ExcitationRule.{IsCutOff, IsNotCrossed, IsUnexcited}
use Rattle.layout_rules.specs.Code.ChainRule.{IsChainUncrossed, IsChainUnexcited}
use Rattle.shape_extract.specs.Searches.{Finds}
use Rattle.shape_extract.specs.Code.Lines.{ExcitesFrames, ChainsExciteFrames}
use Rattle.shape_extract.proofs.LineTurns.{AlongLines, along_lines, excites_frames}
use Rattle.shape_extract.proofs.Searching.{after_none}
use Rattle.shape_extract.proofs.lines.excitation_rule.find_along_lines.Goals as goal

pub returns-in-Some-clause-finds : goal.returns-in-Some-clause-finds
returns-in-Some-clause-finds c =
    let here : IsFirstReport (Alone (IsCutOff c.args.shapes.now)) c.in-Some.report.first c.in-Some.report.second =
    rw c.in-Some.is at c.in_ok-cut_off.ensures in
    Afterwards-first (Alone (IsCutOff c.args.shapes.now))
    (Afterwards (Alone (IsNotCrossed c.args.shapes.now)) (Alone (IsUnexcited c.args.shapes.now))) _ _ here

pub returns-in-Some-uncrossed-clause-finds : goal.returns-in-Some-uncrossed-clause-finds
returns-in-Some-uncrossed-clause-finds c =
    let none : ReportsNone (Alone (IsCutOff c.args.shapes.now)) = rw c.in_default.is at c.in_ok-cut_off.ensures in
    let here : IsFirstReport (Alone (IsChainUncrossed c.args.shapes.now)) c.in-Some-uncrossed.report.first
    c.in-Some-uncrossed.report.second = rw c.in-Some-uncrossed.is at c.in_ok-uncrossed.ensures in
    along_lines c.args.shapes.now c.requires.lines (Some c.in-Some-uncrossed.report)
    (Afterwards-second (Alone (IsCutOff c.args.shapes.now))
    (Afterwards (Alone (IsChainUncrossed c.args.shapes.now)) (Alone (IsChainUnexcited c.args.shapes.now))) _ _ none
    (Afterwards-first (Alone (IsChainUncrossed c.args.shapes.now))
    (Alone (IsChainUnexcited c.args.shapes.now)) _ _ here))

pub returns-clause-finds : goal.returns-clause-finds
returns-clause-finds c =
    let cut_off : ReportsNone (Alone (IsCutOff c.args.shapes.now)) = rw c.in_default.is at c.in_ok-cut_off.ensures in
    let uncrossed : ReportsNone (Alone (IsChainUncrossed c.args.shapes.now)) =
    rw c.in_default-uncrossed.is at c.in_ok-uncrossed.ensures in
    IfOk-weaker c.find_unexcited.result (Finds (Alone (IsChainUnexcited c.args.shapes.now)))
    (Finds (AlongLines c.args.shapes.now))
    (λ found finds. along_lines c.args.shapes.now c.requires.lines found
    (after_none (Alone (IsCutOff c.args.shapes.now))
    (Afterwards (Alone (IsChainUncrossed c.args.shapes.now))
    (Alone (IsChainUnexcited c.args.shapes.now))) found cut_off
    (after_none (Alone (IsChainUncrossed c.args.shapes.now))
    (Alone (IsChainUnexcited c.args.shapes.now)) found uncrossed finds)))
    c.find_unexcited.ensures.finds

pub returns-clause-excited : goal.returns-clause-excited
returns-clause-excited c =
    let cut_off : ReportsNone (Alone (IsCutOff c.args.shapes.now)) = rw c.in_default.is at c.in_ok-cut_off.ensures in
    IfOk-weaker c.find_unexcited.result (ChainsExciteFrames c.args.shapes.now) (ExcitesFrames c.args.shapes.now)
    (excites_frames c.args.shapes.now c.requires.lines cut_off) c.find_unexcited.ensures.excited
