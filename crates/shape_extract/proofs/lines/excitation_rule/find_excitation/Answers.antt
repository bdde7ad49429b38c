use Rattle.std.proofs.lemmas.Result.{IfOk-weaker}
use Rattle.layout_rules.specs.Reports.{ReportsNone, IsFirstReport, Alone, Passes}
use Rattle.layout_rules.specs.ExcitationRule.{is_no_part, IsMisjoined, ExcitationBroken, AreLaidOut}
use Rattle.shape_extract.specs.Searches.{Finds}
use Rattle.shape_extract.proofs.LineTurns.{AlongLines, by_part, by_even, by_odd, by_contacts, by_lines}
use Rattle.shape_extract.proofs.lines.excitation_rule.find_excitation.Goals as goal

pub returns-in-Some-clause-finds : goal.returns-in-Some-clause-finds
returns-in-Some-clause-finds c =
    let here : IsFirstReport (Alone (Passes is_no_part c.args.shapes.now)) c.in-Some.report.first
    c.in-Some.report.second = rw c.in-Some.is at c.in_ok-unknown.ensures in
    by_part c.args.shapes.now _ _ here

pub returns-in-Some-find_start_fault-clause-finds : goal.returns-in-Some-find_start_fault-clause-finds
returns-in-Some-find_start_fault-clause-finds c =
    let parts : ReportsNone (Alone (Passes is_no_part c.args.shapes.now)) =
    rw c.in_default.is at c.in_ok-unknown.ensures in
    by_even c.args.shapes.now parts _ _ c.in-Some-find_start_fault.ensures

pub returns-in-Some-find_start_fault-2-clause-finds : goal.returns-in-Some-find_start_fault-2-clause-finds
returns-in-Some-find_start_fault-2-clause-finds c =
    let parts : ReportsNone (Alone (Passes is_no_part c.args.shapes.now)) =
    rw c.in_default.is at c.in_ok-unknown.ensures in
    by_odd c.args.shapes.now parts c.in_default-find_start_fault.ensures _ _ c.in-Some-find_start_fault-2.ensures

pub returns-in-Some-misjoined-clause-finds : goal.returns-in-Some-misjoined-clause-finds
returns-in-Some-misjoined-clause-finds c =
    let parts : ReportsNone (Alone (Passes is_no_part c.args.shapes.now)) =
    rw c.in_default.is at c.in_ok-unknown.ensures in
    let here : IsFirstReport (Alone (IsMisjoined c.args.shapes.now)) c.in-Some-misjoined.report.first
    c.in-Some-misjoined.report.second = rw c.in-Some-misjoined.is at c.in_ok-misjoined.ensures in
    by_contacts c.args.shapes.now parts c.in_default-find_start_fault.ensures
    c.in_default-find_start_fault-2.ensures _ _ here

pub returns-clause-finds : goal.returns-clause-finds
returns-clause-finds c =
    let lines : AreLaidOut c.args.shapes.now = record {
      parts = rw c.in_default.is at c.in_ok-unknown.ensures;
      even = c.in_default-find_start_fault.ensures;
      odd = c.in_default-find_start_fault-2.ensures;
      contacts = rw c.in_default-misjoined.is at c.in_ok-misjoined.ensures;
    } in
    IfOk-weaker c.find_along_lines.result (Finds (AlongLines c.args.shapes.now))
    (Finds (ExcitationBroken c.args.shapes.now))
    (λ found finds. by_lines c.args.shapes.now lines found finds) c.find_along_lines.ensures.finds
