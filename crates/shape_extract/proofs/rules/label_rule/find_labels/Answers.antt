use Rattle.std.proofs.Common.{◌∙◌, ◌-◌, ℕ, Some, sym, ap}
use Rattle.std.proofs.lemmas.Result.{IfOk-weaker}
use Rattle.layout_rules.proofs.RowLaws.{row_count-certified}
use Rattle.layout_rules.specs.Reports.{Alone, Afterwards, ReportsNone, IsFirstReport}
use Rattle.layout_rules.specs.CircuitRules.{IsNoPortLabel, IsUnlabelledPort, IsMisnumbered, LabelsBroken}
use Rattle.shape_extract.specs.Searches.{Finds}
use Rattle.shape_extract.proofs.Searching.{after_none, after_some}
use Rattle.shape_extract.proofs.rules.label_rule.find_labels.Goals as goal

pub ports-requires-clause-kept : goal.ports-requires-clause-kept
ports-requires-clause-kept c = rw c.as_slice.ensures c.requires.kept

pub ports-requires-clause-last : goal.ports-requires-clause-last
ports-requires-clause-last c = rw c.as_slice.ensures (c.saturating_sub-last.ensures
    ∙ ap (λ (n : ℕ). n - 1) (sym (row_count-certified c.args.flat.now.shapes c.args.edges.now c.requires.edges)))

pub returns-in-Some : goal.returns-in-Some
returns-in-Some c =
    let found : IsFirstReport (Alone (IsNoPortLabel c.args.flat.now)) c.in-Some.label.first c.in-Some.label.second =
    rw c.in-Some.is at c.in_ok-label.ensures in
    after_some (Alone (IsNoPortLabel c.args.flat.now))
    (Afterwards (Alone (IsUnlabelledPort c.args.flat.now))
    (Alone (IsMisnumbered c.args.flat.now))) c.in-Some.label found

pub returns-in-Some-2 : goal.returns-in-Some-2
returns-in-Some-2 c =
    let none : ReportsNone (Alone (IsNoPortLabel c.args.flat.now)) = rw c.in_default.is at c.in_ok-label.ensures in
    let found : IsFirstReport
    (Alone (IsUnlabelledPort c.args.flat.now)) c.in-Some-2.port.first c.in-Some-2.port.second =
    rw c.in-Some-2.is at c.in_ok-port.ensures in
    after_none (Alone (IsNoPortLabel c.args.flat.now))
    (Afterwards (Alone (IsUnlabelledPort c.args.flat.now)) (Alone (IsMisnumbered c.args.flat.now)))
    (Some c.in-Some-2.port) none
    (after_some (Alone (IsUnlabelledPort c.args.flat.now))
    (Alone (IsMisnumbered c.args.flat.now)) c.in-Some-2.port found)

pub returns : goal.returns
returns c =
    let none : ReportsNone (Alone (IsNoPortLabel c.args.flat.now)) = rw c.in_default.is at c.in_ok-label.ensures in
    let unlabelled : ReportsNone (Alone (IsUnlabelledPort c.args.flat.now)) =
    rw c.in_default-2.is at c.in_ok-port.ensures in
    IfOk-weaker c.find_misnumbered.result (Finds (Alone (IsMisnumbered c.args.flat.now)))
    (Finds (LabelsBroken c.args.flat.now))
    (λ found finds. after_none (Alone (IsNoPortLabel c.args.flat.now))
    (Afterwards (Alone (IsUnlabelledPort c.args.flat.now)) (Alone (IsMisnumbered c.args.flat.now))) found none
    (after_none (Alone (IsUnlabelledPort c.args.flat.now))
    (Alone (IsMisnumbered c.args.flat.now)) found unlabelled finds))
    c.find_misnumbered.ensures
