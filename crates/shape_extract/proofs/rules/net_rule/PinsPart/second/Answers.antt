use Rattle.std.proofs.Common.{None, Some}
use Rattle.std.proofs.lemmas.Result.{IfOk-weaker}
use Rattle.layout_rules.specs.Reports.{Alone, Otherwise}
use Rattle.layout_rules.specs.CircuitRules.{HasRival, IsUndriven, IsDriven, NetsBroken}
use Rattle.shape_extract.specs.Searches.{FindsAt}
use Rattle.shape_extract.proofs.NetPins.{otherwise_some, otherwise_next}
use Rattle.shape_extract.proofs.rules.net_rule.PinsPart.second.Goals as goal

pub returns : goal.returns
returns c =
    let none : FindsAt (HasRival c.args.self.now.flat.now.shapes) c.args.a None =
    rw (c.as_slice.ensures, c.in_default.is) at c.in_ok-other.ensures in
    IfOk-weaker c.source_fault.result
    (FindsAt (Otherwise (Alone (IsUndriven c.args.self.now.flat.now)) (IsDriven c.args.self.now.flat.now)) c.args.a)
    (FindsAt (NetsBroken c.args.self.now.flat.now) c.args.a)
    (λ r finds. otherwise_next (HasRival c.args.self.now.flat.now.shapes)
    (Otherwise (Alone (IsUndriven c.args.self.now.flat.now))
    (IsDriven c.args.self.now.flat.now)) c.args.a r none finds)
    c.source_fault.ensures

pub returns-in-Some : goal.returns-in-Some
returns-in-Some c =
    let some : FindsAt (HasRival c.args.self.now.flat.now.shapes) c.args.a (Some c.in-Some.b) =
    rw (c.as_slice.ensures, c.in-Some.is) at c.in_ok-other.ensures in
    otherwise_some (HasRival c.args.self.now.flat.now.shapes)
    (Otherwise (Alone (IsUndriven c.args.self.now.flat.now)) (IsDriven c.args.self.now.flat.now))
    c.args.a c.in-Some.b some
