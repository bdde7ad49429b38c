use Rattle.std.proofs.Common.{arith}
use Rattle.layout_rules.specs.declared.rule.Rule.TheVariants.{G1, G2, G3, G4, G5, E5}
use Rattle.rule_check.specs.Code.Seen.{limits_seen}
use Rattle.rule_check.proofs.InOrder.{to_first, to_next, first_at, to_all}
use Rattle.rule_check.proofs.checking.first_broken.Goals as goal

pub returns-in-Some-2 : goal.returns-in-Some-2
returns-in-Some-2 c = first_at c.args.flat.now (limits_seen c.args.limits.now) G2 _ c.in-Some-2.report
    c.broken-in-Some-2.result (omega arith) (rw c.as_slice-shapes.ensures at c.in_ok-report-2.ensures)
    c.in-Some-2.is c.broken-in-Some-2.ensures (to_next c.args.flat.now (limits_seen c.args.limits.now) G1 _
    (rw c.as_slice-shapes.ensures at c.in_ok-report.ensures) c.in_default.not-Some
    (to_first c.args.flat.now (limits_seen c.args.limits.now)))

pub returns-in-Some-3 : goal.returns-in-Some-3
returns-in-Some-3 c = first_at c.args.flat.now (limits_seen c.args.limits.now) G3 _ c.in-Some-3.report
    c.broken-in-Some-3.result (omega arith) (rw c.as_slice-shapes.ensures at c.in_ok-report-3.ensures)
    c.in-Some-3.is c.broken-in-Some-3.ensures (to_next c.args.flat.now (limits_seen c.args.limits.now) G2 _
    (rw c.as_slice-shapes.ensures at c.in_ok-report-2.ensures) c.in_default-2.not-Some
    (to_next c.args.flat.now (limits_seen c.args.limits.now) G1 _
    (rw c.as_slice-shapes.ensures at c.in_ok-report.ensures) c.in_default.not-Some
    (to_first c.args.flat.now (limits_seen c.args.limits.now))))

pub returns-in-Some-4 : goal.returns-in-Some-4
returns-in-Some-4 c = first_at c.args.flat.now (limits_seen c.args.limits.now) G4 _ c.in-Some-4.report
    c.broken-in-Some-4.result (omega arith) (rw c.as_slice-shapes.ensures at c.in_ok-report-4.ensures)
    c.in-Some-4.is c.broken-in-Some-4.ensures (to_next c.args.flat.now (limits_seen c.args.limits.now) G3 _
    (rw c.as_slice-shapes.ensures at c.in_ok-report-3.ensures) c.in_default-3.not-Some
    (to_next c.args.flat.now (limits_seen c.args.limits.now) G2 _
    (rw c.as_slice-shapes.ensures at c.in_ok-report-2.ensures) c.in_default-2.not-Some
    (to_next c.args.flat.now (limits_seen c.args.limits.now) G1 _
    (rw c.as_slice-shapes.ensures at c.in_ok-report.ensures) c.in_default.not-Some
    (to_first c.args.flat.now (limits_seen c.args.limits.now)))))

pub returns-in-Some-5 : goal.returns-in-Some-5
returns-in-Some-5 c = first_at c.args.flat.now (limits_seen c.args.limits.now) G5 _ c.in-Some-5.report
    c.broken-in-Some-5.result (omega arith) (rw c.as_slice-shapes.ensures at c.in_ok-report-5.ensures)
    c.in-Some-5.is c.broken-in-Some-5.ensures (to_next c.args.flat.now (limits_seen c.args.limits.now) G4 _
    (rw c.as_slice-shapes.ensures at c.in_ok-report-4.ensures) c.in_default-4.not-Some
    (to_next c.args.flat.now (limits_seen c.args.limits.now) G3 _
    (rw c.as_slice-shapes.ensures at c.in_ok-report-3.ensures) c.in_default-3.not-Some
    (to_next c.args.flat.now (limits_seen c.args.limits.now) G2 _
    (rw c.as_slice-shapes.ensures at c.in_ok-report-2.ensures) c.in_default-2.not-Some
    (to_next c.args.flat.now (limits_seen c.args.limits.now) G1 _
    (rw c.as_slice-shapes.ensures at c.in_ok-report.ensures) c.in_default.not-Some
    (to_first c.args.flat.now (limits_seen c.args.limits.now))))))

pub returns-in-Some-6 : goal.returns-in-Some-6
returns-in-Some-6 c = first_at c.args.flat.now (limits_seen c.args.limits.now) E5 _ c.in-Some-6.report
    c.broken-in-Some-6.result (omega arith) (rw c.as_slice-shapes.ensures at c.in_ok-report-6.ensures)
    c.in-Some-6.is c.broken-in-Some-6.ensures (to_next c.args.flat.now (limits_seen c.args.limits.now) G5 _
    (rw c.as_slice-shapes.ensures at c.in_ok-report-5.ensures) c.in_default-5.not-Some
    (to_next c.args.flat.now (limits_seen c.args.limits.now) G4 _
    (rw c.as_slice-shapes.ensures at c.in_ok-report-4.ensures) c.in_default-4.not-Some
    (to_next c.args.flat.now (limits_seen c.args.limits.now) G3 _
    (rw c.as_slice-shapes.ensures at c.in_ok-report-3.ensures) c.in_default-3.not-Some
    (to_next c.args.flat.now (limits_seen c.args.limits.now) G2 _
    (rw c.as_slice-shapes.ensures at c.in_ok-report-2.ensures) c.in_default-2.not-Some
    (to_next c.args.flat.now (limits_seen c.args.limits.now) G1 _
    (rw c.as_slice-shapes.ensures at c.in_ok-report.ensures) c.in_default.not-Some
    (to_first c.args.flat.now (limits_seen c.args.limits.now)))))))

pub returns : goal.returns
returns c = to_all c.args.flat.now (limits_seen c.args.limits.now)
    (to_next c.args.flat.now (limits_seen c.args.limits.now) E5 _
    (rw c.as_slice-shapes.ensures at c.in_ok-report-6.ensures) c.in_default-6.not-Some
    (to_next c.args.flat.now (limits_seen c.args.limits.now) G5 _
    (rw c.as_slice-shapes.ensures at c.in_ok-report-5.ensures) c.in_default-5.not-Some
    (to_next c.args.flat.now (limits_seen c.args.limits.now) G4 _
    (rw c.as_slice-shapes.ensures at c.in_ok-report-4.ensures) c.in_default-4.not-Some
    (to_next c.args.flat.now (limits_seen c.args.limits.now) G3 _
    (rw c.as_slice-shapes.ensures at c.in_ok-report-3.ensures) c.in_default-3.not-Some
    (to_next c.args.flat.now (limits_seen c.args.limits.now) G2 _
    (rw c.as_slice-shapes.ensures at c.in_ok-report-2.ensures) c.in_default-2.not-Some
    (to_next c.args.flat.now (limits_seen c.args.limits.now) G1 _
    (rw c.as_slice-shapes.ensures at c.in_ok-report.ensures) c.in_default.not-Some
    (to_first c.args.flat.now (limits_seen c.args.limits.now))))))))
