use Rattle.std.proofs.Common.{List, ℕ, drop, length, subst, sym, ap, ◌∙◌, ◌+◌, ◌≤◌, arith, inr, refl}
use Rattle.gds_read.specs.declared.refusal.StreamRefusal.{StreamRefusal}
use Rattle.gds_read.specs.declared.scan.Outcome.{Outcome}
use Rattle.gds_records.specs.declared.fault.StreamKind.TheVariants.{Value}
use Rattle.gds_records.specs.Profiled.{are_zero, zeros_before}
use Rattle.gds_records.specs.Profiles.{wide, IsProfile}
use Rattle.gds_read.specs.Code.Bodies.{IsFirstRefusal}
use Rattle.gds_read.specs.Code.Steps.{told_as, offset_of}
use Rattle.gds_read.proofs.Ends.{stopped_at, other_at, body_of}
use Rattle.gds_read.proofs.ending.end_of_records.Goals as goal

pub returns-in-Stopped-clause-err : goal.returns-in-Stopped-clause-err
returns-in-Stopped-clause-err c =
    let b = c.args.bytes.now in
    let known : IsProfile wide = inr refl in
    subst (λ (r : StreamRefusal). IsFirstRefusal b r) (sym c.bad.ensures)
    (c.found_is_fault.ensures wide b c.in-Stopped.offset c.in-Stopped.kind known
    (λ i. omega (arith, c.type_inv.bytes i))
    (stopped_at b (c.steps_tell_scan.ensures wide b known) c.in-Stopped.offset c.in-Stopped.kind
    (c.in_ok-offset.ensures.told ∙ ap (λ (o : Outcome). told_as b o) c.in-Stopped.is)))

pub returns-in-Some-clause-err : goal.returns-in-Some-clause-err
returns-in-Some-clause-err c =
    let b = c.args.bytes.now in
    let known : IsProfile wide = inr refl in
    let o = c.in-Ended.offset in
    subst (λ (r : StreamRefusal). IsFirstRefusal b r) (sym c.bad-in-Some.ensures)
    (c.found_is_fault.ensures wide b (o + c.in-Some.place) Value known (λ i. omega (arith, c.type_inv.bytes i))
    (other_at b (c.steps_tell_scan.ensures wide b known) o (drop o b) c.in-Some.place
    (c.in_ok-offset.ensures.told ∙ ap (λ (x : Outcome). told_as b x) c.in-Ended.is)
    (ap (λ (x : List ℕ). are_zero x) (sym c.split_at.ensures.back) ∙ c.in-Some.ensures.some)
    (c.in-Some.ensures.place ∙ ap (λ (x : List ℕ). zeros_before x) c.split_at.ensures.back)))

pub returns-clause-ok : goal.returns-clause-ok
returns-clause-ok c =
    let b = c.args.bytes.now in
    let known : IsProfile wide = inr refl in
    let o = c.in-Ended.offset in
    body_of b (c.steps_tell_scan.ensures wide b known) o
    (subst (λ (x : Outcome). offset_of x ≤ length b) c.in-Ended.is c.in_ok-offset.ensures.within)
    (c.in_ok-offset.ensures.told ∙ ap (λ (x : Outcome). told_as b x) c.in-Ended.is)
    (ap (λ (x : List ℕ). are_zero x) (sym c.split_at.ensures.back) ∙ c.in-None.ensures.none)
    (λ rs rest e. c.whole_is_read.ensures wide b rs rest known (λ i. omega (arith, c.type_inv.bytes i)) e)
