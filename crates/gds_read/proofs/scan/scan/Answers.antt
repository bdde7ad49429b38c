use Rattle.std.proofs.Common.{ℕ, suc, ◌-◌, List, [], length, refl, sym, ap, subst, ◌∙◌, arith}
use Rattle.gds_records.specs.Records.{trimmed}
use Rattle.gds_records.specs.Profiled.{here_record}
use Rattle.gds_records.specs.Grammar.{wide_stream}
use Rattle.gds_records.specs.Steps.{steps, all_steps}
use Rattle.gds_read.specs.declared.scan.Step.{Step}
use Rattle.gds_records.specs.Profiles.{wide}
use Rattle.gds_read.specs.Code.Places.{rest_of}
use Rattle.gds_read.specs.Code.Steps.{kept, IsStep}
use Rattle.gds_read.specs.Code.Texts.{texts}
use Rattle.gds_read.proofs.Turns.{Stands, stopped_here, ended_here, goes_on, fits_here, kept_is, named, unnamed}
use Rattle.gds_read.proofs.scan.scan.Goals as goal
use Rattle.gds_read.proofs.scan.scan.Goals.{then-kind-eq-STRNAME+in_ok-add, else-kind-eq-STRNAME}

pub records-init : goal.records-init
unfolding all_steps
records-init c =
    let n = suc (length c.args.bytes.now) in
    record {
      within = omega arith;
      clear = refl;
      turns = n;
      enough = omega arith;
      same = λ i. steps wide n (wide_stream) (kept 0 [] (sym c.requires i)) 0 c.args.bytes.now;
    }

pub returns-in-Fault-clause-told : goal.returns-in-Fault-clause-told
returns-in-Fault-clause-told c =
    let i = c.records.invariant in
    let l = rest_of c.records.place in
    let k = kept c.records.element c.records.colrow.now (texts c.records.names.keys) in
    let rest = c.split_at.result.1.now in
    stopped_here _ i.turns l k c.records.at c.args.bytes.now rest
    (record { here = c.split_at.ensures.back; enough = i.enough; same = i.same }) c.in-Fault.kind
    (subst (λ (s : Step). IsStep l k rest s) c.in-Fault.is c.in_ok-next.ensures)

pub returns-then-kind-eq-ENDLIB-clause-told : goal.returns-then-kind-eq-ENDLIB-clause-told
returns-then-kind-eq-ENDLIB-clause-told c =
    let i = c.records.invariant in
    let l = rest_of c.records.place in
    let k = kept c.records.element c.records.colrow.now (texts c.records.names.keys) in
    let rest = c.split_at.result.1.now in
    ended_here _ i.turns l k c.records.at c.args.bytes.now rest
    (record { here = c.split_at.ensures.back; enough = i.enough; same = i.same })
    c.in-On.next c.record_length-at.result
    (subst (λ (s : Step). IsStep l k rest s) c.in-On.is c.in_ok-next.ensures)
    c.if-kind-eq-ENDLIB.true c.record_length-at.ensures

pub records-preserved : goal.records-preserved
records-preserved c =
    let i = c.records.invariant in
    let l = rest_of c.records.place in
    let k = kept c.records.element c.records.colrow.now (texts c.records.names.keys) in
    let rest = c.split_at.result.1.now in
    let s : Stands _ i.turns l k c.records.at c.args.bytes.now rest
    = record { here = c.split_at.ensures.back; enough = i.enough; same = i.same } in
    let g = subst (λ (s : Step). IsStep l k rest s) c.in-On.is c.in_ok-next.ensures in
    let f = fits_here _ i.turns l k c.records.at c.args.bytes.now rest s c.in-On.next
    c.record_length-at.result g i.within
    c.record_length-at.ensures in
    let new = kept c.opener_after-element.result c.colrow_after-colrow.result.now
    (texts c.if-kind-eq-STRNAME.names.keys) in
    record {
      within = f.0;
      clear = g.next.clear;
      turns = i.turns - 1;
      enough = omega (arith, f, i.enough);
      same = goes_on _ i.turns l k c.records.at c.args.bytes.now rest s c.in-On.next c.record_length-at.result new g
          c.if-kind-eq-ENDLIB.false c.record_length-at.ensures
          (kept_is k new (here_record rest) c.opener_after-element.ensures
          c.colrow_after-colrow.ensures
          (elim c.if-kind-eq-STRNAME.branch [
            | then-kind-eq-STRNAME+in_ok-add w ↦ rw w.names-is
                (named l k _ rest w.trimmed.result.now g.sound w.if-kind-eq-STRNAME.true
                (w.trimmed.ensures ∙ ap (λ (t : List ℕ). trimmed t) w.content.ensures) w.in_ok-add.ensures)
            | else-kind-eq-STRNAME w ↦ rw w.names-is
                (unnamed (texts c.records.names.keys) rest w.if-kind-eq-STRNAME.false)
          ]));
    }
