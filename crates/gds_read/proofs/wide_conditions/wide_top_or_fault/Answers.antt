use Rattle.std.proofs.Common.{sym, ◌∙◌, subst}
use Rattle.gds_read.specs.Code.Decoding.{records_in}
use Rattle.gds_read.specs.Code.Bodies.{IsWholeRefusal}
use Rattle.gds_read.specs.declared.refusal.StreamRefusal.{StreamRefusal}
use Rattle.gds_read.proofs.Judged.{wide_unknown, wide_deep, wide_top}
use Rattle.gds_read.proofs.wide_conditions.wide_top_or_fault.Goals as goal

pub returns-in-Some-clause-err : goal.returns-in-Some-clause-err
returns-in-Some-clause-err c =
    let rs = records_in c.args.bytes.now in
    subst (λ (r : StreamRefusal). IsWholeRefusal rs r) (sym c.bad.ensures)
    (wide_unknown rs c.args.structures.now c.args.numbers.now.entries c.requires.outlines c.requires.numbers
    c.in-Some.place c.in-Some.ensures)

pub returns-in-Some-2-clause-err : goal.returns-in-Some-2-clause-err
returns-in-Some-2-clause-err c =
    let rs = records_in c.args.bytes.now in
    subst (λ (r : StreamRefusal). IsWholeRefusal rs r) (sym c.bad-in-Some-2.ensures)
    (wide_deep rs c.args.structures.now c.args.numbers.now.entries c.requires.outlines c.requires.numbers
    c.first_unknown.result c.in-Some-2.place c.first_unknown.ensures c.in_default.not-Some
    (sym c.in-Some-2.is ∙ c.in_ok-place.ensures))

pub returns-in-Ok-clause-none : goal.returns-in-Ok-clause-none
returns-in-Ok-clause-none c =
    wide_top (records_in c.args.bytes.now) c.args.structures.now c.args.numbers.now.entries c.requires.outlines
    c.requires.numbers c.first_unknown.result c.in_ok-place.field-0 c.first_unknown.ensures c.in_default.not-Some
    c.in_ok-place.ensures c.in_default-2.not-Some _ c.in-Ok.ensures.none

pub returns-in-Err-clause-err : goal.returns-in-Err-clause-err
returns-in-Err-clause-err c =
    subst (λ (r : StreamRefusal). IsWholeRefusal (records_in c.args.bytes.now) r) (sym c.bad-in-Err.ensures)
    (wide_top (records_in c.args.bytes.now) c.args.structures.now c.args.numbers.now.entries c.requires.outlines
    c.requires.numbers c.first_unknown.result c.in_ok-place.field-0 c.first_unknown.ensures c.in_default.not-Some
    c.in_ok-place.ensures c.in_default-2.not-Some _ c.in-Err.ensures.fault)
