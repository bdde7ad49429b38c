use Rattle.std.proofs.Common.{Some, ap, ◌∙◌, sym, refl, arith, ℕ, map}
use Rattle.std.proofs.lemmas.List.{length-map}
use Rattle.gds_records.specs.declared.fault.StreamKind.TheVariants.{NoTop}
use Rattle.gds_records.specs.Whole.{all_uses, last_place, tops}
use Rattle.gds_read.specs.Code.Decoding.{records_in}
use Rattle.gds_read.specs.Code.Outlining.{outline_of}
use Rattle.gds_read.proofs.Judged.{top_none, top_several, top_nothing}
use Rattle.gds_read.proofs.Ends.{top_low}
use Rattle.gds_read.proofs.conditions.one_top.Goals as goal

pub returns-in-One-clause-none : goal.returns-in-One-clause-none
returns-in-One-clause-none c =
    (top_none (last_place 0 (records_in c.args.bytes.now))
    (tops 0 (all_uses (map outline_of c.args.structures.now)) (map outline_of c.args.structures.now)) c.in-One.top
    c.in-One.ensures).0

pub returns-in-One-clause-top : goal.returns-in-One-clause-top
returns-in-One-clause-top c =
    (top_none (last_place 0 (records_in c.args.bytes.now))
    (tops 0 (all_uses (map outline_of c.args.structures.now)) (map outline_of c.args.structures.now)) c.in-One.top
    c.in-One.ensures).1

pub returns-in-One-clause-within : goal.returns-in-One-clause-within
returns-in-One-clause-within c =
    let us = all_uses (map outline_of c.args.structures.now) in
    let ts = tops 0 us (map outline_of c.args.structures.now) in
    let o = last_place 0 (records_in c.args.bytes.now) in
    let p = top_none o ts c.in-One.top c.in-One.ensures in
    omega (
      arith,
      p.1,
      top_low o us (map outline_of c.args.structures.now) ts refl p.0,
      length-map
          c.args.structures.now outline_of,
    )

pub returns-in-Several-clause-fault : goal.returns-in-Several-clause-fault
returns-in-Several-clause-fault c =
    top_several (last_place 0 (records_in c.args.bytes.now))
    (tops 0 (all_uses (map outline_of c.args.structures.now)) (map outline_of c.args.structures.now))
    c.in-Several.offset c.in-Several.ensures

pub returns-in-Nothing-clause-fault : goal.returns-in-Nothing-clause-fault
returns-in-Nothing-clause-fault c =
    top_nothing (last_place 0 (records_in c.args.bytes.now))
    (tops 0 (all_uses (map outline_of c.args.structures.now)) (map outline_of c.args.structures.now))
    c.in-Nothing.ensures
    ∙ ap (λ (x : ℕ). Some (x, NoTop)) (sym c.end_at-offset.ensures)
