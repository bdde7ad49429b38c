use Rattle.std.proofs.Common.{length, drop, List, sym, ap, ◌∙◌, rules, ◌≡◌}
use Rattle.gds_records.specs.Records.{Record}
use Rattle.gds_read.proofs.Cursors.{none_left}
use Rattle.gds_read.proofs.cursor.behind_first.Goals as goal

pub returns-then-is_empty-clause-records : goal.returns-then-is_empty-clause-records
returns-then-is_empty-clause-records c =
    let e : length c.args.bytes.now ≡ 0 = search rules in
    none_left c.args.bytes.now e ∙ sym (ap (λ (x : List Record). drop 1 x) (none_left c.args.bytes.now e))
