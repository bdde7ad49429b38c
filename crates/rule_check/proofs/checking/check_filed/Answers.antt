use Rattle.std.proofs.Common.{arith}
use Rattle.shape_extract.specs.Distinct.{kinds_at}
use Rattle.rule_check.proofs.Represented.{no_more}
use Rattle.rule_check.proofs.checking.check_filed.Goals as goal

pub first_broken-requires-clause-sheet : goal.first_broken-requires-clause-sheet
first_broken-requires-clause-sheet c = record {
  distinct = c.requires.filed.distinct;
  few = omega (
    arith,
    no_more c.args.flat.now.shapes c.args.filed.now.kinds.numbers.items (kinds_at c.args.flat.now.shapes
        c.args.filed.now.kinds.numbers.items)
        c.requires.filed.distinct,
  );
  filed = c.requires.filed.planes;
}
