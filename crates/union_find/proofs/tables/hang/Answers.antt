use Rattle.union_find.specs.Code.Shapes.{tables_of}
use Rattle.union_find.proofs.Written.{hung_tables, hung_unites}
use Rattle.union_find.proofs.tables.hang.Goals as goal

pub returns-clause-tables : goal.returns-clause-tables
returns-clause-tables c =
    hung_tables (tables_of c.args.parent.now c.args.above.now c.args.height.now c.args.size.now) c.args.low.root
    c.args.high.root c.args.low.rise c.args.high.rise c.requires.tables c.requires.may

pub returns-clause-unites : goal.returns-clause-unites
returns-clause-unites c =
    hung_unites (tables_of c.args.parent.now c.args.above.now c.args.height.now c.args.size.now) c.args.low.root
    c.args.high.root c.args.low.rise c.args.high.rise c.requires.tables c.requires.may
