use Rattle.mig_replace.proofs.Computing.{majority_entry, three_there}
use Rattle.mig_replace.proofs.run.step.Goals as goal

pub maj-requires : goal.maj-requires
maj-requires c =
    let a = c.args.builder.now in
    let ls = c.args.leaves.now in
    three_there a ls c.operand-x.result c.operand-y.result c.operand-z.result
    (c.operand-x.ensures a ls c.requires.few c.requires.entries)
    (c.operand-y.ensures a ls c.requires.few c.requires.entries)
    (c.operand-z.ensures a ls c.requires.few c.requires.entries)

pub returns-clause-entry : goal.returns-clause-entry
returns-clause-entry c =
    let a = c.args.builder.now in
    let ls = c.args.leaves.now in
    majority_entry a c.maj.new.self ls c.operand-x.result c.operand-y.result c.operand-z.result _ _
    c.in_ok-literal.ensures.grown
    (c.operand-x.ensures a ls c.requires.few c.requires.entries)
    (c.operand-y.ensures a ls c.requires.few c.requires.entries)
    (c.operand-z.ensures a ls c.requires.few c.requires.entries)
    c.in_ok-literal.ensures.given c.majority_table.ensures
