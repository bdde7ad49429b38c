use Rattle.mig_replace.proofs.Computing.{splits_table}
use Rattle.mig_replace.proofs.other_form.+literal_table.Goals as goal

pub returns : goal.returns
returns t c =
    splits_table c.args.builder.now c.args.leaves.now c.args.literal _ _ _ _ c.majority_table.result c.requires.there
    c.in-Some-operands.ensures c.in-Some-literal_table.ensures c.in-Some-literal_table-2.ensures
    c.in-Some-literal_table-3.ensures c.majority_table.ensures
