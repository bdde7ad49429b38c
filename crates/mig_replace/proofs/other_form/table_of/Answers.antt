use Rattle.std.proofs.Common.{List, sym, subst}
use Rattle.mig_replace.specs.declared.run.Entry.{Entry}
use Rattle.mig_replace.specs.Code.Cones.{AreEntries}
use Rattle.mig_replace.proofs.other_form.table_of.Goals as goal

pub literal_table-requires-clause-entries : goal.literal_table-requires-clause-entries
literal_table-requires-clause-entries c =
    subst (λ (es : List Entry). AreEntries c.args.builder.now c.args.leaves.now es)
    (sym c.as_slice-known.ensures.value)
    (c.in_ok-entries.ensures c.args.builder.now c.requires.leaves)
