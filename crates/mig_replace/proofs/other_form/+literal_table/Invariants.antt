use Rattle.mig_replace.proofs.other_form.+literal_table.Given as goal

abbrev pub decreases-literal_table : goal.decreases-literal_table
decreases-literal_table l = l.most
