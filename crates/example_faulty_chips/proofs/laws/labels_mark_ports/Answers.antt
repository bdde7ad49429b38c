use Rattle.example_faulty_chips.proofs.CircuitsJudged.{bad_label, bare_output, past_label, repeated_label}
use Rattle.example_faulty_chips.proofs.laws.labels_mark_ports.Goals as goal

pub returns-clause-text : goal.returns-clause-text
returns-clause-text c = bad_label

pub returns-clause-bare : goal.returns-clause-bare
returns-clause-bare c = bare_output

pub returns-clause-past : goal.returns-clause-past
returns-clause-past c = past_label

pub returns-clause-repeated : goal.returns-clause-repeated
returns-clause-repeated c = repeated_label
