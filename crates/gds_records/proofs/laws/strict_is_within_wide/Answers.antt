use Rattle.gds_records.proofs.Wider.{sentence_within, whole_within}
use Rattle.gds_records.proofs.laws.strict_is_within_wide.Goals as goal

pub returns-clause-sentence : goal.returns-clause-sentence
returns-clause-sentence c = sentence_within

pub returns-clause-whole : goal.returns-clause-whole
returns-clause-whole c = whole_within
