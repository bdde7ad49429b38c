use Rattle.std.proofs.lemmas.Fmt.{decimal_injective}
use Rattle.sample_adder.proofs.AdderLines.{adder_inputs}
use Rattle.sample_adder.proofs.AdderBytes.{adder_bytes}
use Rattle.sample_adder.proofs.EightLaws.{eight_widths, eight_words}
use Rattle.sample_adder.proofs.laws.sample_laws.Goals as goal

pub returns-clause-inputs : goal.returns-clause-inputs
returns-clause-inputs c = adder_inputs

pub returns-clause-size : goal.returns-clause-size
returns-clause-size c = adder_bytes

pub returns-clause-words : goal.returns-clause-words
returns-clause-words c = eight_widths

pub returns-clause-count : goal.returns-clause-count
returns-clause-count c = eight_words

pub returns-clause-one_size : goal.returns-clause-one_size
returns-clause-one_size c = decimal_injective
