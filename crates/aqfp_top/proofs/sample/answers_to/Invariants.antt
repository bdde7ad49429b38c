use Rattle.std.proofs.Common.{take}
use Rattle.std.specs.List.{AllZip}
use Rattle.blif_read.specs.Equations.{IsAnswer}
use Rattle.aqfp_top.proofs.sample.answers_to.Given as goal

abbrev pub invariant-loop-word : goal.invariant-loop-word
invariant-loop-word l = AllZip (IsAnswer l.net) (take l.word-index l.word-items) l.answers
