use Rattle.std.proofs.Common.{map, take}
use Rattle.gds_read.specs.Code.Numbering.{IsNumbering}
use Rattle.gds_read.specs.Code.Outlining.{outline_of}
use Rattle.gds_read.proofs.numbers.numbers.Given as goal

abbrev pub invariant-loop-number : goal.invariant-loop-number
invariant-loop-number l = IsNumbering l.numbers.entries (map (λ s. s.name) (map outline_of (take l.number l.outlines)))
