use Rattle.std.proofs.Common.{◌≡◌, drop}
use Rattle.placement_check.specs.Code.Numbering.{are_there}
use Rattle.placement_check.proofs.numbering.are_there.Given as goal

abbrev pub invariant-loop-wanted : goal.invariant-loop-wanted
invariant-loop-wanted l = are_there l.numbers l.wanted (drop l.wanted l.places) ≡ are_there l.numbers 0 l.places
