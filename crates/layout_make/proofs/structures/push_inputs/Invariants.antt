use Rattle.std.proofs.Common.{◌≡◌, ◌++◌, map}
use Rattle.sorting.specs.Numbers.{numbers}
use Rattle.layout_make.specs.Code.Boxes.{in_box}
use Rattle.layout_make.proofs.structures.push_inputs.Given as goal

abbrev pub invariant-loop-pin : goal.invariant-loop-pin
invariant-loop-pin l = l.elements.items ≡ l.fn.elements.items ++ map (in_box l.library l.kind) (numbers 0 l.pin)
