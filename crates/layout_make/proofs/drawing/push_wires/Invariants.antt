use Rattle.std.proofs.Common.{◌≡◌, ◌++◌, drop}
use Rattle.layout_make.specs.Code.Boxes.{channel_boxes}
use Rattle.layout_make.proofs.drawing.push_wires.Given as goal

abbrev pub invariant-loop-number : goal.invariant-loop-number
invariant-loop-number l = l.elements.items ++ channel_boxes l.library l.edge l.next (drop l.number l.wires)
    (drop l.number l.tracks) ≡ l.fn.elements.items ++ channel_boxes l.library l.edge l.next l.wires l.tracks
