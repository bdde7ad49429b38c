use Rattle.std.proofs.Common.{◌≡◌, ◌++◌}
use Rattle.layout_make.specs.Spots.{spots_of}
use Rattle.layout_make.specs.Code.Labelling.{port_texts}
use Rattle.layout_make.proofs.marks.push_labels.Given as goal

abbrev pub invariant-loop-port : goal.invariant-loop-port
invariant-loop-port l = l.elements.items ≡ l.fn.elements.items ++ port_texts l.library l.labels.ports
    (spots_of l.row.cells.now l.row.slots.now) l.labels.column l.labels.y l.port
