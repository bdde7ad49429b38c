use Rattle.std.proofs.Common.{rules}
use Rattle.gds_records.specs.WideDrawing.{wide_structure_of}
use Rattle.gds_read.specs.Code.Outlining.{names_in}
use Rattle.gds_read.proofs.Walks.{starts_end}
use Rattle.gds_read.proofs.wide_structures.wide_structures.Goals as goal

pub returns : goal.returns
returns c = starts_end (wide_structure_of (names_in c.args.outlines.now)) c.records.rest.now _ _
    (search rules) c.records.invariant.same
