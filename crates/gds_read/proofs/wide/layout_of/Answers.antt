use Rattle.std.proofs.Common.{refl}
use Rattle.gds_read.specs.Code.Decoding.{records_in}
use Rattle.gds_read.proofs.WideReads.{wide_layout_made}
use Rattle.gds_read.proofs.wide.layout_of.Goals as goal

pub returns-clause-layout : goal.returns-clause-layout
returns-clause-layout c =
    wide_layout_made (records_in c.args.bytes.now) c.in_ok-outlines.outlines c.as_slice-4.result.now
    c.in_ok-structures.structures c.in_ok-top.top c.in_ok-top.top c.in_ok-outlines.ensures.same c.as_slice-4.ensures
    c.in_ok-structures.ensures c.in_ok-top.ensures.top refl
