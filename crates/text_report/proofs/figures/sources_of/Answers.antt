use Rattle.std.proofs.Common.{length, ap, arith}
use Rattle.layout_rules.proofs.RowLaws.{row_count-certified}
use Rattle.text_report.proofs.SourceRows.{rows_short}
use Rattle.text_report.proofs.figures.sources_of.Goals as goal

pub source_rows-requires-clause-few : goal.source_rows-requires-clause-few
source_rows-requires-clause-few c =
    omega (
      arith,
      c.deref.ensures.len,
      ap length c.deref.ensures.value,
      row_count-certified c.as_slice.result.now c.in_ok-edges.edges.items c.in_ok-edges.ensures,
      rows_short c.as_slice.result.now,
      ap length c.as_slice.ensures,
      c.requires.order.are_nets.long,
      c.known.ensures.few_shapes,
    )
