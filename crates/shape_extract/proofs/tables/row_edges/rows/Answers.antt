use Rattle.std.proofs.lemmas.Result.{IfOk-weaker}
use Rattle.layout_rules.specs.Rows.{AreRows}
use Rattle.shape_extract.specs.Code.Edges.{AreDistinct}
use Rattle.shape_extract.proofs.RowEdges.{rows_from}
use Rattle.shape_extract.proofs.tables.row_edges.rows.Goals as goal

pub returns : goal.returns
returns c = IfOk-weaker c.distinct.result (λ numbers. AreDistinct c.as_slice.result.now numbers.items)
    (λ edges. AreRows c.args.shapes.now edges.items)
    (λ numbers are. rows_from c.args.shapes.now c.in_ok-edges.edges.items c.sort_unstable.new.self.items numbers.items
    c.in_ok-edges.ensures c.sort_unstable.ensures.permutation (rw c.as_slice.ensures.value at are))
    c.distinct.ensures
