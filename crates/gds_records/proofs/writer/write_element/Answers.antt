use Rattle.std.proofs.lemmas.Result.{IfErr-weaker}
use Rattle.gds_records.proofs.Flowing.{part_none, put_part, on_same}
use Rattle.gds_records.proofs.writer.write_element.Goals as goal

pub returns-in_err-put_element-clause-err : goal.returns-in_err-put_element-clause-err
returns-in_err-put_element-clause-err g c = on_same _ c.from_residual.result c.from_residual.ensures.1 (part_none _ _ _)

pub returns-clause-err : goal.returns-clause-err
returns-clause-err g c =
    IfErr-weaker c.append_pieces.result _ _ (λ why h. put_part c.in_ok-put_element.ensures h)
    c.append_pieces.ensures.err
