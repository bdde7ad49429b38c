use Rattle.std.proofs.Common.{rules}
use Rattle.std.proofs.lemmas.Result.{IfErr-weaker}
use Rattle.aqfp_top.specs.Code.Pages.{Pends}
use Rattle.aqfp_top.specs.Code.Pieces.{pieces_text}
use Rattle.aqfp_top.proofs.Pending.{part_of_all}
use Rattle.aqfp_top.proofs.pieces.put_pieces.Goals as goal

pub returns-clause-part : goal.returns-clause-part
returns-clause-part g c =
    let a = c.add_pieces in
    let pends : Pends (g.S.Sink.output c.args.sink.now) (g.S.Sink.output a.new.sink) a.new.page
    (pieces_text c.args.pieces.now) = search rules in
    IfErr-weaker c.put_page.result _ _ (λ why part. part_of_all pends part) c.put_page.ensures.part
