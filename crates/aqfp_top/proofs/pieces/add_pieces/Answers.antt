use Rattle.std.proofs.Common.{◌≡◌, ◌<◌, length, get_or, rules}
use Rattle.std.proofs.lemmas.Result.{err_from_is_err_and}
use Rattle.aqfp_top.specs.Code.Pieces.{piece_text}
use Rattle.aqfp_top.proofs.Pending.{pends_item, part_item}
use Rattle.aqfp_top.proofs.pieces.add_pieces.Goals as goal

pub returns-in_err-add_piece-clause-part : goal.returns-in_err-add_piece-clause-part
returns-in_err-add_piece-clause-part g c =
    let p = err_from_is_err_and c.from_residual.result c.from_residual.ensures.1 in
    let l = c.loop-piece in
    let x = c.piece-item.result in
    let within : l.piece-index < length c.args.pieces.now = search rules in
    let at : x ≡ get_or c.args.pieces.now l.piece-index x = search rules in
    rw (p.1, p.2) (part_item c.args.page.now piece_text c.args.pieces.now l.piece-index x within at
    (search rules) c.in_err-add_piece.ensures.part)

pub loop-piece-preserved : goal.loop-piece-preserved
loop-piece-preserved g c =
    let l = c.loop-piece in
    let x = c.piece-item.result in
    let within : l.piece-index < length c.args.pieces.now = search rules in
    let at : x ≡ get_or c.args.pieces.now l.piece-index x = search rules in
    pends_item c.args.page.now piece_text c.args.pieces.now l.piece-index x within at l.invariant
    c.in_ok-add_piece.ensures.pends
