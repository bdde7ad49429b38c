use Rattle.std.proofs.Common.{◌++◌, take}
use Rattle.std.specs.List.{flat_map}
use Rattle.aqfp_top.specs.Code.Pages.{Pends}
use Rattle.aqfp_top.specs.Code.Pieces.{piece_text}
use Rattle.aqfp_top.proofs.pieces.add_pieces.Given as goal

abbrev pub invariant-loop-piece : goal.invariant-loop-piece
invariant-loop-piece g l =
    Pends (g.S.Sink.output l.initial.sink) (g.S.Sink.output l.sink) l.page
    (l.initial.page ++ flat_map piece_text (take l.piece-index l.pieces))
