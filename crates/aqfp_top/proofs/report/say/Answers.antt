use Rattle.std.proofs.Common.{ℕ, ◌≡◌, ◌⊎◌, List, subst}
use Rattle.aq_base.specs.Output.{printed}
use Rattle.aqfp_top.specs.Lines.{IsCutShort}
use Rattle.aqfp_top.proofs.Putting.{attempted}
use Rattle.aqfp_top.proofs.report.say.Goals as goal

pub returns : goal.returns
returns g c =
    let before = g.E.Sink.output c.args.err.now in
    let after = g.E.Sink.output c.put_pieces.new.sink in
    subst (λ (line : List ℕ). (after ≡ printed line before) ⊎ IsCutShort before after line) c.pieces_of-pieces.ensures
    (attempted before after _ c.put_pieces.result c.put_pieces.ensures.added c.put_pieces.ensures.part)
