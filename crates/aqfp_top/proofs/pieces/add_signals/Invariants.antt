use Rattle.std.proofs.Common.{◌∷◌, ◌++◌, take}
use Rattle.std.specs.List.{flat_map}
use Rattle.aqfp_top.specs.Code.Pages.{Pends}
use Rattle.aqfp_top.proofs.pieces.add_signals.Given as goal

abbrev pub invariant-loop-signal : goal.invariant-loop-signal
invariant-loop-signal g l =
    Pends (g.S.Sink.output l.initial.sink) (g.S.Sink.output l.sink) l.page
    (l.initial.page ++ flat_map (λ s. 32 ∷ s) (take l.signal-index l.signal-items))
