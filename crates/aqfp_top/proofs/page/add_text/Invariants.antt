use Rattle.std.proofs.Common.{◌++◌, take}
use Rattle.aqfp_top.specs.Code.Pages.{Pends}
use Rattle.aqfp_top.proofs.page.add_text.Given as goal

abbrev pub invariant-loop-byte : goal.invariant-loop-byte
invariant-loop-byte g l =
    Pends (g.S.Sink.output l.initial.sink) (g.S.Sink.output l.sink) l.page (l.initial.page ++ take l.byte-index l.text)
