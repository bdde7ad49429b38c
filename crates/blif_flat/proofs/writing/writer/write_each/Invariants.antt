use Rattle.std.proofs.Common.{drop}
use Rattle.std.specs.List.{flat_map}
use Rattle.blif_flat.specs.BlifText.{line_text}
use Rattle.blif_flat.specs.Code.Sending.{Sends, lines_from}
use Rattle.blif_flat.proofs.writing.writer.write_each.Given as goal

abbrev pub invariant-loop-number : goal.invariant-loop-number
invariant-loop-number g l = record {
  sends : Sends (g.F.Files.outside l.initial.files)
      (g.F.Files.outside l.files) l.initial.page.items l.page.items
      (flat_map line_text (lines_from g.T.Written.lines l.number (drop l.number l.items)))
      (flat_map line_text (lines_from g.T.Written.lines 0 l.items));
}
