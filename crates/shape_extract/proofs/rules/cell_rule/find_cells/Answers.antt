use Rattle.std.proofs.lemmas.Result.{IfOk-weaker}
use Rattle.std.specs.Prelude.{◌⊎◌}
use Rattle.layout_rules.specs.Reports.{Alone}
use Rattle.layout_rules.specs.CircuitRules.{HasNoFrame, IsNoCell, IsStrayPin, CellsBroken}
use Rattle.shape_extract.specs.Searches.{Finds}
use Rattle.shape_extract.proofs.Searching.{after_none, after_some}
use Rattle.shape_extract.proofs.Marked.{frame_there, frame_absent}
use Rattle.shape_extract.proofs.rules.cell_rule.find_cells.Goals as goal

pub returns : goal.returns
returns c = IfOk-weaker c.first_of.result
    (Finds (Alone (λ n. IsNoCell c.args.shapes.now n ⊎ IsStrayPin c.args.shapes.now n)))
    (Finds (CellsBroken c.args.shapes.now))
    (λ found finds. after_none (HasNoFrame c.args.shapes.now)
    (Alone (λ n. IsNoCell c.args.shapes.now n ⊎ IsStrayPin c.args.shapes.now n)) found
    (frame_there c.args.shapes.now c.if-not-has_frame.ensures) finds)
    c.first_of.ensures

pub returns-then-not-has_frame : goal.returns-then-not-has_frame
returns-then-not-has_frame c = after_some (HasNoFrame c.args.shapes.now)
    (Alone (λ n. IsNoCell c.args.shapes.now n ⊎ IsStrayPin c.args.shapes.now n)) (record { first = 0; second = 0 })
    (frame_absent c.args.shapes.now c.if-not-has_frame.ensures)
