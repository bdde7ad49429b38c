use Rattle.std.proofs.Common.{◌∙◌, sym}
use Rattle.shape_extract.proofs.Marked.{got_at}
use Rattle.shape_extract.proofs.JoinedParts.{contacts_within}
use Rattle.shape_extract.proofs.BarSides.{go_well_past, go_well_more, goes_wrong, goes_well}
use Rattle.shape_extract.proofs.lines.crossed_bars.goes_on_wrongly.Goals as goal
use Rattle.shape_extract.proofs.lines.crossed_bars.goes_on_wrongly.Goals.{then-number-a+else-not-leaves, else-number-a}

pub loop-number-preserved : goal.loop-number-preserved
loop-number-preserved c = elim c.if-number-a.branch [
  | then-number-a+else-not-leaves w ↦
      go_well_more c.args.shapes.now c.args.contacts.now c.args.a c.index-shapes-a.result c.index-shapes-b.result
      c.loop-number.number-index c.loop-number.invariant
      w.index-shapes-number.result
      (got_at _ _ _ (contacts_within _ _ _ c.requires.contacts _ c.loop-number-test.true) w.index-shapes-number.is)
      (sym w.leaves.ensures ∙ w.if-not-leaves.false)
  | else-number-a w ↦
      go_well_past c.args.shapes.now c.args.contacts.now c.args.a c.index-shapes-a.result c.index-shapes-b.result
      c.loop-number.number-index c.loop-number.invariant w.if-number-a.false
]

pub returns-then-not-leaves : goal.returns-then-not-leaves
returns-then-not-leaves c =
    goes_wrong c.args.shapes.now c.args.contacts.now c.args.a c.args.b c.requires.contacts c.index-shapes-a.result
    c.index-shapes-b.result (got_at _ _ _ c.requires.before c.index-shapes-a.is)
    (got_at _ _ _ c.requires.bar c.index-shapes-b.is)
    c.loop-number.number-index c.index-shapes-number.result c.loop-number-test.true c.if-number-a.true
    (got_at _ _ _ (contacts_within _ _ _ c.requires.contacts _ c.loop-number-test.true) c.index-shapes-number.is)
    (sym c.leaves.ensures ∙ c.if-not-leaves.true)

pub returns : goal.returns
returns c =
    goes_well c.args.shapes.now c.args.contacts.now c.args.a c.args.b c.requires.contacts c.index-shapes-a.result
    c.index-shapes-b.result (got_at _ _ _ c.requires.before c.index-shapes-a.is)
    (got_at _ _ _ c.requires.bar c.index-shapes-b.is)
    c.loop-number.number-index c.loop-number-test.false c.loop-number.invariant
