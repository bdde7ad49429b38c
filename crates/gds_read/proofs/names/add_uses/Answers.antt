use Rattle.std.proofs.Common.{[], get_or}
use Rattle.gds_read.specs.declared.outline.NamedUse.{NamedUse}
use Rattle.gds_read.specs.Code.Texts.{texts}
use Rattle.gds_read.proofs.Items.{any_default}
use Rattle.gds_read.proofs.Judged.{uses_more}
use Rattle.gds_read.proofs.names.add_uses.Goals as goal

pub loop-item-preserved : goal.loop-item-preserved
loop-item-preserved c t =
    let none : NamedUse = record { place = 0; name = record { ref_ptr = (0, 0); now = [] } } in
    let item : NamedUse = get_or c.args.uses.now c.loop-item.item-index none in
    uses_more t c.args.uses.now c.loop-item.item-index item (texts c.args.used.now.keys) _ _ c.loop-item-test.true
    (any_default c.args.uses.now c.loop-item.item-index none item c.loop-item-test.true)
    (c.loop-item.invariant t) c.in_ok-add.ensures
