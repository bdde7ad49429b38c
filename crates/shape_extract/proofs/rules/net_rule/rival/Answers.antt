use Rattle.std.proofs.Common.{◌∙◌, sym}
use Rattle.shape_extract.specs.Searches.{AreThose}
use Rattle.shape_extract.specs.Code.NetPins.{IsPinIn}
use Rattle.shape_extract.proofs.Marked.{got_at}
use Rattle.shape_extract.proofs.NetPins.{rivals, no_pin}
use Rattle.shape_extract.proofs.rules.net_rule.rival.Goals as goal

pub returns : goal.returns
returns c =
    let are : AreThose (IsPinIn c.args.shapes.now c.index-shapes-a.result.layer c.args.a) c.as_slice.result.now =
    rw c.as_slice.ensures.value c.in_ok-list_in_net.ensures in
    rivals c.args.shapes.now c.args.a c.index-shapes-a.result (got_at _ _ _ c.requires.within c.index-shapes-a.is)
    (sym c.is_pin.ensures ∙ c.if-not-is_pin.false) c.as_slice.result.now are _ c.first_other-other.ensures

pub returns-then-not-is_pin : goal.returns-then-not-is_pin
returns-then-not-is_pin c = no_pin c.args.shapes.now c.args.a c.index-shapes-a.result
    (got_at _ _ _ c.requires.within c.index-shapes-a.is) (sym c.is_pin.ensures ∙ c.if-not-is_pin.true)
