use Rattle.std.proofs.Common.{◌≡◌, ◌<◌, ◌∙◌, ℕ, length, arith, subst}
use Rattle.std.proofs.lemmas.Grind.{get_or_default_zero}
use Rattle.std.specs.Prelude.{slice_index}
use Rattle.layout_rules.specs.ExcitationLines.{Contact}
use Rattle.shape_extract.specs.Searches.{AreThose}
use Rattle.shape_extract.specs.Code.LineWalk.{IsSpreadAlong}
use Rattle.shape_extract.proofs.LineRoutes.{contacts_more, starts_still, walked}
use Rattle.shape_extract.proofs.lines.line_walk.follow.Goals as goal

pub loop-done-preserved : goal.loop-done-preserved
loop-done-preserved c =
    let lt : c.loop-done.done < length c.loop-done.order.items = omega arith in
    let from_is : c.index-from.result.now ≡ slice_index c.loop-done.order.items c.loop-done.done = c.index-from.ensures
    ∙ get_or_default_zero _ _ _ lt in
    let are : AreThose (Contact c.args.shapes.now
    (slice_index c.loop-done.order.items c.loop-done.done)) c.as_slice.result.now =
    subst (λ (x : ℕ). AreThose (Contact c.args.shapes.now x) c.as_slice.result.now) from_is
    (rw c.as_slice.ensures.value c.in_ok-list_contacts.ensures) in
    let s : IsSpreadAlong (length c.as_slice.result.now) c.args.shapes.now c.as_slice.result.now c.loop-done.before
    c.loop-done.order.items c.spread.new.before c.spread.new.order.items = c.in_ok-spread.ensures in
    record {
      walk = s.walk;
      starts = starts_still _ _ _ _ _ _ _ c.loop-done.invariant.starts s;
      contacts = contacts_more _ _ _ _ _ _ _ c.loop-done.invariant.walk c.loop-done.invariant.contacts lt are s;
      within = omega (arith, s.longer);
    }

pub returns-clause-walked : goal.returns-clause-walked
returns-clause-walked c = walked _ _ _ c.loop-done.invariant.walk c.loop-done.invariant.starts c.loop-done.done
    (omega arith) c.loop-done.invariant.contacts
