use Rattle.std.proofs.Common.{◌∙◌, ◌++◌, ap, refl, reverse, arith}
use Rattle.std.proofs.lemmas.List.{get_or_read}
use Rattle.std.proofs.lemmas.Grind.{common_steps}
use Rattle.blif_read.specs.declared.models.BlifModel.{BlifModel}
use Rattle.blif_flat.specs.Designs.{no_model}
use Rattle.blif_flat.specs.Code.Wired.{wires_of, begun}
use Rattle.blif_flat.proofs.SoundModels.{first_is_sound}
use Rattle.blif_flat.proofs.Walking.{walk_starts, walk_counted, walk_shorter, walk_sooner, walk_goes}
use Rattle.blif_flat.proofs.expansion.wires.linked_wires.Goals as goal

pub loop-frame-init : goal.loop-frame-init
loop-frame-init c =
    let w = walk_starts c.args.models.now (reverse c.args.order.now) c.args.table.now c.requires.order.settled
    c.requires.links c.new-frames.result.items c.push.new.self.items _
    (wires_of c.begin.new.places.items) (wires_of c.new-places.result.items)
    (first_is_sound c.args.models.now c.requires.laid_out c.requires.some) c.requires.order.rooted
    c.new-frames.ensures.items
    c.in_ok-push.ensures.items refl refl c.links_at.ensures (ap wires_of c.new-places.ensures.items)
    (c.in_ok-begin.ensures ∙ ap (λ (m : BlifModel). wires_of c.new-places.result.items ++ begun 0 m)
    (get_or_read c.args.models.now 0 c.index-models-0.result c.requires.some c.index-models-0.is no_model)) in
    record {
      whole = w.0;
      reached = w.1;
      counted = walk_counted c.args.models.now (reverse c.args.order.now) c.args.table.now c.requires.order.settled
          c.requires.links c.new-frames.result.items c.push.new.self.items _
          (first_is_sound c.args.models.now c.requires.laid_out c.requires.some) c.requires.order.rooted
          c.new-frames.ensures.items c.in_ok-push.ensures.items c.links_at.ensures c.requires.small;
    }

pub loop-frame-smaller-in-Continue-branch-6 : goal.loop-frame-smaller-in-Continue-branch-6
loop-frame-smaller-in-Continue-branch-6 c = walk_sooner c.args.models.now (reverse c.args.order.now) c.args.table.now
    c.requires.order.settled c.requires.links c.loop-frame.frames.items c.pop.new.self.items
    c.push-in-Some-split_first.new.self.items c.push-in-Some-split_first-2.new.self.items c.in-Some.frame _ _
    c.in-Some-split_first.link c.in-Some-split_first.rest.now c.in-Some.ensures.items c.in_ok-push-2.ensures.items
    c.in_ok-push-3.ensures.items c.in-Some-split_first.ensures.cases.0 refl c.links_at-in-Some-split_first.ensures
    c.loop-frame.invariant.reached

pub loop-frame-preserved-in-Continue-branch-6 : goal.loop-frame-preserved-in-Continue-branch-6
loop-frame-preserved-in-Continue-branch-6 c =
    let w = walk_goes c.args.models.now (reverse c.args.order.now) c.args.table.now
    c.requires.order.settled c.requires.links c.loop-frame.frames.items c.pop.new.self.items
    c.push-in-Some-split_first.new.self.items c.push-in-Some-split_first-2.new.self.items c.in-Some.frame _ _
    c.in-Some-split_first.link c.in-Some-split_first.rest.now c.in-Some.ensures.items c.in_ok-push-2.ensures.items
    c.in_ok-push-3.ensures.items c.in-Some-split_first.ensures.cases.0 refl c.links_at-in-Some-split_first.ensures
    c.loop-frame.invariant.reached
    c.loop-frame.calls c.next_call-calls.result (wires_of c.loop-frame.places.items) (wires_of c.leave.new.places.items)
    (wires_of c.begin_called.new.places.items) _ c.next_call-calls.ensures refl refl refl refl c.in_ok-leave.ensures
    c.in_ok-begin_called.ensures c.loop-frame.invariant.whole in
    let sooner = walk_sooner c.args.models.now (reverse c.args.order.now) c.args.table.now
    c.requires.order.settled c.requires.links c.loop-frame.frames.items c.pop.new.self.items
    c.push-in-Some-split_first.new.self.items c.push-in-Some-split_first-2.new.self.items c.in-Some.frame _ _
    c.in-Some-split_first.link c.in-Some-split_first.rest.now c.in-Some.ensures.items c.in_ok-push-2.ensures.items
    c.in_ok-push-3.ensures.items c.in-Some-split_first.ensures.cases.0 refl c.links_at-in-Some-split_first.ensures
    c.loop-frame.invariant.reached in
    record {
      whole = w.0;
      reached = w.1;
      counted = omega (arith, sooner, c.next_call-calls.ensures, c.loop-frame.invariant.counted);
    }

pub loop-frame-preserved : goal.loop-frame-preserved
loop-frame-preserved c =
    let shorter = walk_shorter c.args.models.now c.loop-frame.frames.items c.pop.new.self.items c.in-Some.frame
    c.in-Some.ensures.items in
    record {
      whole = grind (arith, common_steps);
      reached = grind (arith, common_steps);
      counted = omega (arith, shorter, c.loop-frame.invariant.counted);
    }
