use Rattle.std.proofs.Common.{List, subst}
use Rattle.geom.specs.declared.shapes.Shape.{Shape}
use Rattle.layout_rules.specs.Reports.{ReportsNone, Alone}
use Rattle.layout_rules.specs.ExcitationRule.{AreLaidOut, IsCutOff}
use Rattle.layout_rules.specs.LinePlaces.{IsPlaced}
use Rattle.layout_rules.proofs.LinesAgree.{laid_out, none_cut_off}
use Rattle.layout_make.specs.Laws.{Is, flat_shapes}
use Rattle.layout_make.specs.Tags.{sheet, tags}
use Rattle.layout_make.proofs.FlatLaw.{flat_is_tags}
use Rattle.layout_make.proofs.KeptLines.{excitation_kept}
use Rattle.layout_make.proofs.LineWays.{AddUp, cell_way, rows_near}
use Rattle.layout_make.proofs.Ready.{lawful, may_ready}
use Rattle.layout_make.proofs.Whole.{drawn}
use Rattle.layout_make.proofs.laws.drawing_ways.Goals as goal

pub returns-clause-cells : goal.returns-clause-cells
returns-clause-cells c p l r n f near far frame may at is_f placed =
    let laws = lawful l may.library in
    let ready = may_ready p l c.tracks_are_fewest.ensures.plan may in
    let same = flat_is_tags p l laws in
    let kept = excitation_kept p l ready laws in
    let lines = laid_out (flat_shapes p l) kept in
    let cut = none_cut_off (flat_shapes p l) kept in
    let adds : AddUp (flat_shapes p l) = record {
      first = λ a b part before. c.ways_add_up.ensures.first (flat_shapes p l) lines a b part before;
      next = λ a b d distance comes before.
          c.ways_add_up.ensures.next (flat_shapes p l) a b d distance lines cut comes before;
      once = λ a b d distance other one also.
          c.ways_add_up.ensures.once (flat_shapes p l) a b d distance other lines cut one also;
    } in
    cell_way (sheet p l) (tags p l) (drawn p l ready laws) (subst AreLaidOut same lines)
    (subst (λ (shapes : List Shape). ReportsNone (Alone (IsCutOff shapes))) same cut) (subst AddUp same adds)
    f r at.spot.slot near far at.spot.cell.kind frame at.at
    (subst (λ (shapes : List Shape). Is shapes f frame) same is_f)
    (subst (λ (shapes : List Shape). IsPlaced shapes frame near far) same placed)

pub returns-clause-rows : goal.returns-clause-rows
unfolding sheet
returns-clause-rows c p l r lt = rows_near (sheet p l) r lt
