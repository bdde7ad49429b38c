use Rattle.std.proofs.Common.{List, ◌++◌, sym, ap, ◌∙◌, arith}
use Rattle.std.proofs.lemmas.List.{append-nil}
use Rattle.poly_cut.specs.declared.layout.Point.{Point}
use Rattle.gds_records.specs.WideValues.{points}
use Rattle.gds_read.proofs.WideFields.{one_point, points_none}
use Rattle.gds_read.proofs.points.points.Goals as goal

pub points-init : goal.points-init
points-init c = ap (λ (l : List Point). l ++ points c.args.xy.now) c.in_ok-found.ensures.items

pub points-preserved : goal.points-preserved
points-preserved c =
    one_point c.args.xy.now c.points.rest.now _ c.points.found.items _ c.first_point.result
    (omega arith) c.split_at.ensures.back c.first_point.ensures
    c.in_ok-push.ensures.items c.points.invariant

pub returns : goal.returns
returns c =
    c.from_vec.ensures ∙ sym (append-nil c.points.found.items)
    ∙ ap (λ (l : List Point). c.points.found.items ++ l) (sym (points_none c.points.rest.now c.points-test.false))
    ∙ c.points.invariant
