use Rattle.std.proofs.Common.{◌≡◌, ◌∙◌, sym, [], ◌∷◌, ◌++◌, Some}
use Rattle.std.specs.Prelude.{slice_get}
use Rattle.std.proofs.lemmas.Option.{slice_get_within}
use Rattle.geom.proofs.Filing.{read_at}
use Rattle.layout_rules.specs.Layers.{is_frame}
use Rattle.layout_rules.specs.Reports.{Passes}
use Rattle.shape_extract.proofs.Searching.{those_more, those_same, those_all}
use Rattle.rule_check.proofs.Geometry.{passes_not}
use Rattle.rule_check.proofs.frames.frame_numbers.Goals as goal
use Rattle.rule_check.proofs.frames.frame_numbers.Goals.{then-is_frame+in_ok-push, else-is_frame}

pub loop-number-preserved : goal.loop-number-preserved
loop-number-preserved c =
    let got : slice_get c.args.shapes.now c.loop-number.number ≡ Some c.index-shapes-number.result =
    read_at c.args.shapes.now c.loop-number.number c.index-shapes-number.result c.loop-number-test.true
    c.index-shapes-number.is in
    elim c.if-is_frame.branch [
      | then-is_frame+in_ok-push w ↦
          let longer : w.push.new.self.items ≡ c.loop-number.numbers.items ++ (c.loop-number.number ∷ []) =
          w.in_ok-push.ensures.items in
          rw (w.numbers-is, longer)
          (those_more (Passes is_frame c.args.shapes.now) c.loop-number.number c.loop-number.numbers.items
          c.loop-number.invariant (record {
            shape = c.index-shapes-number.result;
            shape_is = got;
            passes_so = sym c.is_frame.ensures ∙ w.if-is_frame.true;
          }))
      | else-is_frame w ↦ rw w.numbers-is
          (those_same (Passes is_frame c.args.shapes.now) c.loop-number.number c.loop-number.numbers.items
          c.loop-number.invariant (passes_not is_frame c.args.shapes.now c.loop-number.number
          c.index-shapes-number.result got (sym c.is_frame.ensures ∙ w.if-is_frame.false)))
    ]

pub returns : goal.returns
returns c = those_all (Passes is_frame c.args.shapes.now) _ c.loop-number.number c.loop-number.numbers.items
    c.loop-number.invariant c.loop-number-test.false
    (λ m pass. slice_get_within c.args.shapes.now m pass.shape pass.shape_is)
