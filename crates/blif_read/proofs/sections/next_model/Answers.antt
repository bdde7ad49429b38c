use Rattle.std.proofs.Common.{◌∙◌, ap, sym, arith, length}
use Rattle.blif_read.proofs.Modelled.{behind_none_yet, behind_more, model_at}
use Rattle.blif_read.proofs.sections.next_model.Goals as goal

pub lines-init : goal.lines-init
lines-init c = record {
  behind = behind_none_yet c.copy-rest.result c.args.lines.now c.copy-rest.ensures.same;
  few = omega (arith, ap length c.copy-rest.ensures.same);
}

pub lines-preserved : goal.lines-preserved
lines-preserved c = record {
  behind = behind_more c.lines.at c.lines.rest c.take_first.new.self c.args.lines.now c.in-Some.line
      c.lines.invariant.behind (c.in-Some.ensures.some) (sym c.is_model.ensures ∙ c.if-is_model.false);
  few = c.lines.invariant.few;
}

pub overflow_add-at : goal.overflow_add-at
overflow_add-at c = let count = c.lines.invariant.behind.count in let few = c.lines.invariant.few in omega arith

pub returns-then-is_model-clause-place : goal.returns-then-is_model-clause-place
returns-then-is_model-clause-place c =
    sym (model_at c.lines.at c.lines.rest c.take_first.new.self c.args.lines.now c.in-Some.line c.lines.invariant.behind
    (c.in-Some.ensures.some) (sym c.is_model.ensures ∙ c.if-is_model.true))

pub returns-then-is_model-clause-rest : goal.returns-then-is_model-clause-rest
returns-then-is_model-clause-rest c = c.copy-here.ensures.same ∙ c.lines.invariant.behind.left

pub returns-then-is_model-clause-few : goal.returns-then-is_model-clause-few
returns-then-is_model-clause-few c = let count = c.lines.invariant.behind.count in let few =
    c.lines.invariant.few in omega arith
