use Rattle.std.proofs.Common.{◌<◌, sym, subst, arith}
use Rattle.std.proofs.lemmas.List.{length-set}
use Rattle.std.proofs.lemmas.List.Elements.{All-set}
use Rattle.decide.specs.Code.Majorities.{IsEntry}
use Rattle.decide.proofs.diagram.spread.Goals as goal

pub loop-entry-init : goal.loop-entry-init
loop-entry-init c = record {
  some = (let some = c.requires in let size = c.in_ok-more.ensures.size in omega arith);
  each = λ nodes nothing all k d lt. subst (IsEntry nodes) (sym (c.in_ok-more.ensures.each k d lt)) nothing;
}

pub loop-entry-preserved : goal.loop-entry-preserved
loop-entry-preserved c = record {
  some = subst (λ n. 0 < n) (sym (length-set c.loop-entry.more.items c.place-at.result _)) c.loop-entry.invariant.some;
  each = λ nodes nothing all. All-set (IsEntry nodes) c.loop-entry.more.items c.place-at.result _
      (all c.loop-entry.entry-index _ c.loop-entry-test.true) (c.loop-entry.invariant.each nodes nothing all);
}

pub returns-clause-each : goal.returns-clause-each
returns-clause-each c = c.loop-entry.invariant.each
