use Rattle.std.proofs.Common.{arith}
use Rattle.decide.proofs.Choosing.{grows_then}
use Rattle.decide.proofs.Remembering.{inputs_same}
use Rattle.decide.proofs.Narrowed.{narrowed_begins, narrowed_inside, narrowed_more, narrowed_ends}
use Rattle.decide.proofs.diagram.Diagram.least_word_in.Goals as goal

pub loop-input-init : goal.loop-input-init
loop-input-init c = record {
  grows = c.in_ok-narrowed.ensures.grows;
  inside = c.in_ok-narrowed.ensures.has.inside;
  narrows = λ order is si.
      narrowed_begins _ order c.args.rank.now is si c.args.self.now.table.nodes.keys
      c.difference.new.self.table.nodes.keys c.args.self.now.table.sound c.difference.new.self.table.sound
      (let inputs = c.requires.inputs in omega arith) c.args.first c.args.second c.in_ok-narrowed.narrowed
      c.new-word.result c.new-word.ensures
      c.requires.first c.requires.second c.requires.differ c.in_ok-narrowed.ensures.has;
}

pub low_part-requires-clause-level : goal.low_part-requires-clause-level
low_part-requires-clause-level c =
    let inputs = c.requires.inputs in
    let same = inputs_same c.args.self.now.table.nodes.keys c.loop-input.self.table.nodes.keys
    c.args.self.now.table.sound c.loop-input.self.table.sound c.loop-input.invariant.grows in
    let level = c.requires.levels c.loop-input.input c.loop-input-test.true in
    omega arith

pub loop-input-preserved : goal.loop-input-preserved
loop-input-preserved c =
    let old = c.loop-input.self.table.nodes.keys in
    let new = c.low_part.new.self.table.nodes.keys in
    let ok = c.loop-input.self.table.sound in
    let ok' = c.low_part.new.self.table.sound in
    let grows = c.in_ok-low.ensures.grows in
    let inputs = c.requires.inputs in
    let same = inputs_same c.args.self.now.table.nodes.keys old c.args.self.now.table.sound ok
    c.loop-input.invariant.grows in
    record {
      grows = grows_then c.args.self.now.table.nodes.keys old new c.loop-input.invariant.grows grows;
      inside = narrowed_inside old new ok ok' grows c.same_edge-side.result c.loop-input.narrowed c.in_ok-low.low
          c.select-narrowed.result c.loop-input.invariant.inside c.in_ok-low.ensures.has.inside
          c.select-narrowed.ensures;
      narrows = λ order is si.
          narrowed_more _ order c.args.rank.now is si old new ok ok' grows
          (omega arith) _ _ c.loop-input.word c.loop-input.narrowed c.in_ok-low.low c.loop-input.input
          (c.loop-input.invariant.narrows order is si)
          c.loop-input.invariant.inside c.loop-input-test.true c.in_ok-low.ensures.has c.same_edge-side.result
          c.select-narrowed.result c.push.new.self
          c.same_edge-side.ensures c.select-narrowed.ensures c.in_ok-push.ensures.ok;
    }

pub returns : goal.returns
returns c order is si =
    let nodes = c.loop-input.self.table.nodes.keys in
    let inputs = c.requires.inputs in
    let same = inputs_same c.args.self.now.table.nodes.keys nodes c.args.self.now.table.sound
    c.loop-input.self.table.sound c.loop-input.invariant.grows in
    let end = c.loop-input-test.false in
    let auto = c.loop-input.auto.input-end in
    narrowed_ends _ order c.args.rank.now is si nodes c.loop-input.self.table.sound
    (omega arith) _ _ c.loop-input.word c.loop-input.narrowed c.loop-input.input (omega arith)
    c.loop-input.invariant.inside (c.loop-input.invariant.narrows order is si)
