use Rattle.std.proofs.Common.{arith}
use Rattle.std.proofs.lemmas.Option.{slice_get_within}
use Rattle.decide.specs.Code.Grown.{choice}
use Rattle.decide.proofs.Choosing.{chosen}
use Rattle.decide.proofs.Adding.{choice_node, inserted_diagram, adds_diagram, adds_grows, named_added, stored_is}
use Rattle.decide.proofs.Adding.{stored_some}
use Rattle.decide.proofs.Functions.{at_most_inputs}
use Rattle.decide.proofs.unique_table.UniqueTable.choice.Goals as goal

pub invariant_of-self : goal.invariant_of-self
invariant_of-self c = record {
  sound = inserted_diagram c.insert.result c.args.self.now.nodes.keys c.insert.new.nodes.keys _ c.insert.ensures.adds
      c.insert.ensures.err c.args.self.now.sound
      (let n = c.len.ensures.len in let f = c.if-len-gt-TOO_MANY.false in omega arith)
      (choice_node c.args.self.now.nodes.keys c.args.level c.args.low c.args.high c.flip.result c.if-same_edge.ensures
      c.flip.ensures c.requires.low_inside c.requires.high_inside c.requires.low_level c.requires.high_level);
}

pub returns-clause-grows : goal.returns-clause-grows
returns-clause-grows c = adds_grows _ _ _ c.in_ok-number.ensures.adds

pub returns-clause-has : goal.returns-clause-has
returns-clause-has c =
    let old = c.args.self.now.nodes.keys in
    let new = c.insert.new.nodes.keys in
    let ok = c.args.self.now.sound in
    let ok' = adds_diagram old new _ c.in_ok-number.ensures.adds ok
    (let n = c.len.ensures.len in let f = c.if-len-gt-TOO_MANY.false in omega arith)
    (choice_node old c.args.level c.args.low c.args.high c.flip.result c.if-same_edge.ensures c.flip.ensures
    c.requires.low_inside c.requires.high_inside c.requires.low_level c.requires.high_level) in
    let grows = adds_grows old new _ c.in_ok-number.ensures.adds in
    let stored = c.in_ok-number.ensures.stored in
    let same = stored_is old new _ c.in_ok-number.ensures.adds c.in_ok-number.number stored in
    let most = at_most_inputs old ok c.args.low.node c.requires.low_inside in
    let low = c.requires.low_level in
    chosen old new ok ok' grows c.args.level c.args.low c.args.high c.flip.result c.in_ok-number.number c.flip.ensures
    c.requires.low_inside c.requires.high_inside
    (stored_some old new _ c.in_ok-number.number ok grows same (omega arith))
    (slice_get_within new c.in_ok-number.number _ stored) same

pub returns-clause-named : goal.returns-clause-named
returns-clause-named c a b named is =
    let old = c.args.self.now.nodes.keys in
    let new = c.insert.new.nodes.keys in
    let ok = c.args.self.now.sound in
    let ok' = adds_diagram old new _ c.in_ok-number.ensures.adds ok
    (let n = c.len.ensures.len in let f = c.if-len-gt-TOO_MANY.false in omega arith)
    (choice_node old c.args.level c.args.low c.args.high c.flip.result c.if-same_edge.ensures c.flip.ensures
    c.requires.low_inside c.requires.high_inside c.requires.low_level c.requires.high_level) in
    named_added old new _ ok ok' c.in_ok-number.ensures.adds a b
    (choice c.args.self.now.nodes.keys c.args.level c.args.low c.args.high) c.args.level _
    c.in_ok-number.ensures.stored named is (returns-clause-has c)
