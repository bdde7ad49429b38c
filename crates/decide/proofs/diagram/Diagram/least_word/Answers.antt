use Rattle.std.proofs.Common.{◌≡◌, ◌<◌, subst, arith}
use Rattle.decide.specs.Code.Diagrams.{inputs_of}
use Rattle.decide.proofs.Searching.{IsSearch, search_begins, search_more, search_ends}
use Rattle.decide.proofs.diagram.Diagram.least_word.Goals as goal

pub loop-input-init : goal.loop-input-init
loop-input-init c = search_begins c.args.self.now.table.nodes.keys c.args.self.now.table.sound c.args.first
    c.args.second c.new-word.result c.new-word.ensures c.requires.first c.requires.second c.requires.differ

pub cofactor-requires : goal.cofactor-requires
cofactor-requires c = c.loop-input.invariant.f_inside

pub cofactor-requires-in-loop-input : goal.cofactor-requires-in-loop-input
cofactor-requires-in-loop-input c = c.loop-input.invariant.g_inside

pub cofactor-f-requires : goal.cofactor-f-requires
cofactor-f-requires c = c.loop-input.invariant.f_inside

pub cofactor-g-requires : goal.cofactor-g-requires
cofactor-g-requires c = c.loop-input.invariant.g_inside

pub loop-input-preserved : goal.loop-input-preserved
loop-input-preserved c =
    let inputs = c.requires.inputs in
    let some : c.loop-input.input < inputs_of c.args.self.now.table.nodes.keys = omega arith in
    search_more c.args.self.now.table.nodes.keys c.args.self.now.table.sound c.args.first c.args.second
    c.loop-input.word c.loop-input.f c.loop-input.g c.loop-input.input c.loop-input.invariant some
    c.same_edge-same.result c.cofactor-f.result c.cofactor-g.result c.push.new.self
    (rw (c.cofactor.ensures, c.cofactor-in-loop-input.ensures) at c.same_edge-same.ensures) c.cofactor-f.ensures
    c.cofactor-g.ensures c.in_ok-push.ensures.ok

pub returns : goal.returns
returns c =
    let nodes = c.args.self.now.table.nodes.keys in
    let ok = c.args.self.now.table.sound in
    let end : c.loop-input.input ≡ c.args.inputs = omega arith in
    search_ends nodes ok c.args.first c.args.second c.loop-input.word c.loop-input.f c.loop-input.g c.args.inputs
    (subst (λ n. IsSearch nodes ok c.args.first c.args.second c.loop-input.word c.loop-input.f c.loop-input.g n) end
    c.loop-input.invariant) c.requires.inputs
