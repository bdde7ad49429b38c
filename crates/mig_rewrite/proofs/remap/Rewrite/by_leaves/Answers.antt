use Rattle.std.proofs.Common.{refl, [], ◌∷◌}
use Rattle.mig_rewrite.proofs.Carrying.{are_seen, literals_there, cut_shows}
use Rattle.mig_rewrite.proofs.remap.Rewrite.by_leaves.Goals as goal

pub run-requires-clause-there : goal.run-requires-clause-there
run-requires-clause-there c =
    let nodes = c.args.leaves.first ∷ c.args.leaves.second ∷ c.args.leaves.third ∷ [] in
    literals_there c.args.self.now.graph.now c.args.builder.now c.args.self.now.found.now c.requires nodes
    c.deref-2.result.now
    (are_seen c.args.self.now.found.now c.args.self.now.found.now nodes nodes c.in-Some.literals.items
    c.deref-2.result.now refl refl c.deref-2.ensures.value (rw c.in-Some.is at c.in_ok-literals.ensures))

pub returns-then-agrees-clause-shown : goal.returns-then-agrees-clause-shown
returns-then-agrees-clause-shown c =
    let nodes = c.args.leaves.first ∷ c.args.leaves.second ∷ c.args.leaves.third ∷ [] in
    cut_shows c.args.self.now.graph.now c.args.builder.now c.args.self.now.found.now c.requires c.run.new.builder nodes
    c.deref-2.result.now c.args.node c.in_ok-entry.entry
    (are_seen c.args.self.now.found.now c.args.self.now.found.now nodes nodes c.in-Some.literals.items
    c.deref-2.result.now refl refl c.deref-2.ensures.value (rw c.in-Some.is at c.in_ok-literals.ensures))
    c.in_ok-entry.ensures.grown (c.agrees.ensures c.if-agrees.true) c.in_ok-entry.ensures.entry

pub returns-then-agrees-2-clause-shown : goal.returns-then-agrees-2-clause-shown
returns-then-agrees-2-clause-shown c =
    let nodes = c.args.leaves.first ∷ c.args.leaves.second ∷ c.args.leaves.third ∷ [] in
    cut_shows c.args.self.now.graph.now c.args.builder.now c.args.self.now.found.now c.requires c.run.new.builder nodes
    c.deref-2.result.now c.args.node c.in_ok-entry.entry
    (are_seen c.args.self.now.found.now c.args.self.now.found.now nodes nodes c.in-Some.literals.items
    c.deref-2.result.now refl refl c.deref-2.ensures.value (rw c.in-Some.is at c.in_ok-literals.ensures))
    c.in_ok-entry.ensures.grown (c.agrees-2.ensures c.if-agrees-2.true) c.in_ok-entry.ensures.entry
