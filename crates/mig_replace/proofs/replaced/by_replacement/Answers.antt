use Rattle.std.proofs.Common.{ℕ, List, sym, subst}
use Rattle.mig_replace.specs.declared.run.Entry.{Entry}
use Rattle.mig_replace.specs.Code.Cones.{Computes, AreFound, AreEntries}
use Rattle.mig_replace.proofs.Carrying.{found_there, found_entries, entry_shows}
use Rattle.mig_replace.proofs.replaced.by_replacement.Goals as goal

pub run-requires-clause-there : goal.run-requires-clause-there
run-requires-clause-there c =
    found_there c.args.graph.now c.args.builder.now c.args.found.now c.requires c.as_slice-leaves.result.now
    c.as_slice-at.result.now
    (subst (λ (ls : List ℕ). AreFound c.args.found.now c.as_slice-leaves.result.now ls) (sym c.as_slice-at.ensures.value)
    (rw c.in-Some.is at c.in_ok-literals.ensures))

pub run-requires-clause-others : goal.run-requires-clause-others
run-requires-clause-others c =
    subst (λ (es : List Entry). AreEntries c.args.builder.now c.as_slice-at.result.now es)
    (sym c.as_slice-known.ensures.value)
    (found_entries c.args.graph.now c.args.builder.now c.args.found.now c.requires c.known.ensures
    c.as_slice-leaves.result.now c.as_slice-at.result.now
    (subst (λ (ls : List ℕ). AreFound c.args.found.now c.as_slice-leaves.result.now ls) (sym c.as_slice-at.ensures.value)
    (rw c.in-Some.is at c.in_ok-literals.ensures))
    c.in-Some-2.others.items (rw c.in-Some-2.is at c.in_ok-others.ensures))

pub returns-in-Some-table_over-clause-shown : goal.returns-in-Some-table_over-clause-shown
returns-in-Some-table_over-clause-shown c =
    entry_shows c.args.graph.now c.args.builder.now c.args.found.now c.requires c.run.new.builder
    c.as_slice-leaves.result.now c.as_slice-at.result.now c.args.node c.in_ok-entry.entry
    (subst (λ (ls : List ℕ). AreFound c.args.found.now c.as_slice-leaves.result.now ls) (sym c.as_slice-at.ensures.value)
    (rw c.in-Some.is at c.in_ok-literals.ensures))
    c.in_ok-entry.ensures.grown
    (subst (λ (t : ℕ). Computes c.args.graph.now c.as_slice-leaves.result.now c.args.node t) c.if-table-entry.true
    c.in-Some-table_over.ensures)
    c.in_ok-entry.ensures.entry
