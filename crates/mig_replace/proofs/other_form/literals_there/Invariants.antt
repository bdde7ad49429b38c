use Rattle.std.proofs.Common.{◌≡◌, length}
use Rattle.mig.specs.Building.{AllThere}
use Rattle.mig_replace.proofs.other_form.literals_there.Given as goal

abbrev pub invariant-loop-node : goal.invariant-loop-node
invariant-loop-node l = record {
  there : AllThere l.builder l.literals.items;
  size : length l.literals.items ≡ l.node-index;
}
