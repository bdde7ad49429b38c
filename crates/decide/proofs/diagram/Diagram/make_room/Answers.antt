use Rattle.std.proofs.Common.{List, sym, subst, All}
use Rattle.decide.specs.declared.diagram.Entry.{Entry}
use Rattle.decide.specs.Code.Majorities.{IsEntry}
use Rattle.decide.proofs.Remembering.{nothing_is}
use Rattle.decide.proofs.diagram.Diagram.make_room.Goals as goal

pub invariant_of-self : goal.invariant_of-self
invariant_of-self c = record {
  places = c.in_ok-self.ensures.some;
  right = c.in_ok-self.ensures.each c.args.self.now.table.nodes.keys
      (nothing_is c.args.self.now.table.nodes.keys c.args.self.now.table.sound)
      (subst (λ (es : List Entry). All (IsEntry c.args.self.now.table.nodes.keys) es)
      (sym c.deref.ensures.value) c.args.self.now.right);
}
