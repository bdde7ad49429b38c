use Rattle.decide.proofs.Remembering.{entries_grown}
use Rattle.decide.proofs.diagram.Diagram.choice.Goals as goal

pub invariant_of-self : goal.invariant_of-self
invariant_of-self c = record {
  places = c.args.self.now.places;
  right = entries_grown c.args.self.now.table.nodes.keys c.choice.new.self.nodes.keys c.args.self.now.table.sound
      c.choice.new.self.sound c.choice.ensures.grows c.args.self.now.computed.items c.args.self.now.right;
}
