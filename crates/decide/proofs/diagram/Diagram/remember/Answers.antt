use Rattle.std.proofs.Common.{◌<◌, List, sym, subst}
use Rattle.std.proofs.lemmas.List.{length-set}
use Rattle.std.proofs.lemmas.List.Elements.{All-set}
use Rattle.decide.specs.declared.edge.Node.{Node}
use Rattle.decide.specs.declared.diagram.Entry.{Entry}
use Rattle.decide.specs.Code.Majorities.{IsEntry}
use Rattle.decide.proofs.diagram.Diagram.remember.Goals as goal

pub invariant_of-self : goal.invariant_of-self
invariant_of-self c =
    let computed = c.make_room.new.self.computed.items in
    let entry : Entry = record { operands = c.args.operands; result = c.args.edge } in
    let right : IsEntry c.args.self.now.table.nodes.keys entry =
    record { operands = c.requires.operands; is = c.requires.is } in
    record {
      places = subst (λ n. 0 < n) (sym (length-set computed c.place-place.result _)) c.make_room.new.self.places;
      right = All-set (IsEntry c.make_room.new.self.table.nodes.keys) computed c.place-place.result entry
          (subst (λ (ns : List Node). IsEntry ns entry) (sym c.in_ok-make_room.ensures) right)
          c.make_room.new.self.right;
    }
