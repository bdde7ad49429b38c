use Rattle.decide.proofs.Adding.{adds_of, node_eq, node_eq_same}
use Rattle.decide.proofs.unique_table.insert.Goals as goal

pub returns-clause-adds : goal.returns-clause-adds
returns-clause-adds c = adds_of node_eq c.args.nodes.now.keys c.insert_full.new.self.keys c.args.node
    (node_eq_same c.args.node) c.in_ok-number.ensures.keys
