use Rattle.std.proofs.Common.{sym}
use Rattle.std.proofs.lemmas.Option.{get_or_from_slice_get}
use Rattle.decide.specs.Code.Diagrams.{node_at, no_node}
use Rattle.decide.proofs.unique_table.UniqueTable.node.Goals as goal

pub returns : goal.returns
unfolding node_at
returns c = sym (get_or_from_slice_get c.args.self.now.nodes.keys c.args.number _ no_node c.index.ensures)
