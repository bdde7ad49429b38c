use Rattle.std.proofs.Common.{ℕ, ◌<◌, List, length}
use Rattle.decide.specs.Code.Diagrams.{edge_value}
use Rattle.decide.specs.Code.Grown.{Grows}
use Rattle.decide.specs.Code.Combined.{IsNarrowed}
use Rattle.decide.specs.Code.Orders.{IsOrder, arranged}
use Rattle.decide.proofs.diagram.Diagram.least_word_in.Given as goal

abbrev pub invariant-loop-input : goal.invariant-loop-input
invariant-loop-input l = record {
  grows : Grows l.fn.self.table.nodes.keys l.self.table.nodes.keys;
  inside : l.narrowed.node < length l.self.table.nodes.keys;
  narrows : (order : List ℕ) → IsOrder (length l.rank) order l.rank → IsOrder (length l.rank) l.rank order
      → IsNarrowed l.self.table.nodes.keys order (length l.rank)
      (λ x. edge_value l.fn.self.table.nodes.keys (arranged order x) l.fn.first)
      (λ x. edge_value l.fn.self.table.nodes.keys (arranged order x) l.fn.second) l.word l.narrowed l.input;
}
