use Rattle.std.proofs.Common.{◌≡◌, ◌∙◌, sym, ap, rules, ℤ, [], ◌∷◌, ◌++◌, w64, to_z, of_z}
use Rattle.std.proofs.lemmas.Int.{to_z-of_z}
use Rattle.shape_extract.proofs.Marked.{got_at}
use Rattle.shape_extract.proofs.RowEdges.{edges_more, edges_same, edges_all}
use Rattle.shape_extract.proofs.tables.row_edges.frame_edges.Goals as goal
use Rattle.shape_extract.proofs.tables.row_edges.frame_edges.Goals.{then-is_frame+in_ok-push, else-is_frame}

pub loop-shape-preserved : goal.loop-shape-preserved
loop-shape-preserved c = elim c.if-is_frame.branch [
  | then-is_frame+in_ok-push w ↦
      let same : to_z w64 (of_z w64 w.lower_edge.result) ≡ w.lower_edge.result = search (rules, to_z-of_z) in
      let longer : w.push.new.self.items ≡ c.loop-shape.edges.items ++ (c.shape-item.result.rect.y0 ∷ []) =
      w.in_ok-push.ensures.items
      ∙ ap (λ (y : ℤ). c.loop-shape.edges.items ++ (y ∷ [])) (same ∙ w.lower_edge.ensures) in
      rw (w.edges-is, longer) (edges_more _ _ _ _ c.loop-shape.invariant
      (got_at _ _ _ c.loop-shape-test.true c.shape-item.is) (sym c.is_frame.ensures ∙ w.if-is_frame.true))
  | else-is_frame w ↦ rw w.edges-is
      (edges_same _ _ _ _ c.loop-shape.invariant (got_at _ _ _ c.loop-shape-test.true c.shape-item.is)
      (sym c.is_frame.ensures ∙ w.if-is_frame.false))
]

pub returns : goal.returns
returns c = edges_all _ _ _ c.loop-shape-test.false c.loop-shape.invariant
