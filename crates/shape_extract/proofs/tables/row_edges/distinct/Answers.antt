use Rattle.std.proofs.Common.{◌≡◌, ◌∙◌, ap, subst, rules, get_or, pos, ℤ, [], ◌∷◌, ◌++◌, Some, w64, to_z, of_z}
use Rattle.std.specs.Prelude.{slice_get}
use Rattle.std.proofs.lemmas.Int.{to_z-of_z}
use Rattle.std.proofs.lemmas.Option.{slice_get-get_or}
use Rattle.shape_extract.specs.Code.Edges.{EndsWith}
use Rattle.shape_extract.specs.Searches.{SaysWhether}
use Rattle.shape_extract.proofs.Searching.{said_true, said_false}
use Rattle.shape_extract.proofs.RowEdges.{distinct_more, distinct_same, distinct_all}
use Rattle.shape_extract.proofs.tables.row_edges.distinct.Goals as goal
use Rattle.shape_extract.proofs.tables.row_edges.distinct.Goals.{then-not-ends_with+in_ok-push, else-not-ends_with}

pub returns : goal.returns
returns c = distinct_all _ _ _ c.loop-y-test.false c.loop-y.invariant

pub loop-y-preserved : goal.loop-y-preserved
loop-y-preserved c =
    let same : to_z w64 (of_z w64 (get_or c.args.sorted.now c.loop-y.y-index (pos 0))) ≡ get_or c.args.sorted.now
    c.loop-y.y-index (pos 0) = search (rules, to_z-of_z) in
    let got : slice_get c.args.sorted.now c.loop-y.y-index ≡ Some (get_or c.args.sorted.now c.loop-y.y-index (pos 0)) =
    slice_get-get_or c.args.sorted.now c.loop-y.y-index (pos 0) c.loop-y-test.true in
    let says : SaysWhether c.ends_with.result
    (EndsWith c.loop-y.numbers.items (get_or c.args.sorted.now c.loop-y.y-index (pos 0))) =
    subst (λ (y : ℤ). SaysWhether c.ends_with.result (EndsWith c.loop-y.numbers.items y)) same
    (rw c.as_slice.ensures.value at c.ends_with.ensures) in
    elim c.if-not-ends_with.branch [
      | then-not-ends_with+in_ok-push w ↦
          let longer : w.push.new.self.items ≡ c.loop-y.numbers.items ++ (get_or c.args.sorted.now c.loop-y.y-index
          (pos 0) ∷ []) = w.in_ok-push.ensures.items ∙ ap (λ (y : ℤ). c.loop-y.numbers.items ++ (y ∷ [])) same in
          rw (w.numbers-is, longer)
          (distinct_more _ c.requires _ _ _ c.loop-y.invariant got (said_false _ _ says w.if-not-ends_with.true))
      | else-not-ends_with w ↦ rw w.numbers-is
          (distinct_same _ c.requires _ _ _ c.loop-y.invariant got (said_true _ _ says w.if-not-ends_with.false))
    ]
