use Rattle.std.proofs.Common.{◌≡◌, ◌≤◌, ◌*◌, ◌^◌, subst, sym, ℕ, All, arith, get_or}
use Rattle.std.proofs.lemmas.Nat.{mul-le}
use Rattle.std.proofs.lemmas.List.Elements.{All-push}
use Rattle.geom.specs.Code.Grids.{end_of}
use Rattle.geom.specs.declared.index.grid.Grid.{Grid}
use Rattle.geom.proofs.Filing.{grids_closed}
use Rattle.geom.proofs.index.survey.grids_for.Goals as goal
use Rattle.geom.proofs.index.survey.grids_for.Goals.{then-survey-gt0+in_ok-push, else-survey-gt0}

pub loop-survey-preserved : goal.loop-survey-preserved
loop-survey-preserved c = elim c.if-survey-gt0.branch [
  | then-survey-gt0+in_ok-push w ↦
      let first : w.grid-grid.result.first ≡ c.loop-survey.first = w.grid-grid.ensures in
      let end : w.end-first.result ≡ end_of w.grid-grid.result = w.end-first.ensures.value in
      let few : w.grid-grid.result.rows * w.grid-grid.result.columns ≤ 2 ^ 11 * 2 ^ 16 =
      mul-le w.grid-grid.result.rows w.grid-grid.result.columns (2 ^ 11)
      (2 ^ 16) w.grid-grid.result.few_rows w.grid-grid.result.few_columns in
      rw (w.grids-is, w.first-is, w.in_ok-push.ensures.items) (record {
        below = All-push (λ (g : Grid). end_of g ≤ w.end-first.result) c.loop-survey.grids.items w.grid-grid.result
            (λ k d lt. (let le : end_of (get_or c.loop-survey.grids.items k d) ≤ c.loop-survey.first =
            c.loop-survey.invariant.below k d lt in omega arith)) (omega arith);
        few = omega (arith, c.loop-survey.invariant.few);
      })
  | else-survey-gt0 w ↦ rw (w.grids-is, w.first-is)
      (record { below = c.loop-survey.invariant.below; few = omega (arith, c.loop-survey.invariant.few) })
]

pub returns : goal.returns
returns c = rw c.in_ok-push-2.ensures.items
    (grids_closed _ c.grid_for_all.result
    (subst (λ (n : ℕ). All (λ g. end_of g ≤ n) c.loop-survey.grids.items)
    (sym c.grid_for_all.ensures.first) c.loop-survey.invariant.below) c.grid_for_all.ensures.wide
    c.grid_for_all.ensures.high)
