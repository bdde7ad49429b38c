use Rattle.std.proofs.Common.{◌≤◌, ◌*◌, ◌^◌, All}
use Rattle.geom.specs.Code.Grids.{end_of}
use Rattle.geom.proofs.index.survey.grids_for.Given as goal

abbrev pub invariant-loop-survey : goal.invariant-loop-survey
invariant-loop-survey l = record {
  below : All (λ g. end_of g ≤ l.first) l.grids.items;
  few : l.first ≤ l.survey-index * 2 ^ 27;
}
