use Rattle.std.proofs.Common.{List, Bool, ℕ, false, ap, ◌∙◌}
use Rattle.std.specs.Prelude.{slice_index_or}
use Rattle.gds_read.specs.Code.Graphs.{is_long}
use Rattle.gds_read.proofs.wide_conditions.too_deep.Goals as goal

pub first_long-requires-clause-marks : goal.first_long-requires-clause-marks
first_long-requires-clause-marks c n =
    ap (λ (marks : List Bool). slice_index_or marks n false) c.as_slice-2.ensures.value ∙ c.in_ok-long.ensures n
    ∙ ap (λ (g : List (List ℕ)). is_long g n) (c.as_slice.ensures ∙ c.in_ok-graph.ensures)
