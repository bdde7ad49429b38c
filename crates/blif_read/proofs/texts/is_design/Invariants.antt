use Rattle.std.proofs.Common.{◌≡◌, ◌+◌, ◌||◌, length, cond}
use Rattle.std.specs.Prelude.{nat_lt}
use Rattle.std.specs.List.{list_any, count_by}
use Rattle.blif_read.specs.Statements.{word, is_model}
use Rattle.blif_read.specs.Models.{is_call}
use Rattle.blif_read.proofs.texts.is_design.Given as goal

abbrev pub invariant-lines : goal.invariant-lines
invariant-lines l = record {
  calls : list_any (λ line. is_call (word line)) l.rest ≡ list_any (λ line. is_call (word line)) l.lines;
  models : (l.two || nat_lt 1 (cond l.one 1 0 + count_by (λ line. is_model (word line)) l.rest)) ≡ nat_lt 1
      (count_by (λ line. is_model (word line)) l.lines);
}

abbrev pub decreases-lines : goal.decreases-lines
decreases-lines l = length l.rest
