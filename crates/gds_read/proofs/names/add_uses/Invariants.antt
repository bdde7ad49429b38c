use Rattle.std.proofs.Common.{◌≡◌, ℕ, List, ◌||◌, map, take}
use Rattle.gds_records.specs.Steps.{is_listed}
use Rattle.gds_records.specs.Whole.{is_used}
use Rattle.gds_read.specs.Code.Outlining.{use_of}
use Rattle.gds_read.specs.Code.Texts.{texts}
use Rattle.gds_read.proofs.names.add_uses.Given as goal

abbrev pub invariant-loop-item : goal.invariant-loop-item
invariant-loop-item l = (t : List ℕ)
    → is_listed t (texts l.used.keys) ≡ (is_listed t (texts l.initial.used.keys)
    || is_used t (map use_of (take l.item-index l.uses)))
