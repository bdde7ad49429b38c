use Rattle.std.proofs.Common.{◌≡◌, drop}
use Rattle.gds_records.specs.Table.{entry_of}
use Rattle.gds_read.proofs.table.entry_in.Given as goal

abbrev pub invariant-loop-entry : goal.invariant-loop-entry
invariant-loop-entry l = entry_of l.kind (drop l.entry-index l.entries) ≡ entry_of l.kind l.entries
