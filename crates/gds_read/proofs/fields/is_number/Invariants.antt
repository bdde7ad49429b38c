use Rattle.std.proofs.Common.{◌≡◌, drop}
use Rattle.gds_records.specs.Values.{unsigned_value}
use Rattle.gds_read.proofs.fields.is_number.Given as goal

abbrev pub invariant-loop-b : goal.invariant-loop-b
invariant-loop-b l = unsigned_value l.so_far (drop l.b-index l.bytes) ≡ unsigned_value 0 l.bytes
