use Rattle.std.proofs.Common.{List, ℕ, subst}
use Rattle.geom.specs.FirstChip.{first_layout}
use Rattle.gds_records.specs.Stream.{IsStream}
use Rattle.gds_records.proofs.FirstStream.{first_written}
use Rattle.gds_records.proofs.laws.first_chip_is_stream.Goals as goal

pub returns-clause-stream : goal.returns-clause-stream
returns-clause-stream c =
    subst (λ (b : List ℕ). IsStream b first_layout) first_written
    (c.written_is_read.ensures first_layout c.first_chip_is_writable.ensures)
