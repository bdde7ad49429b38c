use Rattle.gds_records.proofs.Found.{stream_no_fault, stream_layout}
use Rattle.gds_records.proofs.laws.stream_is_found.Goals as goal

pub returns-clause-fault : goal.returns-clause-fault
returns-clause-fault c = stream_no_fault

pub returns-clause-layout : goal.returns-clause-layout
returns-clause-layout c = stream_layout
