use Rattle.gds_records.proofs.Found.{wide_no_fault, wide_stream_layout, wide_stream_no_fault, wide_found}
use Rattle.gds_records.proofs.Found.{wide_fault_found}
use Rattle.gds_records.proofs.laws.one_wide_reading.Goals as goal

pub returns-clause-stream : goal.returns-clause-stream
returns-clause-stream c = wide_no_fault

pub returns-clause-layout : goal.returns-clause-layout
returns-clause-layout c = wide_stream_layout

pub returns-clause-no_fault : goal.returns-clause-no_fault
returns-clause-no_fault c = wide_stream_no_fault

pub returns-clause-fault : goal.returns-clause-fault
returns-clause-fault c = wide_found

pub returns-clause-one_fault : goal.returns-clause-one_fault
returns-clause-one_fault c = wide_fault_found
