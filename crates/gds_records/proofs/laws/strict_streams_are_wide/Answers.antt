use Rattle.gds_records.proofs.WiderStreams.{stream_within}
use Rattle.gds_records.proofs.laws.strict_streams_are_wide.Goals as goal

pub returns : goal.returns
returns c = stream_within c.strict_is_within_wide.ensures.sentence c.strict_is_within_wide.ensures.whole
    c.strict_records_are_good.ensures
