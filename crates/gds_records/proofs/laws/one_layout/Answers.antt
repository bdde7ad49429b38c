use Rattle.std.proofs.Common.{sym, ◌∙◌}
use Rattle.gds_records.proofs.Found.{stream_layout}
use Rattle.gds_records.proofs.laws.one_layout.Goals as goal

pub returns : goal.returns
returns c = λ bytes a b s t. stream_layout bytes a s ∙ sym (stream_layout bytes b t)
