use Rattle.std.proofs.Common.{◌∙◌}
use Rattle.gds_read.proofs.FewBytes.{flag_value}
use Rattle.gds_read.proofs.values.flag_bits.Goals as goal

pub returns : goal.returns
returns c = c.from_be_bytes.ensures ∙ flag_value c.args.flags.now c.requires
