use Rattle.std.proofs.Common.{◌∙◌}
use Rattle.gds_read.proofs.FewBytes.{mantissa_value}
use Rattle.gds_read.proofs.values.mantissa.Goals as goal

pub returns : goal.returns
returns c = c.from_be_bytes.ensures ∙ mantissa_value c.args.units.now c.requires
