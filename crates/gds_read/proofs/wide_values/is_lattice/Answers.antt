use Rattle.gds_read.proofs.WideFields.{lattice_other}
use Rattle.gds_read.proofs.wide_values.is_lattice.Goals as goal

pub returns-then-xy-ne3 : goal.returns-then-xy-ne3
returns-then-xy-ne3 c = lattice_other c.args.columns c.args.rows c.args.xy.now c.if-xy-ne3.true
