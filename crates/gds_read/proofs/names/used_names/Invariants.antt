use Rattle.std.proofs.Common.{map, take}
use Rattle.gds_records.specs.Whole.{all_uses}
use Rattle.gds_read.specs.Code.Numbering.{AreUsed}
use Rattle.gds_read.specs.Code.Outlining.{outline_of}
use Rattle.gds_read.specs.Code.Texts.{texts}
use Rattle.gds_read.proofs.names.used_names.Given as goal

abbrev pub invariant-loop-outline : goal.invariant-loop-outline
invariant-loop-outline l = AreUsed (texts l.used.keys) (all_uses (map outline_of (take l.outline-index l.outlines)))
