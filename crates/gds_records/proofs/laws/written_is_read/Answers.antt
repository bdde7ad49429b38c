use Rattle.gds_records.proofs.WrittenStream.{written_is_stream}
use Rattle.gds_records.proofs.Tree.{tree_is_outlined}
use Rattle.gds_records.proofs.FromWritable.{writable_is_tree}
use Rattle.gds_records.proofs.laws.written_is_read.Goals as goal

pub returns : goal.returns
returns c = λ layout is. written_is_stream layout (tree_is_outlined layout (writable_is_tree layout is))
