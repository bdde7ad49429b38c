use Rattle.std.proofs.Common.{◌≡◌, drop, []}
use Rattle.std.specs.Str.{bytes_eq}
use Rattle.indexmap.specs.IndexSet.{insert_all}
use Rattle.blif_read.proofs.make.index_of.Given as goal

abbrev pub invariant-loop-name : goal.invariant-loop-name
invariant-loop-name l = insert_all bytes_eq l.index.keys (drop l.name-index l.names) ≡ insert_all bytes_eq [] l.names
