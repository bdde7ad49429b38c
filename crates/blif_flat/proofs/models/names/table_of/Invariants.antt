use Rattle.std.proofs.Common.{◌≡◌, drop, []}
use Rattle.std.specs.Str.{bytes_eq}
use Rattle.indexmap.specs.IndexSet.{insert_all}
use Rattle.blif_read.specs.Code.Seen.{texts}
use Rattle.blif_flat.specs.Designs.{names_in}
use Rattle.blif_flat.proofs.models.names.table_of.Given as goal

abbrev pub invariant-loop-item : goal.invariant-loop-item
invariant-loop-item l = insert_all bytes_eq (texts l.table.keys)
    (names_in (drop l.item-index l.named)) ≡ insert_all bytes_eq [] (names_in l.named)
