use Rattle.std.proofs.Common.{◌≡◌, length, reverse, take}
use Rattle.blif_flat.specs.Code.Sizes.{TellsCalls}
use Rattle.blif_flat.proofs.models.sizes.call_sizes.Given as goal

abbrev pub invariant-loop-number : goal.invariant-loop-number
invariant-loop-number l = record {
  size : length l.table.items ≡ length l.models;
  tells : TellsCalls l.models (reverse (take l.number-index l.order)) l.table.items;
}
