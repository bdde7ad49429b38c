use Rattle.std.proofs.Common.{◌≡◌, ◌+◌, ◌++◌, drop, length}
use Rattle.std.specs.List.{flat_map}
use Rattle.blif_flat.specs.Code.Blocks.{wide, call_names, calls_pieces, pieces, names_of}
use Rattle.blif_flat.proofs.expansion.assembly.block_of.Given as goal

abbrev pub invariant-loop-call : goal.invariant-loop-call
invariant-loop-call l = record {
  whole : l.block ++ calls_pieces (wide l.places.models) l.places.models l.places.model l.start
      (drop l.call-index l.places.model.calls)
      ≡ pieces (wide l.places.models) l.places.models l.places.model;
  room : l.start + length (flat_map (call_names (wide l.places.models) l.places.models)
      (drop l.call-index l.places.model.calls))
      ≡ length (names_of l.places);
}
