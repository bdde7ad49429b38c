-- Chips beside the first one, each with one fault.
use Rattle.std.specs.Prelude.{pos, ◌++◌, take, drop, slice_set}
use Rattle.geom.specs.declared.shapes.Flat.{Flat}
use Rattle.geom.specs.FirstChip.{first_flat, drawn}

-- the first via is moved to the right by a nanometre
unfoldable pub with_moved_via : Flat
with_moved_via = record {
  shapes = slice_set first_flat.shapes 8 (drawn 11 0 (pos 4701) (pos 11700) (pos 5301) (pos 12300));
  labels = first_flat.labels;
}

-- the two starts are left out
unfoldable pub without_starts : Flat
without_starts = record {
  shapes = take 3 first_flat.shapes ++ (take 9 (drop 4 first_flat.shapes) ++ drop 14 first_flat.shapes);
  labels = first_flat.labels;
}
