use Rattle.std.proofs.Common.{arith}
use Rattle.shape_extract.specs.Planes.{in_plane}
use Rattle.shape_extract.proofs.InPlanes.{few_in_plane, below_all}
use Rattle.shape_extract.proofs.planes.file_kinds_in.Goals as goal

pub file-requires-clause-few : goal.file-requires-clause-few
file-requires-clause-few c = rw c.as_slice.ensures.value
    (omega (arith, c.requires, few_in_plane (in_plane c.args.plane) _ _ c.in_ok-numbers.ensures))

pub file-requires-clause-within : goal.file-requires-clause-within
file-requires-clause-within c = rw c.as_slice.ensures.value
    (below_all (in_plane c.args.plane) _ _ c.in_ok-numbers.ensures)

pub returns : goal.returns
returns c =
    record { those = c.in_ok-numbers.ensures; index = rw c.as_slice.ensures.value at c.in_ok-index.ensures }
