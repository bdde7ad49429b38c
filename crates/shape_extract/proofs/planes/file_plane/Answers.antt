use Rattle.std.proofs.Common.{arith}
use Rattle.shape_extract.specs.Planes.{in_plane}
use Rattle.shape_extract.proofs.InPlanes.{few_in_plane, below_all}
use Rattle.shape_extract.proofs.planes.file_plane.Goals as goal

pub file_numbered-requires-clause-few : goal.file_numbered-requires-clause-few
file_numbered-requires-clause-few c = rw c.as_slice.ensures.value
    (omega (arith, c.requires, few_in_plane (in_plane c.args.plane) _ _ c.in_ok-numbers.ensures))

pub file_numbered-requires-clause-within : goal.file_numbered-requires-clause-within
file_numbered-requires-clause-within c = rw c.as_slice.ensures.value
    (below_all (in_plane c.args.plane) _ _ c.in_ok-numbers.ensures)

pub returns : goal.returns
returns c =
    record { those = c.in_ok-numbers.ensures; index = rw c.as_slice.ensures.value at c.in_ok-index.ensures }
