use Rattle.std.proofs.Common.{◌≡◌, ◌∙◌, length, vec_len, arith}
use Rattle.shape_extract.proofs.Assembled.{rows_few, assembled, assembled_keeps}
use Rattle.shape_extract.proofs.circuits.assembly.circuit_of.Goals as goal

pub overflow_cast-rows : goal.overflow_cast-rows
overflow_cast-rows c = omega (
  arith,
  c.len-rows.ensures,
  rows_few c.args.flat.now c.args.found.edges.items
      c.requires.found.rows_are,
  c.requires.few,
)

pub invariant_of-result : goal.invariant_of-result
invariant_of-result c =
    let count : vec_len c.args.found.edges ≡ length c.args.found.edges.items = omega arith in
    rw (c.len-rows.ensures ∙ count) (assembled_keeps c.args.flat.now c.args.found.nets c.args.found.edges.items
    c.in_ok-parts.parts.cells c.in_ok-parts.parts.inputs c.in_ok-parts.parts.outputs c.wire_count-wires.result
    c.requires.found.nets_are c.requires.found.rows_are c.in_ok-parts.ensures c.wire_count-wires.ensures
    c.requires.kept c.requires.few)

pub returns : goal.returns
returns c =
    let count : vec_len c.args.found.edges ≡ length c.args.found.edges.items = omega arith in
    rw (c.len-rows.ensures ∙ count) (assembled c.args.flat.now c.args.found.nets c.args.found.edges.items
    c.in_ok-parts.parts.cells c.in_ok-parts.parts.inputs c.in_ok-parts.parts.outputs c.wire_count-wires.result
    c.requires.found.nets_are c.requires.found.rows_are c.in_ok-parts.ensures c.wire_count-wires.ensures)
