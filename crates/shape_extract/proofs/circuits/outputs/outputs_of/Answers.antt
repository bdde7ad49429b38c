use Rattle.std.proofs.Common.{◌≡◌, ◌≤◌, length, arith, rules}
use Rattle.layout_rules.specs.Pins.{exit_count}
use Rattle.shape_extract.proofs.KeptPins.{exit_number}
use Rattle.shape_extract.proofs.OutputLists.{outputs_none, named_on, outputs_more, outputs_same, outputs_all}
use Rattle.shape_extract.proofs.circuits.outputs.outputs_of.Goals as goal
use Rattle.shape_extract.proofs.circuits.outputs.outputs_of.Goals.{in-Some, in_default}

pub loop-q-init : goal.loop-q-init
loop-q-init c =
    let long : length c.in_ok-outputs.outputs.items ≡ exit_count c.args.tables.now.flat.now.shapes = search rules in
    outputs_none c.args.tables.now.flat.now c.args.tables.now.frames.now c.in_ok-outputs.outputs.items long

pub source_of-requires-clause-output : goal.source_of-requires-clause-output
source_of-requires-clause-output c = named_on c.args.tables.now.flat.now c.requires.tables.five.labels c.loop-q.q
    c.in-Some.number c.in-Some.ensures

pub index_mut-requires : goal.index_mut-requires
index_mut-requires c = omega (
  arith,
  c.loop-q.invariant.long,
  exit_number c.args.tables.now.flat.now c.requires.tables.five.labels
      c.in-Some.number c.loop-q.q c.in-Some.ensures,
)

pub loop-q-preserved : goal.loop-q-preserved
loop-q-preserved c = elim c.match-output_shown.branch [
  | in-Some w ↦ rw w.outputs-is
      (outputs_more _ _ c.requires.tables.five.labels _ _ c.loop-q.invariant w.in-Some.number w.source_of.result
      w.in-Some.ensures w.source_of.ensures)
  | in_default w ↦ rw w.outputs-is
      (outputs_same _ _ c.requires.tables.five.labels _ _ c.loop-q.invariant w.in_default.ensures)
]

pub returns : goal.returns
returns c =
    let all : length c.args.tables.now.flat.now.shapes ≤ c.loop-q.q =
    omega (arith, c.len-q-end.ensures, c.loop-q-test.false) in
    rw c.from_vec.ensures (outputs_all _ _ c.requires.tables.five.labels _ _ c.loop-q.invariant all)
