use Rattle.std.proofs.Common.{arith}
use Rattle.mig.proofs.Built.{gives_later}
use Rattle.mig_from_netlist.specs.Code.Known.{value_at}
use Rattle.mig_from_netlist.proofs.Decomposing.{there_later, known_kept}
use Rattle.mig_from_netlist.proofs.decompose.+decompose.Goals as goal

pub returns-then-parts-clause-known : goal.returns-then-parts-clause-known
returns-then-parts-clause-known t c =
    known_kept c.keep.result _ _ _ _ c.args.inputs.now c.args.table _ c.keep.ensures.memo c.in_ok-literal.ensures.grown
    c.in_ok-low.ensures.known c.in_ok-literal.ensures.given

pub decompose-requires-3 : goal.decompose-requires-3
decompose-requires-3 t c = (
  omega arith,
  (
    c.requires.few,
    (
      there_later c.args.builder.now _ c.args.inputs.now c.in_ok-high.ensures.grown c.requires.there,
      c.in_ok-high.ensures.known,
    ),
  ),
)

pub join_parts-requires-clause-high : goal.join_parts-requires-clause-high
join_parts-requires-clause-high t c = gives_later c.decompose-2.new.builder c.decompose-3.new.builder c.in-Some-4.high
    (value_at c.in-Some-parts_of.parts.high c.args.inputs.now) c.in_ok-low-2.ensures.grown
    (rw c.in-Some-4.is at c.in_ok-high.ensures.given)

pub returns-clause-known : goal.returns-clause-known
returns-clause-known t c =
    known_kept c.keep-2.result _ _ _ _ c.args.inputs.now c.args.table _ c.keep-2.ensures.memo
    c.in_ok-literal-2.ensures.grown c.in_ok-low-2.ensures.known c.in_ok-literal-2.ensures.given
