use Rattle.mig_from_netlist.proofs.Decomposing.{known_kept, known_later}
use Rattle.mig_from_netlist.proofs.decompose.join_votes.Goals as goal

pub returns-in_default-2-clause-known : goal.returns-in_default-2-clause-known
returns-in_default-2-clause-known c = known_later c.args.builder.now c.vote.new.builder c.args.inputs.now
    c.args.memo.now.items c.in_ok-literal.ensures.grown c.requires.known

pub returns-clause-known : goal.returns-clause-known
returns-clause-known c = known_kept c.keep.result _ _ _ _ c.args.inputs.now c.args.table _ c.keep.ensures.memo
    c.in_ok-literal.ensures.grown c.requires.known
    (rw c.in-Some-2.is at c.in_ok-literal.ensures.given)
