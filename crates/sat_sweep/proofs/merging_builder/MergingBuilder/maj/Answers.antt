use Rattle.mig.specs.Graphs.{node_value}
use Rattle.sat_sweep.proofs.Merging.{given_then}
use Rattle.sat_sweep.proofs.merging_builder.MergingBuilder.maj.Goals as goal

pub returns-clause-given : goal.returns-clause-given
returns-clause-given c =
    given_then c.maj.new.self c.merge_new.new.merged c.in_ok-literal.literal c.resolved.result
    (λ v. node_value v (record { x = c.args.x; y = c.args.y; z = c.args.z })) c.merge_new.ensures
    c.in_ok-literal.ensures.given c.resolved.ensures
