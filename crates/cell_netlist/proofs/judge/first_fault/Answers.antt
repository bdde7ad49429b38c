use Rattle.cell_netlist.specs.Code.Tabled.{view_of}
use Rattle.cell_netlist.proofs.Judged.{there_of, fault_of_def}
use Rattle.cell_netlist.proofs.judge.first_fault.Goals as goal

pub returns-in-Some-clause-fault : goal.returns-in-Some-clause-fault
returns-in-Some-clause-fault c =
    fault_of_def (view_of c.args.tabled.now) c.loop-j.j c.index-defs-j.result c.in-Some.kind _ _
    (there_of c.args.tabled.now.net.now c.args.defs.now c.loop-j.j c.index-defs-j.result c.requires.defs
    c.loop-j-test.true c.index-defs-j.is)
    c.loop-j.invariant c.known-in-loop-j.ensures c.in-Some.ensures.fault
