use Rattle.std.proofs.Common.{List, Bool, map, false, sym, ap, ◌∙◌, arith}
use Rattle.std.specs.Prelude.{slice_index_or}
use Rattle.gds_read.specs.Code.Graphs.{some_target}
use Rattle.gds_read.proofs.Graphs.{first_marks, more_marks, same_marks, all_marks}
use Rattle.gds_read.proofs.chains.long_chains.Goals as goal

pub lengths-init : goal.lengths-init
lengths-init c = record {
  marked = first_marks c.in_ok-marks.marks.items c.args.graph.now c.in_ok-marks.ensures;
  within = omega arith;
}

pub returns-then-eq : goal.returns-then-eq
returns-then-eq c =
    same_marks c.lengths.marks.items c.in_ok-longer.longer.items c.lengths.length c.args.graph.now
    c.lengths.invariant.within c.lengths.invariant.marked
    (c.in_ok-longer.ensures
    ∙ ap (λ (marks : List Bool). map (λ ns. some_target (λ n. slice_index_or marks n false) ns) c.args.graph.now)
    c.as_slice.ensures.value)
    (sym c.eq.ensures ∙ c.if-eq.true)

pub lengths-preserved : goal.lengths-preserved
lengths-preserved c = record {
  marked = more_marks c.lengths.marks.items c.in_ok-longer.longer.items c.lengths.length c.args.graph.now
      c.lengths.invariant.marked
      (c.in_ok-longer.ensures
      ∙ ap (λ (marks : List Bool). map (λ ns. some_target (λ n. slice_index_or marks n false) ns) c.args.graph.now)
      c.as_slice.ensures.value);
  within = omega (arith, c.lengths-test.true);
}

pub returns : goal.returns
returns c = all_marks c.lengths.marks.items c.lengths.length c.args.graph.now
    (omega (arith, c.lengths.invariant.within, c.lengths-test.false)) c.lengths.invariant.marked
