use Rattle.std.proofs.Common.{arith, rules, ◌∙◌, length, ap, List, ℕ}
use Rattle.std.proofs.lemmas.List.{length-drop}
use Rattle.gds_records.specs.Faults.{length_of}
use Rattle.gds_read.proofs.Walks.{outlines_skip, outlines_end}
use Rattle.gds_read.proofs.outline.outlines_in.Goals as goal

pub records-preserved : goal.records-preserved
records-preserved c =
    let i = c.records.invariant in
    let g = c.behind-rest.ensures in
    let size = c.length_at-at.ensures in
    record {
      whole = g.spelled_rest;
      fits = omega (
        arith,
        i.fits,
        size.head,
        size.within,
        ap (λ (x : List ℕ). length x) g.behind,
        length-drop
            (length_of c.records.rest.now) c.records.rest.now,
      );
      few = omega (arith, i.few, g.less);
      same = outlines_skip c.records.at c.records.rest.now _ g c.length_at-at.result _ _
          (λ e. c.if-kind-eq-BGNSTR.false (c.kind_at-kind.ensures ∙ e)) size.value i.same;
    }

pub returns-clause-same : goal.returns-clause-same
returns-clause-same c = outlines_end c.records.at c.records.rest.now _ _ (search rules) c.records.invariant.same

pub returns-clause-few : goal.returns-clause-few
returns-clause-few c = omega (arith, c.records.invariant.few)
