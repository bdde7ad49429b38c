use Rattle.std.proofs.Common.{arith, rules, sym, ◌∙◌, length, ap, List, ℕ}
use Rattle.std.proofs.lemmas.List.{length-drop}
use Rattle.gds_records.specs.Faults.{length_of}
use Rattle.gds_read.proofs.Walks.{end_here, end_on, end_none}
use Rattle.gds_read.proofs.cursor.end_at.Goals as goal

pub records-preserved : goal.records-preserved
records-preserved c =
    let i = c.records.invariant in
    let g = c.behind-rest.ensures in
    let size = c.length_at-at.ensures in
    record {
      whole = g.spelled_rest;
      fits = omega (
        arith,
        i.fits,
        size.head,
        size.within,
        ap (λ (x : List ℕ). length x) g.behind,
        length-drop
            (length_of c.records.rest.now) c.records.rest.now,
      );
      same = end_on c.records.at c.records.rest.now _ c.length_at-at.result _ g
          (λ e. c.if-kind_at-eq-ENDLIB.false (c.kind_at.ensures ∙ e)) size.value i.same;
    }

pub returns-then-kind_at-eq-ENDLIB : goal.returns-then-kind_at-eq-ENDLIB
returns-then-kind_at-eq-ENDLIB c =
    let i = c.records.invariant in
    end_here c.records.at c.records.rest.now _ i.whole (search rules)
    (sym c.kind_at.ensures ∙ c.if-kind_at-eq-ENDLIB.true) i.same

pub returns : goal.returns
returns c = end_none c.records.at c.records.rest.now _ (search rules) c.records.invariant.same
