use Rattle.std.proofs.Common.{arith, rules, sym, ◌∙◌, length, ap, List, ℕ}
use Rattle.std.proofs.lemmas.List.{length-drop}
use Rattle.gds_records.specs.Faults.{length_of}
use Rattle.gds_read.proofs.Walks.{uses_step, uses_end, uses_end_at}
use Rattle.gds_read.proofs.outline.uses_in.Goals as goal

pub records-preserved : goal.records-preserved
records-preserved c =
    let i = c.records.invariant in
    let g = c.behind-rest.ensures in
    record {
      whole = g.spelled_rest;
      fits = omega (
        arith,
        i.fits,
        c.length_at-at.ensures.head,
        c.length_at-at.ensures.within,
        ap
            (λ (x : List ℕ). length x) g.behind,
        length-drop (length_of c.records.rest.now) c.records.rest.now,
      );
      same = uses_step c.records.at c.records.rest.now _ g c.length_at-at.result _ _ _
          (λ e. c.if-kind_at-eq-ENDSTR.false (c.kind_at.ensures ∙ e)) c.length_at-at.ensures.value i.same
          c.in_ok-add_use.ensures;
    }

pub returns-then-kind_at-eq-ENDSTR : goal.returns-then-kind_at-eq-ENDSTR
returns-then-kind_at-eq-ENDSTR c =
    let i = c.records.invariant in
    uses_end_at c.records.at c.records.rest.now _ _ i.whole (search rules)
    (sym c.kind_at.ensures ∙ c.if-kind_at-eq-ENDSTR.true) i.same

pub returns : goal.returns
returns c = uses_end c.records.at c.records.rest.now _ _ (search rules) c.records.invariant.same
