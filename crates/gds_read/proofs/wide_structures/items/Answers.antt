use Rattle.std.proofs.Common.{◌≡◌, ◌≢◌, ℕ, ◌<◌, List, drop, length, sym, ap, subst, ◌∙◌, arith, rules}
use Rattle.std.proofs.lemmas.List.{length-drop}
use Rattle.gds_records.specs.Faults.{kind_of, length_of}
use Rattle.gds_records.specs.WideDrawing.{item_of}
use Rattle.gds_read.specs.Code.Decoding.{IsSpelled}
use Rattle.gds_read.specs.Code.Outlining.{names_in}
use Rattle.gds_read.proofs.Parts.{all_none, all_done, spelled_whole, spelled_rest, one_more_record, one_more_part}
use Rattle.gds_read.proofs.Parts.{no_records, first_part, next_part}
use Rattle.gds_read.proofs.wide_structures.items.Goals as goal

pub records-init : goal.records-init
records-init c =
    let e = c.behind_first-part.ensures in
    record {
      within = omega arith;
      passed = no_records;
      left = e.spelled;
      same = first_part (item_of (names_in c.args.structures.now)) c.args.bytes.now c.behind_first-part.result.now _
          c.new-items.ensures e.records;
    }

pub returns-then-is_empty : goal.returns-then-is_empty
returns-then-is_empty c =
    let i = c.records.invariant in
    let z : length c.split_at.result.1.now ≡ 0 = search rules in
    all_none (item_of (names_in c.args.structures.now)) c.records.part.now c.records.size i.left _ _
    (sym (ap (λ (x : List ℕ). length x) c.split_at.ensures.back) ∙ z) i.same

pub returns-then-kind-eq-ENDSTR : goal.returns-then-kind-eq-ENDSTR
returns-then-kind-eq-ENDSTR c =
    let i = c.records.invariant in
    let b = c.split_at.ensures.back in
    let h : 0 < length c.split_at.result.1.now = search rules in
    all_done (item_of (names_in c.args.structures.now)) c.records.part.now c.records.size i.left
    (subst (λ (x : List ℕ). 0 < length x) b h) _ _
    (sym (ap (λ (x : List ℕ). kind_of x) b) ∙ sym c.kind_at-kind.ensures ∙ c.if-kind-eq-ENDSTR.true) i.same

pub item-requires-clause-spelled : goal.item-requires-clause-spelled
item-requires-clause-spelled c =
    let i = c.records.invariant in
    let b = c.split_at.ensures.back in
    let h : 0 < length c.split_at.result.1.now = search rules in
    let k : kind_of (drop c.records.size c.records.part.now) ≢ 7 = λ e. c.if-kind-eq-ENDSTR.false
    (c.kind_at-kind.ensures ∙ ap (λ (x : List ℕ). kind_of x) b ∙ e) in
    subst (λ (x : List ℕ). IsSpelled x) (sym c.split_at-then-kind-eq-ENDEL.ensures.front)
    (spelled_whole (item_of (names_in c.args.structures.now)) c.records.part.now c.records.size i.left
    (subst (λ (x : List ℕ). 0 < length x) b h) c.length_at.result i.passed
    (c.length_at.ensures.head ∙ ap (λ (x : List ℕ). length_of x) b) k)

pub records-preserved-then-kind-eq-ENDEL : goal.records-preserved-then-kind-eq-ENDEL
records-preserved-then-kind-eq-ENDEL c =
    let i = c.records.invariant in
    let b = c.split_at.ensures.back in
    let f = item_of (names_in c.args.structures.now) in
    let h : 0 < length c.split_at.result.1.now = search rules in
    let k : kind_of (drop c.records.size c.records.part.now) ≢ 7 = λ e. c.if-kind-eq-ENDSTR.false
    (c.kind_at-kind.ensures ∙ ap (λ (x : List ℕ). kind_of x) b ∙ e) in
    let w = c.length_at.ensures.head ∙ ap (λ (x : List ℕ). length_of x) b in
    let m = c.split_at-then-kind-eq-ENDEL.ensures.back in
    record {
      within = omega arith;
      passed = no_records;
      left = subst (λ (x : List ℕ). IsSpelled x) (sym m)
          (spelled_rest f c.records.part.now c.records.size i.left (subst (λ (x : List ℕ). 0 < length x) b h)
          c.length_at.result i.passed w k);
      same = next_part f c.split_at-then-kind-eq-ENDEL.result.1.now c.push.new.self _
          (one_more_part f c.records.part.now c.records.size i.left
          (subst (λ (x : List ℕ). 0 < length x) b h) c.length_at.result i.passed w k c.records.items c.push.new.self
          _ c.in_ok-item.field-0 _
          (sym (ap (λ (x : List ℕ). kind_of x) b) ∙ sym c.kind_at-kind.ensures ∙ c.if-kind-eq-ENDEL.true) m
          (rw c.split_at-then-kind-eq-ENDEL.ensures.front at c.in_ok-item.ensures) c.in_ok-push.ensures.ok i.same);
    }

pub records-preserved : goal.records-preserved
records-preserved c =
    let i = c.records.invariant in
    let b = c.split_at.ensures.back in
    let f = item_of (names_in c.args.structures.now) in
    let h : 0 < length c.split_at.result.1.now = search rules in
    let k : kind_of (drop c.records.size c.records.part.now) ≢ 7 = λ e. c.if-kind-eq-ENDSTR.false
    (c.kind_at-kind.ensures ∙ ap (λ (x : List ℕ). kind_of x) b ∙ e) in
    let w = c.length_at.ensures.head ∙ ap (λ (x : List ℕ). length_of x) b in
    let g = subst (λ (x : List ℕ). 0 < length x) b h in
    record {
      within = omega (
        arith,
        i.within,
        c.length_at.ensures.within,
        ap
            (λ (x : List ℕ). length x) b,
        length-drop c.records.size c.records.part.now,
      );
      passed = spelled_whole f c.records.part.now c.records.size i.left g c.length_at.result i.passed w k;
      left = spelled_rest f c.records.part.now c.records.size i.left g c.length_at.result i.passed w k;
      same = one_more_record f c.records.part.now c.records.size i.left g c.length_at.result i.passed w k _ _
          (λ e. c.if-kind-eq-ENDEL.false (c.kind_at-kind.ensures ∙ ap (λ (x : List ℕ). kind_of x) b ∙ e)) i.same;
    }
