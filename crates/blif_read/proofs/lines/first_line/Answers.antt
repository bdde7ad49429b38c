use Rattle.std.proofs.Common.{◌≡◌, ◌∙◌, ◌+◌, ◌≤◌, ◌<◌, sym, ap, arith, subst, length, Option, None, Some, ℕ, List, []}
use Rattle.std.proofs.Common.{Bor, IfSome}
use Rattle.std.specs.Option.{option_map}
use Rattle.blif_read.specs.Code.Reading.{left}
use Rattle.blif_read.proofs.Joining.{left_from, left_at_end}
use Rattle.blif_read.proofs.Passing.{passed_some, passed_none, line_told}
use Rattle.blif_read.proofs.lines.first_line.Invariants.{size}
use Rattle.blif_read.proofs.lines.first_line.Goals as goal

fewer : (first next whole : ℕ) (rest more : Option (Bor (List ℕ))) (text : Bor (List ℕ)) → rest ≡ Some text
    → first + size rest ≤ whole → next ≤ first + length text.now + 1
    → IfSome more (λ r. next + length r.now ≤ first + length text.now) → next + size more ≤ whole
fewer first next whole rest None text r h n s = let h2 : first + size (Some text) ≤ whole =
    subst (λ o. first + size o ≤ whole) r h in omega arith
fewer first next whole rest (Some more) text r h n s = let h2 : first + size (Some text) ≤ whole =
    subst (λ o. first + size o ≤ whole) r h in let t = s in omega arith

smaller : (first next : ℕ) (rest more : Option (Bor (List ℕ))) (text : Bor (List ℕ)) → rest ≡ Some text → first < next
    → IfSome more (λ r. next + length r.now ≤ first + length text.now) → size more < size rest
smaller first next rest None text r n s = let h : size rest ≡ size (Some text) = ap size r in omega arith
smaller first next rest (Some more) text r n s = let h : size rest ≡ size (Some text) =
    ap size r in let t = s in omega arith

pub loop-rest-init : goal.loop-rest-init
loop-rest-init c = record { fits = omega arith; lines = left_from c.args.number c.args.text.now }

pub loop-rest-preserved : goal.loop-rest-preserved
loop-rest-preserved c = record {
  fits = fewer _ _ _ _ _ _ c.in-Some.is c.loop-rest.invariant.fits c.pass_line.ensures.few c.pass_line.ensures.size;
  lines = passed_none c.loop-rest.first c.in-Some.text.now _ _ _ _ c.pass_line.ensures.passed c.if-passed.false
      (ap (λ o. left c.loop-rest.first [] c.loop-rest.first (option_map (λ t. t.now) o)) (sym c.in-Some.is)
      ∙ c.loop-rest.invariant.lines);
}

pub loop-rest-smaller : goal.loop-rest-smaller
loop-rest-smaller c = smaller _ _ _ _ _ c.in-Some.is c.pass_line.ensures.later c.pass_line.ensures.size

pub returns-then-passed-clause-line : goal.returns-then-passed-clause-line
returns-then-passed-clause-line c = line_told _ _ c.loop-rest.first c.whole_line.result.first c.whole_line.result.next
    c.pass_line.result.1.next c.in-Some.text.now c.whole_line.result.text.now c.whole_line.result.rest.now
    (passed_some c.loop-rest.first c.in-Some.text.now c.pass_line.result.1.any c.pass_line.result.1.next
    (option_map (λ t. t.now) c.pass_line.result.1.more) _ c.pass_line.ensures.passed c.if-passed.true
    (ap (λ o. left c.loop-rest.first [] c.loop-rest.first (option_map (λ t. t.now) o)) (sym c.in-Some.is)
    ∙ c.loop-rest.invariant.lines))
    c.whole_line.ensures.first c.whole_line.ensures.text c.whole_line.ensures.next c.whole_line.ensures.rest

pub returns-clause-none : goal.returns-clause-none
returns-clause-none c = sym c.loop-rest.invariant.lines
    ∙ ap (λ o. left c.loop-rest.first [] c.loop-rest.first (option_map (λ t. t.now) o)) c.in_default.is
    ∙ left_at_end c.loop-rest.first c.loop-rest.first []
