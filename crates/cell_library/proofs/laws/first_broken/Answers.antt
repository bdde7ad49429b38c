use Rattle.std.proofs.Common.{arith, ◌≡◌, ◌+◌, get_or, sym, below_more, ◌∙◌}
use Rattle.std.proofs.lemmas.Bool.{false≢true}
use Rattle.cell_library.specs.declared.laws.Law.TheVariants.{EvenSizes}
use Rattle.cell_library.specs.Laws.{Holds}
use Rattle.cell_library.proofs.KindLists.{all_laws, each_law, law_number_at, law_numbers}
use Rattle.cell_library.proofs.laws.first_broken.Goals as goal

pub returns-then-not-holds-clause-broken : goal.returns-then-not-holds-clause-broken
returns-then-not-holds-clause-broken c =
    let i = c.loop-law.law-index in
    let number : c.number.result ≡ i + 1 = omega (arith, c.number.ensures, law_number_at i (omega arith)) in
    record {
      law = get_or all_laws i EvenSizes;
      number_is = sym c.number.ensures;
      broken = λ holds. false≢true (sym c.if-not-holds.true ∙ c.holds.ensures.1 holds);
      before = λ other lower. each_law (λ law. Holds law c.args.draft.now) i c.loop-law.invariant other (omega arith);
    }

pub loop-law-preserved : goal.loop-law-preserved
loop-law-preserved c = below_more _ _ c.loop-law.invariant (c.holds.ensures.0 c.if-not-holds.false)

pub returns-clause-lawful : goal.returns-clause-lawful
returns-clause-lawful c = λ _ law. let numbers = law_numbers law in each_law
    (λ law. Holds law c.args.draft.now) c.loop-law.law-index c.loop-law.invariant law (omega arith)
