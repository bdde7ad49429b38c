use Rattle.std.proofs.Common.{◌≡◌, ◌-◌, arith, ap, sym, ◌∙◌}
use Rattle.shown_names.specs.Names.{whole_length as longest_whole}
use Rattle.shown_names.proofs.Beginnings.{whole_less, whole_stop, whole_none}
use Rattle.shown_names.proofs.name.whole_length.Goals as goal

pub loop-shown-preserved : goal.loop-shown-preserved
loop-shown-preserved c =
    let shown = c.loop-shown.shown in (
      whole_less c.args.name.now shown (shown - 1) (omega (arith, c.loop-shown-test.true))
          (sym c.goes_on.ensures ∙ c.if-goes_on.true) ∙ c.loop-shown.invariant.0,
      omega (arith, c.loop-shown.invariant.1),
    )

pub returns-else-goes_on-clause-value : goal.returns-else-goes_on-clause-value
returns-else-goes_on-clause-value c =
    sym (whole_stop c.args.name.now c.loop-shown.shown (sym c.goes_on.ensures ∙ c.if-goes_on.false))
    ∙ c.loop-shown.invariant.0

pub returns-after-loop-shown-clause-value : goal.returns-after-loop-shown-clause-value
returns-after-loop-shown-clause-value c =
    let none : c.loop-shown.shown ≡ 0 = omega (arith, c.loop-shown-test.false) in
    none ∙ (sym (whole_none c.args.name.now)
    ∙ (ap (longest_whole c.args.name.now) (sym none) ∙ c.loop-shown.invariant.0))
