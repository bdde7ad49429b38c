use Rattle.std.proofs.Common.{◌≡◌, arith}
use Rattle.layout_rules.specs.declared.rule.Rule.TheVariants.{E2}
use Rattle.pulse_sim.specs.Travelling.{skew_of}
use Rattle.layout_realises.proofs.SkewLaws.{none_wide, least_of}
use Rattle.layout_realises.proofs.rates.one_skew.Goals as goal

pub returns-clause-some : goal.returns-clause-some
returns-clause-some c flat circuit is =
    let laws = c.cells_have_places.ensures in
    let p = laws.some flat circuit is in (
      skew_of circuit p.0 p.1,
      record {
        near = p.0;
        far = p.1;
        places = p.2;
        is_skew = c.skew_is_computed.ensures.is circuit p.0 p.1
            (λ cell le. none_wide (p.0 cell) (p.1 cell) (laws.no_more flat circuit p.0 p.1 is p.2 cell le));
      },
    )

pub returns-clause-once : goal.returns-clause-once
returns-clause-once c flat limits circuit skew other keeps first second =
    let same = c.cells_have_places.ensures.once flat limits in
    let e : skew ≡ other = omega (
      arith,
      least_of circuit first.near first.far second.near second.far skew other first.is_skew second.is_skew.at_most
          (same first.near first.far second.near second.far (keeps E2) first.places second.places),
      least_of circuit second.near second.far first.near first.far other skew second.is_skew first.is_skew.at_most
          (same second.near second.far first.near first.far (keeps E2) second.places first.places),
    ) in e
