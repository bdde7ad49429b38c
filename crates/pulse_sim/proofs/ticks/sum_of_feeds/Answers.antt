use Rattle.std.proofs.Common.{◌≡◌, ◌∙◌, ap, arith}
use Rattle.std.proofs.lemmas.Int.{ints}
use Rattle.std.specs.Option.{option_copied}
use Rattle.pulse_sim.specs.Fluxes.{amount}
use Rattle.pulse_sim.specs.Settled.{feed_flux}
use Rattle.pulse_sim.proofs.ticks.sum_of_feeds.Goals as goal

pub returns-clause-value : goal.returns-clause-value
returns-clause-value c =
    let first : c.amount_of.result ≡ amount
    (feed_flux (option_copied c.args.word) c.args.fluxes.now c.args.cell.now.feed0) = c.amount_of.ensures.value
    ∙ ap amount c.flux_of_feed.ensures in
    let second : c.amount_of-2.result ≡ amount
    (feed_flux (option_copied c.args.word) c.args.fluxes.now c.args.cell.now.feed1) = c.amount_of-2.ensures.value
    ∙ ap amount c.flux_of_feed-2.ensures in
    let third : c.amount_of-3.result ≡ amount
    (feed_flux (option_copied c.args.word) c.args.fluxes.now c.args.cell.now.feed2) = c.amount_of-3.ensures.value
    ∙ ap amount c.flux_of_feed-3.ensures in
    omega (arith, ints)
