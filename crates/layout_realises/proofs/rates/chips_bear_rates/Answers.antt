use Rattle.geom.specs.FlatForm.{flat_of}
use Rattle.layout_realises.proofs.rates.chips_bear_rates.Goals as goal

pub returns : goal.returns
returns g c net bytes limits inputs outputs circuit delay skew chip is words wide =
    let all = chip.answers_all words wide in
    record {
      replies = all.replies;
      are_answers = all.are_answers;
      shows = c.rates_of_skew.ensures.by_clocks (flat_of chip.layout) circuit delay skew words all.replies is
          all.by_clocks;
    }
