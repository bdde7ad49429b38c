use Rattle.aqfp_top.specs.Words.{word_at}
use Rattle.aqfp_top.proofs.ToldRuns.{given_held, given_keeps, chip_stands}
use Rattle.aqfp_top.proofs.told.told_runs_are_heard.Goals as goal

pub returns-clause-texts : goal.returns-clause-texts
returns-clause-texts c = given_held

pub returns-clause-kept : goal.returns-clause-kept
returns-clause-kept c = given_keeps

pub returns-clause-stored : goal.returns-clause-stored
returns-clause-stored c history words bytes = c.told_is_heard.ensures.stores history (word_at words 3) bytes

pub returns-clause-chip : goal.returns-clause-chip
returns-clause-chip c = chip_stands c.told_is_heard.ensures.stores
