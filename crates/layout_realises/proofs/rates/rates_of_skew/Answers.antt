use Rattle.layout_realises.proofs.rates.rates_of_skew.Goals as goal

pub returns-clause-extracted : goal.returns-clause-extracted
returns-clause-extracted c flat circuit skew words answers few small five circuit_is is all =
    c.every_rate.ensures.shows circuit is.near is.far skew words answers
    (c.extracted_keeps.ensures flat circuit few small five circuit_is)
    (c.cells_have_places.ensures.spans flat is.near is.far is.places) is.is_skew.at_most all

pub returns-clause-by_clocks : goal.returns-clause-by_clocks
returns-clause-by_clocks c flat circuit delay skew words answers is shows =
    c.every_rate.ensures.by_clocks circuit is.near is.far skew delay words answers
    (c.cells_have_places.ensures.spans flat is.near is.far is.places) is.is_skew.at_most shows

pub returns-clause-clear : goal.returns-clause-clear
returns-clause-clear c flat circuit skew slow quarter is lt =
    c.every_rate.ensures.uniform circuit is.near is.far slow skew quarter
    (c.cells_have_places.ensures.spans flat is.near is.far is.places) is.is_skew.at_most lt

pub returns-clause-exact : goal.returns-clause-exact
returns-clause-exact c flat circuit skew slow quarter is some well =
    c.rate_is_exact.ensures.exact circuit is.near is.far slow skew quarter
    (c.cells_have_places.ensures.spans flat is.near is.far is.places) is.is_skew some well
