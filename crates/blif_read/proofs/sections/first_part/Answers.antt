use Rattle.std.proofs.Common.{◌∙◌, ap, sym, [], ◌∷◌}
use Rattle.blif_read.proofs.Modelled.{first_cut, last_cut, place_at, lines_at, no_place}
use Rattle.blif_read.proofs.sections.first_part.Goals as goal

pub returns-in-Some-next_model-clause-cut : goal.returns-in-Some-next_model-clause-cut
returns-in-Some-next_model-clause-cut c =
    first_cut c.args.lines.now c.take_first.new.self c.front.result c.in-Some-next_model.more
    c.in-Some._first c.in-Some-next_model.at
    (place_at c.next_model.result c.in-Some-next_model.at c.in-Some-next_model.more _
    c.next_model.ensures.place c.in-Some-next_model.is)
    (sym c.copy-tail.ensures.same ∙ c.in-Some.ensures.some) c.front.ensures
    (lines_at c.next_model.result c.in-Some-next_model.at c.in-Some-next_model.more c.take_first.new.self
    c.next_model.ensures.rest c.in-Some-next_model.is)

pub returns-in-None-clause-cut : goal.returns-in-None-clause-cut
returns-in-None-clause-cut c = last_cut c.args.lines.now c.take_first.new.self c.in-Some._first
    (no_place c.next_model.result _ c.next_model.ensures.place c.in-None.is)
    (sym c.copy-tail.ensures.same ∙ c.in-Some.ensures.some)
    ∙ ap (λ ls. ls ∷ []) (sym c.copy-in-None.ensures.same)
