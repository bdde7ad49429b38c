use Rattle.std.proofs.Common.{◌∙◌, ap, List}
use Rattle.std.specs.Prelude.{count_by}
use Rattle.shape_extract.specs.declared.tables.ports.Port.{Port}
use Rattle.shape_extract.specs.Code.Ports.{enters, leaves}
use Rattle.shape_extract.proofs.PortPins.{entries_counted, exits_counted}
use Rattle.shape_extract.proofs.rules.label_numbers.find_misnumbered.Goals as goal

pub first_misnumbered-found-requires-clause-entries : goal.first_misnumbered-found-requires-clause-entries
first_misnumbered-found-requires-clause-entries c = c.count_entries-entries.ensures
    ∙ (ap (λ (l : List Port). count_by enters l) c.requires.ports ∙ entries_counted c.args.flat.now.shapes)

pub first_misnumbered-found-requires-clause-exits : goal.first_misnumbered-found-requires-clause-exits
first_misnumbered-found-requires-clause-exits c = c.count_exits-exits.ensures
    ∙ (ap (λ (l : List Port). count_by leaves l) c.requires.ports ∙ exits_counted c.args.flat.now.shapes)
