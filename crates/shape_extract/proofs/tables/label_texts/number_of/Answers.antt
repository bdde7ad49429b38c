use Rattle.std.proofs.Common.{◌≡◌, true}
use Rattle.layout_rules.specs.Labels.{is_decimal}
use Rattle.shape_extract.proofs.LabelTexts.{number_said}
use Rattle.shape_extract.proofs.tables.label_texts.number_of.Goals as goal

pub returns : goal.returns
returns c =
    let decimal_so : is_decimal c.tail.result.now ≡ true = rw c.tail.ensures c.requires in
    rw (← c.tail.ensures) (number_said c.tail.result.now c.read_decimal.result decimal_so
    c.read_decimal.ensures.unreadable c.read_decimal.ensures.read)
