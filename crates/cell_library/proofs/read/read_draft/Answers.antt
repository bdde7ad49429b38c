use Rattle.toml.specs.View.{table_view}
use Rattle.cell_library.proofs.Given.{drafted_of, faultless_table}
use Rattle.cell_library.proofs.read.read_draft.Goals as goal

pub returns : goal.returns
returns c =
    let ms = table_view c.args.table.now in
    let keys = c.in_ok-no_unknown_key.ensures in
    let numbers = c.in_ok-numbers.ensures in
    let missing = c.in_ok-no_missing_kind.ensures in
    let kinds = c.in_ok-pins.ensures in (
      faultless_table ms keys.0 numbers.0 missing.0 kinds.0,
      rw c.new.ensures
          (drafted_of ms c.in_ok-numbers.numbers c.in_ok-pins.pins.items numbers.1 missing.0 kinds.0 kinds.1),
    )
