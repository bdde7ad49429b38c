use Rattle.toml.specs.View.{table_view}
use Rattle.cell_library.proofs.Answered.{answered, faulty_answer}
use Rattle.cell_library.proofs.read.read_library.Goals as goal

pub returns-in-Ok-clause-faulty : goal.returns-in-Ok-clause-faulty
returns-in-Ok-clause-faulty c = λ fault h.
    let answer = answered c.args.text.now (table_view c.in-Ok.table) c.judged.result
    (record { utf8 = c.in-Ok.ensures.ok.0; parsed = c.in-Ok.ensures.ok.1 }) c.judged.ensures in
    faulty_answer c.args.text.now c.judged.result fault answer h
