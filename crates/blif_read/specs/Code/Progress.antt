-- What the reader keeps of the lines that it has passed, line by line.
use Rattle.std.specs.Prelude.{◌||◌}
use Rattle.blif_read.specs.Lines.{Line}
use Rattle.blif_read.specs.Statements.{word, is_model, is_end}
use Rattle.blif_read.specs.Faults.{cover_after}
use Rattle.blif_read.specs.declared.before.Before.{Before}

-- what is kept behind one more line: whether `.model` and `.end` stood there, and the cover of a row
abbrev pub after : Before → Line → Before
after before line = record {
  model = is_model (word line) || before.model;
  end = is_end (word line) || before.end;
  cover = cover_after before.cover line;
}
