-- What the reader of several models has when it has come to a line.
use Rattle.std.specs.Prelude.{List, [], ◌++◌, Option, Some, None}
use Rattle.blif_read.specs.Lines.{Line}
use Rattle.blif_read.specs.Models.{parts_of, named_inputs, named_outputs, named_definition_at, named_definitions}
use Rattle.blif_read.specs.Models.{calls_in}
use Rattle.blif_read.specs.declared.models.BlifModel.{BlifModel}
use Rattle.std.specs.List.{flat_map}

-- the models of the lines that are left
abbrev pub parts_left : Option (List Line) → List (List Line)
parts_left None = []
parts_left (Some lines) = parts_of lines

-- the model with what one more line says; the lines follow it
abbrev pub with_line : BlifModel → Line → List Line → BlifModel
with_line model line lines = record {
  line = model.line;
  name = model.name;
  inputs = model.inputs ++ named_inputs line;
  outputs = model.outputs ++ named_outputs line;
  defs = model.defs ++ named_definition_at line lines;
  calls = model.calls ++ calls_in line;
}

-- the model with what some more lines say
abbrev pub with_lines : BlifModel → List Line → BlifModel
with_lines model lines = record {
  line = model.line;
  name = model.name;
  inputs = model.inputs ++ flat_map named_inputs lines;
  outputs = model.outputs ++ flat_map named_outputs lines;
  defs = model.defs ++ named_definitions lines;
  calls = model.calls ++ flat_map calls_in lines;
}
