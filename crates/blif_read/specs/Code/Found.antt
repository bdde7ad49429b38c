-- What is known of the parts of a netlist before the walk: they are those of the lines, and no fault is left but a
-- cycle.
use Rattle.std.specs.Prelude.{◌≡◌, ℕ, ◌+◌, List, [], map, length, None, false}
use Rattle.std.specs.List.{flat_map}
use Rattle.blif_read.specs.Lines.{Line}
use Rattle.blif_read.specs.Statements.{inputs_in, outputs_in}
use Rattle.blif_read.specs.Parts.{signals, number, definitions, netlist_of}
use Rattle.blif_read.specs.Faults.{line_fault, outputs_fault, undefined_fault, cycle_fault, fault_of}
use Rattle.blif_read.specs.declared.netlist.Def.{Def}

-- inputs, names, definitions and outputs are what these lines say, which have no fault but perhaps a cycle
pub record Found (lines : List Line) (inputs : ℕ) (names : List (List ℕ)) (defs : List Def) (outputs : List ℕ)
    : Type 0 where
  pub single : line_fault false [] lines ≡ None
  pub some : outputs_fault lines ≡ None
  pub defined : undefined_fault (signals lines) lines ≡ None
  pub left : fault_of lines ≡ cycle_fault (netlist_of lines)
  pub inputs_are : inputs ≡ length (flat_map inputs_in lines)
  pub names_are : names ≡ signals lines
  pub defs_are : defs ≡ definitions (signals lines) lines
  pub outputs_are : outputs ≡ map (number (signals lines)) (flat_map outputs_in lines)
  pub count : length names ≡ inputs + length defs
