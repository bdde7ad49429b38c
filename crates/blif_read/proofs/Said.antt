-- A text that says a netlist says one that keeps the facts of netlists.
use Rattle.std.proofs.Common.{◌≡◌, ℕ, ◌≤◌, ◌^◌, List, [], length, Option, Some, None, false, refl, sym, ◌∙◌, subst}
use Rattle.std.specs.Option.{option_map}
use Rattle.blif_read.specs.Lines.{Line, logical_lines}
use Rattle.blif_read.specs.Parts.{NetView, signals, netlist_of}
use Rattle.blif_read.specs.Faults.{line_fault, outputs_fault, undefined_fault, cycle_fault, fault_of, told_cycle}
use Rattle.blif_read.specs.Code.Found.{Found}
use Rattle.blif_read.specs.Says.{SaysNet}
use Rattle.blif_read.specs.Code.Size.{AreCut}
use Rattle.blif_read.specs.Walk.{first_cycle}
use Rattle.blif_read.specs.Netlist.{IsNetlist}
use Rattle.blif_read.proofs.Depths.{no_cycle}
use Rattle.blif_read.proofs.Distinct.{none_or}
use Rattle.blif_read.proofs.Facts.{signals_count, netlist_facts}
use Rattle.blif_read.proofs.Whole.{operands_within, text_cut}

unmapped : {X Y : Type 0} (f : X → Y) (o : Option X) → option_map f o ≡ None → o ≡ None
unmapped f None e = refl
unmapped f (Some x) e = absurd (cc)

lines_keep : (lines : List Line) → AreCut (2 ^ 28) lines → fault_of lines ≡ None → IsNetlist (netlist_of lines)
lines_keep lines cut none =
    let net = netlist_of lines in
    let single = none_or (line_fault false [] lines) _ none in
    let some = none_or (outputs_fault lines) _ single.1 in
    let defined = none_or (undefined_fault (signals lines) lines) (cycle_fault net) some.1 in
    let found : Found lines net.inputs net.names net.defs net.outputs = record {
      single = single.0;
      some = some.0;
      defined = defined.0;
      left = none ∙ sym defined.1;
      inputs_are = refl;
      names_are = refl;
      defs_are = refl;
      outputs_are = refl;
      count = signals_count false lines single.0;
    } in
    let within = operands_within lines net.inputs net.names net.defs net.outputs found net.defs refl in
    let walked = unmapped (told_cycle net.inputs net.names net.defs) (first_cycle net.inputs net.defs) defined.1 in
    netlist_facts lines single.0 some.0 defined.0 cut (no_cycle net.inputs net.defs within walked)

pub said_keeps : (text : List ℕ) (net : NetView) → length text ≤ 2 ^ 28 → SaysNet text net → IsNetlist net
said_keeps text net few says =
    let lines = logical_lines text in
    subst IsNetlist (sym says.parts) (lines_keep lines (text_cut text lines refl few) says.sound)
