use Rattle.std.proofs.Common.{◌≡◌, ◌∙◌, ℕ, ◌-◌, sym, ap, List}
use Rattle.std.specs.Prelude.{count_by}
use Rattle.layout_rules.proofs.RowLaws.{row_count-certified}
use Rattle.shape_extract.specs.declared.tables.ports.Port.{Port}
use Rattle.shape_extract.specs.Code.Ports.{enters, leaves, ports_of}
use Rattle.shape_extract.proofs.PortPins.{entries_counted, exits_counted}
use Rattle.shape_extract.proofs.circuits.assembly.parts_of.Goals as goal

pub ports-requires-clause-kept : goal.ports-requires-clause-kept
ports-requires-clause-kept c = rw c.as_slice-shapes.ensures c.requires.kept.cells

pub ports-requires-clause-last : goal.ports-requires-clause-last
ports-requires-clause-last c = rw c.as_slice-shapes.ensures (c.saturating_sub.ensures
    ∙ ap (λ (n : ℕ). n - 1) (sym (row_count-certified c.args.flat.now.shapes c.as_slice-edges.result.now
    (rw c.as_slice-edges.ensures.value c.requires.found.rows_are))))

pub outputs_of-requires-clause-count : goal.outputs_of-requires-clause-count
outputs_of-requires-clause-count c =
    let ports : c.in_ok-ports.ports.items ≡ ports_of c.args.flat.now.shapes =
    rw c.as_slice-shapes.ensures at c.in_ok-ports.ensures in
    c.count_exits.ensures ∙ (ap (λ (l : List Port). count_by leaves l) (c.as_slice-5.ensures.value ∙ ports)
    ∙ exits_counted c.args.flat.now.shapes)

pub returns : goal.returns
returns c =
    let ports : c.in_ok-ports.ports.items ≡ ports_of c.args.flat.now.shapes =
    rw c.as_slice-shapes.ensures at c.in_ok-ports.ensures in
    record {
      frames = c.in_ok-frames.frames.items;
      are_frames = rw c.as_slice-shapes.ensures at c.in_ok-frames.ensures.are;
      fewer = rw c.as_slice-shapes.ensures at c.in_ok-frames.ensures.few;
      cells_are = rw c.as_slice-2.ensures.value at c.in_ok-cells.ensures;
      inputs_are = c.count_entries.ensures
          ∙ (ap (λ (l : List Port). count_by enters l) (c.as_slice-6.ensures.value ∙ ports)
          ∙ entries_counted c.args.flat.now.shapes);
      outputs_are = rw c.as_slice-2.ensures.value at c.in_ok-outputs.ensures;
    }
