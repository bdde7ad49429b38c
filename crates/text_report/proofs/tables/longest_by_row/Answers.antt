use Rattle.std.proofs.Common.{◌≡◌, ℕ, ◌<◌, ◌∙◌, List, length, sym, ap, subst, arith}
use Rattle.std.specs.Prelude.{slice_index, zip}
use Rattle.geom.specs.declared.shapes.Shape.{Shape}
use Rattle.circuit_extracted.specs.Circuits.{CircuitView}
use Rattle.text_report.specs.Wires.{wires_from, longest_of}
use Rattle.text_report.specs.Code.Sources.{row_left}
use Rattle.text_report.specs.Code.Tables.{AreGreatest, HasEntries}
use Rattle.text_report.proofs.Keyed.{written}
use Rattle.text_report.proofs.SourceRows.{nets_within}
use Rattle.text_report.proofs.Wired.{longest_entries}
use Rattle.text_report.proofs.tables.longest_by_row.Goals as goal

pub measure_leaving-requires-clause-nets : goal.measure_leaving-requires-clause-nets
measure_leaving-requires-clause-nets c =
    let same : c.as_slice-nets.result.now ≡ c.args.circuit.now.nets =
    c.as_slice-nets.ensures ∙ ap (λ (v : CircuitView). v.nets) c.circuit.view_is in
    subst (λ (ns : List ℕ). (i : ℕ) → i < length ns → slice_index ns i < length c.args.sources.now) (sym same)
    (nets_within c.args.flat.now.shapes c.args.circuit.now.nets (length c.args.sources.now)
    c.requires.order.are_nets c.requires.sources.long)

pub returns : goal.returns
returns c =
    let same : c.as_slice-nets.result.now ≡ c.args.circuit.now.nets =
    c.as_slice-nets.ensures ∙ ap (λ (v : CircuitView). v.nets) c.circuit.view_is in
    let most : List ℕ = c.measure_leaving.new.longest in
    let number : Shape × ℕ → ℕ = λ wire. slice_index c.args.lengths.now wire.1 in
    let are : AreGreatest (row_left c.args.sources.now) number (zip c.args.flat.now.shapes c.args.circuit.now.nets)
    most =
    subst (λ (ns : List ℕ). AreGreatest (row_left c.args.sources.now) number (zip c.args.flat.now.shapes ns) most) same
    (subst (λ (ss : List Shape). AreGreatest (row_left c.args.sources.now) number
    (zip ss c.as_slice-nets.result.now) most) c.as_slice.ensures c.measure_leaving.ensures) in
    let rows : c.circuit.inside.rows ≡ c.args.circuit.now.rows = ap (λ (v : CircuitView). v.rows) c.circuit.view_is in
    let long : length most ≡ c.args.circuit.now.rows =
    omega (arith, rows, c.measure_leaving.auto.longest, c.deref_mut.ensures.len, c.in_ok-longest.ensures.len) in
    let held : length most ≡ c.in_ok-longest.longest.len =
    omega (arith, long, rows, c.in_ok-longest.ensures.len) in
    subst (HasEntries c.args.circuit.now.rows
    (λ row. longest_of c.args.flat.now c.args.circuit.now (wires_from c.args.flat.now c.args.circuit.now row)))
    (sym (written c.in_ok-longest.longest.len most _ held))
    (longest_entries c.args.flat.now c.args.circuit.now c.requires.order c.args.sources.now c.requires.sources
    c.args.lengths.now c.requires.lengths c.args.circuit.now.rows most long are)
