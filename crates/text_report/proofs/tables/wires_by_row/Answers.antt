use Rattle.std.proofs.Common.{◌≡◌, ℕ, ◌<◌, ◌∙◌, List, length, sym, ap, subst, arith}
use Rattle.std.specs.Prelude.{slice_index, zip}
use Rattle.geom.specs.declared.shapes.Shape.{Shape}
use Rattle.circuit_extracted.specs.Circuits.{CircuitView}
use Rattle.text_report.specs.Wires.{wires_from}
use Rattle.text_report.specs.Code.Sources.{row_left}
use Rattle.text_report.specs.Code.Tables.{AreCounts, HasEntries}
use Rattle.text_report.proofs.Keyed.{written}
use Rattle.text_report.proofs.SourceRows.{nets_within}
use Rattle.text_report.proofs.Wired.{wires_entries}
use Rattle.text_report.proofs.tables.wires_by_row.Goals as goal

pub count_leaving-requires-clause-nets : goal.count_leaving-requires-clause-nets
count_leaving-requires-clause-nets c =
    let same : c.as_slice-nets.result.now ≡ c.args.circuit.now.nets =
    c.as_slice-nets.ensures ∙ ap (λ (v : CircuitView). v.nets) c.circuit.view_is in
    subst (λ (ns : List ℕ). (i : ℕ) → i < length ns → slice_index ns i < length c.args.sources.now) (sym same)
    (nets_within c.args.flat.now.shapes c.args.circuit.now.nets (length c.args.sources.now)
    c.requires.order.are_nets c.requires.sources.long)

pub returns : goal.returns
returns c =
    let same : c.as_slice-nets.result.now ≡ c.args.circuit.now.nets =
    c.as_slice-nets.ensures ∙ ap (λ (v : CircuitView). v.nets) c.circuit.view_is in
    let counts : List ℕ = c.count_leaving.new.counts in
    let are : AreCounts (row_left c.args.sources.now) (zip c.args.flat.now.shapes c.args.circuit.now.nets) counts =
    subst (λ (ns : List ℕ). AreCounts (row_left c.args.sources.now) (zip c.args.flat.now.shapes ns) counts) same
    (subst (λ (ss : List Shape). AreCounts (row_left c.args.sources.now) (zip ss c.as_slice-nets.result.now) counts)
    c.as_slice.ensures c.count_leaving.ensures) in
    let rows : c.circuit.inside.rows ≡ c.args.circuit.now.rows = ap (λ (v : CircuitView). v.rows) c.circuit.view_is in
    let long : length counts ≡ c.args.circuit.now.rows =
    omega (arith, rows, c.count_leaving.auto.counts, c.deref_mut.ensures.len, c.in_ok-counts.ensures.len) in
    let held : length counts ≡ c.in_ok-counts.counts.len =
    omega (arith, long, rows, c.in_ok-counts.ensures.len) in
    subst (HasEntries c.args.circuit.now.rows (λ row. length (wires_from c.args.flat.now c.args.circuit.now row)))
    (sym (written c.in_ok-counts.counts.len counts _ held))
    (wires_entries c.args.flat.now c.args.circuit.now c.requires.order c.args.sources.now c.requires.sources
    c.args.circuit.now.rows counts long are)
