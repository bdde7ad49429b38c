use Rattle.std.proofs.Common.{◌≡◌, ℕ, ◌<◌, List, length, sym, ap, subst, ◌∙◌}
use Rattle.std.specs.Prelude.{slice_index}
use Rattle.circuit_extracted.specs.Circuits.{CircuitView}
use Rattle.text_report.proofs.SourceRows.{nets_within}
use Rattle.text_report.proofs.Wired.{longest_is}
use Rattle.text_report.proofs.figures.longest_of.Goals as goal

pub longest_wire-requires-clause-nets : goal.longest_wire-requires-clause-nets
longest_wire-requires-clause-nets c =
    let same : c.as_slice-2.result.now ≡ c.args.circuit.now.nets =
    c.as_slice-2.ensures ∙ ap (λ (v : CircuitView). v.nets) c.circuit.view_is in
    subst (λ (ns : List ℕ). (i : ℕ) → i < length ns → slice_index ns i < length c.args.sources.now) (sym same)
    (nets_within c.args.flat.now.shapes c.args.circuit.now.nets (length c.args.sources.now)
    c.requires.order.are_nets c.requires.sources.long)

pub returns : goal.returns
returns c =
    let same : c.as_slice-2.result.now ≡ c.args.circuit.now.nets =
    c.as_slice-2.ensures ∙ ap (λ (v : CircuitView). v.nets) c.circuit.view_is in
    (rw (c.as_slice.ensures, same) at c.longest_wire.ensures)
    ∙ sym (longest_is c.args.flat.now c.args.circuit.now c.requires.order c.args.sources.now c.requires.sources
    c.args.lengths.now c.requires.lengths)
