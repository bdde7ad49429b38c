use Rattle.std.proofs.Common.{◌≡◌, ◌∙◌, ℕ, List, Some, length, subst, sym, ap, arith}
use Rattle.std.specs.Prelude.{slice_get}
use Rattle.circuit_extracted.specs.declared.cells.ExCell.{ExCell}
use Rattle.circuit_extracted.specs.Circuits.{CircuitView, feed_at}
use Rattle.text_report.specs.Code.Skews.{FeedStands}
use Rattle.text_report.proofs.Skewed.{feeds_stand}
use Rattle.text_report.proofs.skews.skews_by_row.Goals as goal

pub raise_all-requires-clause-feeds : goal.raise_all-requires-clause-feeds
raise_all-requires-clause-feeds c number cell at i =
    let circuit : CircuitView = c.args.circuit.now in
    let cells : c.as_slice.result.now ≡ circuit.cells =
    c.as_slice.ensures ∙ ap (λ (v : CircuitView). v.cells) c.circuit.view_is in
    let is : slice_get circuit.cells number ≡ Some cell =
    ap (λ (l : List ExCell). slice_get l number) (sym cells) ∙ at in
    let rows : length c.deref_mut.result.now ≡ circuit.rows =
    omega (
      arith,
      ap (λ (v : CircuitView). v.rows) c.circuit.view_is,
      c.deref_mut.ensures.len,
      c.in_ok-skews.ensures.len,
    ) in
    subst (λ (l : List ExCell). FeedStands l (length c.deref_mut.result.now) (feed_at cell i)) (sym cells)
    (subst (λ (n : ℕ). FeedStands circuit.cells n (feed_at cell i)) (sym rows)
    (feeds_stand circuit c.known.ensures number cell is i))
