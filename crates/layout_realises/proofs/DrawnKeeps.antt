-- The circuit of a drawing, with what it answers.
use Rattle.std.proofs.Common.{ℕ, List, count_by}
use Rattle.layout_rules.specs.Nets.{AreNets}
use Rattle.rowed.specs.PlacedNets.{PlacedView}
use Rattle.cell_library.specs.Library.{LibraryView}
use Rattle.shape_extract.specs.Extraction.{is_wired}
use Rattle.layout_make.specs.MayDraw.{MayDraw}
use Rattle.layout_make.specs.Laws.{flat_shapes}
use Rattle.layout_realises.specs.DrawnCircuit.{drawn_circuit, IsDrawnAs}
use Rattle.layout_make.proofs.Ready.{TracksLaw}
use Rattle.layout_make.proofs.Wiring.{flat}
use Rattle.layout_realises.proofs.CircuitAnswers.{same_answers}
use Rattle.layout_realises.proofs.CircuitDrawn.{is_circuit}

pub drawn_as : (p : PlacedView) (l : LibraryView) → TracksLaw → MayDraw p l → (nets : List ℕ)
    → AreNets (flat_shapes p l) nets
    → IsDrawnAs p (flat p l) (drawn_circuit p (count_by (is_wired (flat p l)) (flat_shapes p l)) nets)
drawn_as p l law may nets are = record {
  circuit_is = is_circuit p l law may nets are;
  same = same_answers p may.placed (count_by (is_wired (flat p l)) (flat_shapes p l)) nets;
}
