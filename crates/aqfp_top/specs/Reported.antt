-- What `report` prints of the texts of a layout and of a library.
use Rattle.std.specs.Prelude.{ℕ, ◌≡◌, List}
use Rattle.aq_base.specs.Output.{Output}
use Rattle.aq_base.specs.Output as output
use Rattle.aq_base.specs.History.{Event}
use Rattle.poly_cut.specs.FlatForm.{wide_flat}
use Rattle.circuit_extracted.specs.Circuits.{CircuitView}
use Rattle.shape_extract.specs.CellPlaces.{AreCellPlaces}
use Rattle.text_report.specs.ReportText.{report_text}
use Rattle.aqfp_top.specs.Checks.{MakesCircuit}
use Rattle.aqfp_top.specs.Histories.{loaded}

-- the layout is a chip with this library, its cells lie so along the excitation lines, and the text is its report
pub record IsReport (gds lib text : List ℕ) : Type 0 where
  pub circuit : CircuitView
  pub makes : MakesCircuit gds lib circuit
  pub near : ℕ → ℕ
  pub far : ℕ → ℕ
  pub places : AreCellPlaces (wide_flat makes.layout).shapes near far
  pub text_is : text ≡ report_text (wide_flat makes.layout) circuit near far makes.library.view.limit

-- what any store hears of it: GDS and LIB gave these bytes, and nothing else was asked or given
pub record HearsReport (history history' : List Event) (words : List (List ℕ)) (before after : Output)
    : Type 0 where
  pub gds : List ℕ
  pub lib : List ℕ
  pub history_is : history' ≡ loaded history words gds lib
  pub text : List ℕ
  pub report : IsReport gds lib text
  pub printed : after ≡ output.printed text before
