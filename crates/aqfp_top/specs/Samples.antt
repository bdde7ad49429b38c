-- What a sample prints: the counts of the chip of its adder with library A, and the adder's answers to eight words.
use Rattle.std.specs.Prelude.{ℕ, Bool, List, length}
use Rattle.std.specs.List.{AllZip}
use Rattle.blif_read.specs.Parts.{NetView}
use Rattle.blif_read.specs.Says as netlist
use Rattle.blif_read.specs.Equations.{IsAnswer}
use Rattle.rowed.specs.PlacedNets.{PlacedView}
use Rattle.rowed.specs.Counts.{cells_in, wires_in}
use Rattle.cell_library.specs.LibraryA.{library_a_view}
use Rattle.plan_build.specs.Plans.{chip_of}
use Rattle.sample_adder.specs.Adder.{adder}
use Rattle.sample_adder.specs.EightWords.{eight}
use Rattle.sample_adder.specs.SampleText.{sample_text}
use Rattle.aqfp_top.specs.Designs.{KeepsLimits}

-- the text of a sample with this chip and these answers
abbrev pub text_of : ℕ → PlacedView → List (List Bool) → List ℕ
text_of bits chip answers =
    sample_text bits (length chip.net.rows) (cells_in chip.net.rows) (wires_in chip.net.rows) answers

-- the text of the sample was printed so far: the adder says a netlist, whose chip keeps all limits, and these are the
-- netlist's answers
pub record IsSampled (bits : ℕ) (Printed : List ℕ → Type 0) : Type 0 where
  pub equations : NetView
  pub says : netlist.SaysNet (adder bits) equations
  pub limits : KeepsLimits equations library_a_view
  pub answers : List (List Bool)
  pub are_answers : AllZip (IsAnswer equations) (eight bits) answers
  pub printed : Printed (text_of bits (chip_of library_a_view equations) answers)
