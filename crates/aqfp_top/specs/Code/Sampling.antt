-- The steps of a sample.
use Rattle.std.specs.Prelude.{ℕ, List}
use Rattle.std.specs.List.{AllZip}
use Rattle.blif_read.specs.Parts.{NetView}
use Rattle.blif_read.specs.Says as netlist
use Rattle.blif_read.specs.Equations.{IsAnswer}
use Rattle.cell_library.specs.LibraryA.{library_a_view}
use Rattle.plan_build.specs.Plans.{chip_of}
use Rattle.sample_adder.specs.Adder.{adder}
use Rattle.sample_adder.specs.EightWords.{eight}
use Rattle.sample_adder.specs.SampleText.{sample_text}
use Rattle.aqfp_top.specs.Designs.{KeepsLimits}
use Rattle.aqfp_top.specs.Code.Designing.{AreCountsOf}
use Rattle.aqfp_top.specs.declared.sample.SampleResult.{SampleResult}
use Rattle.aqfp_top.specs.declared.fault.Large.TheVariants.{Shapes, Functions, Design}
use Rattle.aqfp_top.specs.declared.fault.Fault.{Fault}
use Rattle.aqfp_top.specs.declared.fault.Fault.TheVariants.{BadBlif, TooLarge, Memory}

-- the counts of the chip of the adder, and the adder's answers
pub record IsSampleOfBits (bits : ℕ) (sample : SampleResult) : Type 0 where
  pub equations : NetView
  pub says : netlist.SaysNet (adder bits) equations
  pub limits : KeepsLimits equations library_a_view
  pub counts : AreCountsOf (chip_of library_a_view equations) sample.counts
  pub are_answers : AllZip (IsAnswer equations) (eight bits) sample.answers

-- the text of the sample
abbrev pub text_in : ℕ → SampleResult → List ℕ
text_in bits sample =
    sample_text bits sample.counts.rows sample.counts.cells sample.counts.wires sample.answers

-- the faults of making a sample
abbrev pub IsMakingFault : Fault → Type 0
IsMakingFault (BadBlif fault) = Unit {0}
IsMakingFault (TooLarge Shapes count) = ⊥
IsMakingFault (TooLarge Functions count) = ⊥
IsMakingFault (TooLarge Design count) = ⊥
IsMakingFault (TooLarge what count) = Unit {0}
IsMakingFault Memory = Unit {0}
IsMakingFault _ = ⊥
